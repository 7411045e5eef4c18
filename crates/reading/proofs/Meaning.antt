-- What the steps of a reading mean in signed numbers, proved.
use mathlib.Core.Path.{◌≡◌, refl, sym, ap, ◌∙◌}
use Prim.Native.Nat.{ℕ, zero, suc, ◌+◌, ◌-◌, ◌*◌, ◌/◌, ◌^◌, ◌≤◌, min, max}
use native.Mathlib.Nat.{zero-mul, zero-div, div-zero}
use native.Mathlib.Omega.{arith}
use lib.Dec.{ltb, leb-suc-zero}
use lib.IntN.{ℤ, pos, negsuc, neg_ℤ, sub_ℕ, ◌+ℤ◌, ◌-ℤ◌, ◌*ℤ◌}
use lib.Signed.{lt_z}
use borrow.Author.Tests.{lt-ltb, le-ltb}
use Rattle.numbers.specs.Choice.{pick}
use Rattle.numbers.specs.Offset.{value, div_z, or_zero, at_most_z, at_least_z}
use Rattle.numbers.proofs.Offset as offset
use Rattle.numbers.proofs.Offset.{order, sub_pos, sub_neg, sub_eq, sub_add, sub_none, neg_sub, at_most}
use Rattle.params.specs.declared.Breaks.{Breaks}
use Rattle.params.specs.declared.Slopes.{Slopes}
use Rattle.reading.specs.Reading.{slope_of, forty, slopes_over, slopes_to, full_line_of, volt_of, temp_of, degrees_of, drains_of, left_of, usable_of}
use Rattle.reading.specs.Reading.{percent_of}
use Rattle.reading.specs.Reading.{amount_of, volt_z, temp_z, degrees_z, slope_z, slopes_over_z, slopes_z, full_line_z, drains_z, left_z, usable_z, percent_z}
use Rattle.reading.specs.Reading.{amount_z}
use Rattle.reading.specs.Meaning.{ReadingMeans}
use Rattle.conversion.proofs.Meaning.{less, less_pos, stops}

-- ---- reading

pub volt_means : (raw : ℕ) → pos (volt_of raw) ≡ volt_z (value 31 raw)
volt_means raw = sym (offset.clamped_natural raw (2 ^ 31) 1023)

pub temp_means : (raw : ℕ) → value 10 (temp_of raw) ≡ temp_z (value 31 raw)
temp_means raw =
    let e : raw + 1024 - 2 ^ 31 ≡ raw - (2 ^ 31 - 2 ^ 10) = omega arith in
    sym (offset.clamped raw (2 ^ 31) 1023 ∙ ap (λ (x : ℕ). value 10 (min x 2047)) e)

pub degrees_means : (temp : ℕ) → value 7 (degrees_of temp) ≡ degrees_z (value 10 temp)
degrees_means temp =
    offset.divided (temp + 4) (2 ^ 7) 8 (omega arith)
    ∙ ap (λ (z : ℤ). div_z z 8) (sym (ap (λ (z : ℤ). value 10 temp +ℤ z) (sub_none 4) ∙ sub_add temp (2 ^ 10) 4 0))

pub slope_means : (b : Breaks) (s : Slopes) (t : ℕ) → slope_of b s t ≡ slope_z b s (value 7 t)
slope_means b s t = λ i.
    pick (at_most 7 b.b34 t i) s.s4 (pick (at_most 7 b.b23 t i) s.s3 (pick (at_most 7 b.b12 t i) s.s2 s.s1))

slopes_over_lem : (b : Breaks) (s : Slopes) (n : ℕ) → n ≤ forty → slopes_over b s n ≡ slopes_over_z b s n
unfolding slopes_over slopes_over_z
slopes_over_lem b s zero h = refl
slopes_over_lem b s (suc n) h =
    let e : value 7 (forty - 1 - n) ≡ pos 39 -ℤ pos n = sub_eq (forty - 1 - n) (2 ^ 7) 39 n (omega arith) ∙ sym (less_pos 39 n) in
    λ i. slopes_over_lem b s n (omega arith) i + (slope_means b s (forty - 1 - n) ∙ ap (slope_z b s) e) i

pub slopes_means : (b : Breaks) (s : Slopes) (t : ℕ) → slopes_to b s t ≡ slopes_z b s (value 7 t)
slopes_means b s t =
    let e : pos 40 -ℤ value 7 t
    ≡ sub_ℕ forty t = ap (λ (z : ℤ). z -ℤ value 7 t) (sub_none 40) ∙ less 40 0 t (2 ^ 7) ∙ sub_eq (40 + 2 ^ 7) (0 + t) forty t (omega arith) in
    slopes_over_lem b s (forty - t) (omega arith) ∙ ap (slopes_over_z b s) (stops forty t ∙ ap or_zero (sym e))

at_least : (low a b : ℕ) → pos (max (a - b) low) ≡ at_least_z (pos low) (sub_ℕ a b)
at_least low a b =
    order a b _
    (λ h. simp (sub_neg a b h) (ap pos (omega arith)))
    (λ h. order (a - b) low _
    (λ k. simp (sub_pos a b h, lt-ltb (a - b) low k) (ap pos (omega arith)))
    (λ k. simp (sub_pos a b h, le-ltb (a - b) low k) (ap pos (omega arith))))

pub full_line_means : (slopes : ℕ) → pos (full_line_of slopes) ≡ full_line_z slopes
full_line_means slopes = at_least 8192 16384 slopes ∙ ap (at_least_z (pos 8192)) (sym (less_pos 16384 slopes))

pub drains_means : (c iae : ℕ) → drains_of c iae ≡ drains_z (value 15 c) iae
drains_means c iae =
    let n = 128 * iae in
    order (c + n) (0 + 2 ^ 15) (drains_of c iae ≡ ltb (c + n) (0 + 2 ^ 15))
    (λ h. lt-ltb c (2 ^ 15 - n) (omega arith) ∙ sym (lt-ltb (c + n) (0 + 2 ^ 15) h))
    (λ h. le-ltb c (2 ^ 15 - n) (omega arith) ∙ sym (le-ltb (c + n) (0 + 2 ^ 15) h)) ∙
    offset.sub_lt c (2 ^ 15) 0 n ∙ ap (lt_z (value 15 c)) (sym (neg_sub n))

pub left_means : (acr empty full40 : ℕ) → left_of acr empty full40 ≡ or_zero (left_z acr empty full40)
unfolding left_of
left_means acr empty full40 = stops (16384 * acr) (empty * full40) ∙ ap or_zero (sym (less_pos (16384 * acr) (empty * full40)))

neg_stops : (n : ℕ) → 0 ≡ or_zero (neg_ℤ (pos n))
neg_stops zero = refl
neg_stops (suc n) = refl

pub usable_means : (aged_full empty full40 : ℕ) → usable_of aged_full empty full40 ≡ or_zero (usable_z aged_full empty full40)
unfolding usable_of
usable_means aged_full empty full40 =
    order aged_full empty ((aged_full - empty) * full40 ≡ or_zero (sub_ℕ aged_full empty *ℤ pos full40))
    (λ h. let none : aged_full - empty ≡ 0 = omega arith in
    ap (λ (x : ℕ). x * full40) none ∙ zero-mul full40 ∙ neg_stops (suc (empty - suc aged_full) * full40) ∙
    ap (λ (z : ℤ). or_zero (z *ℤ pos full40)) (sym (sub_neg aged_full empty h)))
    (λ h. simp (sub_pos aged_full empty h)) ∙
    ap (λ (z : ℤ). or_zero (z *ℤ pos full40)) (sym (less_pos aged_full empty))

at_most_hundred : (q : ℕ) → pos (min q 100) ≡ at_most_z (pos 100) (pos q)
at_most_hundred q =
    order 100 q _
    (λ h. simp (lt-ltb 100 q h) (ap pos (omega arith))) (λ h. simp (le-ltb 100 q h) (ap pos (omega arith)))

percent_is : (n d : ℤ) → pos (percent_of (or_zero n) (or_zero d)) ≡ percent_z n d
unfolding percent_of
percent_is (negsuc n) d = simp zero-div
percent_is (pos zero) d = simp zero-div
percent_is (pos (suc n)) (negsuc d) = simp (leb-suc-zero, div-zero)
percent_is (pos (suc n)) (pos zero) = simp (leb-suc-zero, div-zero)
percent_is (pos (suc n)) (pos (suc d)) = simp leb-suc-zero (at_most_hundred (100 * suc n / suc d))

amount_is : (n : ℤ) (rsnsp : ℕ) → pos (amount_of (or_zero n) rsnsp) ≡ amount_z n rsnsp
unfolding amount_of
amount_is (negsuc n) rsnsp = simp zero-mul
amount_is (pos zero) rsnsp = simp zero-mul
amount_is (pos (suc n)) rsnsp = simp leb-suc-zero

-- RARC and RAAC; with SE for AE, RSRC and RSAC
pub percent_means : (acr aged_full empty full40 : ℕ) →
    pos (percent_of (left_of acr empty full40) (usable_of aged_full empty full40)) ≡ percent_z (left_z acr empty full40) (usable_z aged_full empty full40)
percent_means acr aged_full empty full40 =
    (λ i. pos (percent_of (left_means acr empty full40 i) (usable_means aged_full empty full40 i))) ∙
    percent_is (left_z acr empty full40) (usable_z aged_full empty full40)

pub amount_means : (acr empty full40 rsnsp : ℕ) → pos (amount_of (left_of acr empty full40) rsnsp) ≡ amount_z (left_z acr empty full40) rsnsp
amount_means acr empty full40 rsnsp =
    (λ i. pos (amount_of (left_means acr empty full40 i) rsnsp)) ∙ amount_is (left_z acr empty full40) rsnsp

-- ---- all of them

pub reading_means : ReadingMeans
reading_means = record {
  volt = volt_means;
  temp = temp_means;
  degrees = degrees_means;
  slope = slope_means;
  slopes_down = slopes_means;
  full_line = full_line_means;
  drains = drains_means;
  left = left_means;
  usable = usable_means;
  percent = percent_means;
  amount = amount_means;
}
