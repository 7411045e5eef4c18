-- What the steps mean in signed numbers, proved.
use mathlib.Core.Path.{◌≡◌, refl, sym, ap, ◌∙◌}
use mathlib.Core.Bool.{Bool, not}
use mathlib.Core.List.{List, [], ◌∷◌}
use Prim.Native.Nat.{ℕ, suc, ◌+◌, ◌-◌, ◌*◌, ◌/◌, ◌^◌, ◌<◌, min}
use native.Mathlib.Omega.{arith}
use lib.Dec.{eqb, ltb, leb, leb-suc-suc}
use lib.ListN.{length}
use lib.IntN.{ℤ, pos, neg_ℤ, sub_ℕ, ◌+ℤ◌, ◌-ℤ◌}
use lib.Signed.{le_z}
use borrow.Author.Tests.{eq-eqb, ne_eqb}
use Rattle.numbers.specs.Choice.{pick, both, either}
use Rattle.numbers.specs.Offset.{zero_at, value, signed, clamp_z, div_z, minus, or_zero}
use Rattle.numbers.proofs.Bounds.{through}
use Rattle.numbers.proofs.Offset as offset
use Rattle.numbers.proofs.Offset.{order, sub_pos, sub_neg, sub_eq, sub_add, sub_none, neg_sub, compared, at_most}
use Rattle.params.specs.declared.Counting.{Counting}
use Rattle.params.specs.Params.{byte_at, signed_at}
use Rattle.state.specs.declared.Charge.{Charge}
use Rattle.state.specs.declared.Flow.{Flow}
use Rattle.state.specs.declared.Profile.{Profile}
use Rattle.state.specs.declared.Profile.TheVariants.{Ds2781, Ds2775}
use Rattle.state.specs.State.{blanking_edge_of, acr_of, run_of}
use Rattle.conversion.specs.Conversion.{current_of, offset_turn, converted_of, negative, turned_of, blanked_of, grown_of, new_count, fall_of, next_made}
use Rattle.conversion.specs.Conversion.{averaged_of, tapers_of, current_z, negative_z, turned_z, slight_z, blanked_z, grown_z, added_z, fall_z, sum_z}
use Rattle.conversion.specs.Conversion.{mean_z, tapers_z, averaged_over}
use Rattle.conversion.specs.Meaning.{ConversionMeans}
use Rattle.state.specs.declared.Average.{Average}

-- ---- differences

flip : (a b : ℕ) → neg_ℤ (sub_ℕ a b) ≡ sub_ℕ b a
flip a b =
    order a b _
    (λ h. ap neg_ℤ (sub_neg a b h) ∙ ap pos (omega arith) ∙ sym (sub_pos b a (omega arith)))
    (λ h. ap neg_ℤ (sub_pos a b h) ∙ neg_sub (a - b) ∙ sub_eq 0 (a - b) b a (omega arith))

-- the difference of two differences, and of two natural numbers
pub less : (a m b n : ℕ) → sub_ℕ a m -ℤ sub_ℕ b n ≡ sub_ℕ (a + n) (m + b)
less a m b n = ap (λ (z : ℤ). sub_ℕ a m +ℤ z) (flip b n) ∙ sub_add a m n b

pub less_pos : (a b : ℕ) → pos a -ℤ pos b ≡ sub_ℕ a b
less_pos a b = (λ i. sub_none a i -ℤ sub_none b i) ∙ less a 0 b 0 ∙ sub_eq (a + 0) (0 + b) a b (omega arith)

-- a difference that stops at 0
pub stops : (a b : ℕ) → a - b ≡ or_zero (sub_ℕ a b)
stops a b =
    order a b _ (λ h. simp (sub_neg a b h) (omega arith)) (λ h. simp (sub_pos a b h))

-- ---- the parameters, and what is 0 at power-on

pub parameter_means : (block : List ℕ) (address : ℕ) → byte_at block address < 256 → value 7 (signed_at block address) ≡ signed 7 (byte_at block address)
parameter_means block address h = offset.word8 (byte_at block address) h

pub zero_means : (k : ℕ) → value k (zero_at k) ≡ pos 0
zero_means k = sub_eq (zero_at k) (zero_at k) 0 0 (omega arith)

-- ---- conversion

pub current_means : (raw cob : ℕ) → value 15 (current_of raw cob) ≡ current_z (value 31 raw) (value 7 cob)
current_means raw cob =
    let e : raw + cob + 32768 - (2 ^ 31 + 2 ^ 7) ≡ raw + cob - (2 ^ 31 + 2 ^ 7 - 2 ^ 15) = omega arith in
    sym (ap (clamp_z (minus 32768) (pos 32767)) (offset.sum 31 7 raw cob) ∙ offset.clamped (raw + cob) (2 ^ 31 + 2 ^ 7) 32767 ∙
    ap (λ (x : ℕ). value 15 (min x 65535)) e)

-- c is the one before on the 1024th, and else raw + COB
pub converted_means : (f : Flow) (raw cob : ℕ)
    → value 15 (converted_of f raw cob) ≡ pick (eqb f.average.made 1023) (value 15 f.trace.last) (current_z (value 31 raw) (value 7 cob))
converted_means f raw cob =
    let turn = offset_turn f.average in
    through (value 15) turn f.trace.last (current_of raw cob) ∙ ap (pick turn (value 15 f.trace.last)) (current_means raw cob)

pub negative_means : (c : ℕ) → negative c ≡ negative_z (value 15 c)
negative_means c = offset.below_zero 15 c

pub turned_means : (last c : ℕ) → turned_of last c ≡ turned_z (value 15 last) (value 15 c)
turned_means last c = λ i. both (negative_means c i) (not (negative_means last i))

slight_means : (f : Profile) (c : ℕ) → both (ltb (zero_at 15 - blanking_edge_of f) c) (ltb c (zero_at 15)) ≡ slight_z f (value 15 c)
slight_means Ds2781 c = λ i. both (compared 15 (zero_at 15 - 16) c i) (compared 15 c (zero_at 15) i)
slight_means Ds2775 c = λ i. both (at_most 15 (zero_at 15 - 16) c i) (compared 15 c (zero_at 15) i)

pub blanked_means : (f : Profile) (nben : Bool) (c : ℕ) → value 15 (blanked_of f nben c) ≡ blanked_z f nben (value 15 c)
blanked_means f nben c =
    let small = both (ltb (zero_at 15) c) (ltb c (zero_at 15 + 64)) in
    let slight = both nben (both (ltb (zero_at 15 - blanking_edge_of f) c) (ltb c (zero_at 15))) in
    through (value 15) (either small slight) (zero_at 15) c ∙
    (λ i. pick
    (either (both (compared 15 (zero_at 15) c i) (compared 15 c (zero_at 15 + 64) i)) (both nben (slight_means f c i))) (pos 0) (value 15 c))

pub grown_means : (count counted ab : ℕ) → pos (grown_of count counted ab) ≡ grown_z (pos count) (value 15 counted) (value 7 ab)
grown_means count counted ab = offset.grown 15 7 count counted ab (2 ^ 28 - 1)

-- steps 2 and 3 together
pub count_means : (f : Profile) (p : Counting) (g : Charge) (c : ℕ)
    → pos (new_count f p g c) ≡ added_z g.mark (pos g.count) (blanked_z f p.nben (value 15 c)) (value 7 p.ab)
count_means f p g c =
    let grown = grown_means g.count (blanked_of f p.nben c) p.ab ∙
    ap (λ (z : ℤ). grown_z (pos g.count) z (value 7 p.ab)) (blanked_means f p.nben c) in
    through pos g.mark g.count _ ∙ ap (pick g.mark (pos g.count)) grown

pub fall_means : (old new : ℕ) → fall_of old new ≡ fall_z (acr_of old) (acr_of new)
fall_means old new = stops (acr_of old) (acr_of new) ∙ ap or_zero (sym (less_pos (acr_of old) (acr_of new)))

total : List ℕ → ℕ
total [] = 0
total (c ∷ cs) = c + total cs

sum_is : (cs : List ℕ) → sum_z cs ≡ sub_ℕ (total cs) (length cs * zero_at 15)
unfolding total
sum_is [] = refl
sum_is (c ∷ cs) =
    ap (λ (z : ℤ). value 15 c +ℤ z) (sum_is cs) ∙ sub_add c (zero_at 15) (total cs) (length cs * zero_at 15) ∙
    sub_eq (c + total cs) (zero_at 15 + length cs * zero_at 15) (c + total cs) (suc (length cs) * zero_at 15) (omega arith)

iavg_is : (c : ℕ) (cs : List ℕ) (a : Average) → run_of a + length cs ≡ 7 → (averaged_over a (c ∷ cs)).iavg ≡ (a.sum + total (c ∷ cs)) / 8
unfolding averaged_of total
iavg_is c [] a h =
    let e : a.sum + c ≡ a.sum + (c + 0) = omega arith in
    simp (eq-eqb (run_of a) 7 (omega arith)) (ap (λ (x : ℕ). x / 8) e)
iavg_is c (d ∷ ds) a h =
    let next : Average = record { made = next_made a.made; sum = a.sum + c; iavg = a.iavg; known = a.known } in
    let e : averaged_of a c ≡ next = simp (ne_eqb (run_of a) 7 (λ s. omega arith)) in
    let sums : a.sum + c + total (d ∷ ds) ≡ a.sum + total (c ∷ d ∷ ds) = omega arith in
    ap (λ (b : Average). (averaged_over b (d ∷ ds)).iavg) e ∙ iavg_is d ds next (omega arith) ∙ ap (λ (x : ℕ). x / 8) sums

-- IAVG after the eight c of a run
pub mean_means : (a : Average) (cs : List ℕ) → run_of a ≡ 0 → a.sum ≡ 0 → length cs ≡ 8 → value 15 (averaged_over a cs).iavg ≡ mean_z cs
mean_means a [] r s h = absurd (omega arith)
mean_means a (c ∷ cs) r s h =
    let sums : a.sum + total (c ∷ cs) ≡ total (c ∷ cs) = omega arith in
    ap (value 15) (iavg_is c cs a (omega arith) ∙ ap (λ (x : ℕ). x / 8) sums) ∙ offset.divided (total (c ∷ cs)) (2 ^ 15) 8 (omega arith) ∙
    ap (λ (z : ℤ). div_z z 8)
    (sub_eq (total (c ∷ cs)) (2 ^ 15 * 8) (total (c ∷ cs)) (length (c ∷ cs) * zero_at 15) (omega arith) ∙ sym (sum_is (c ∷ cs)))

pub tapers_means : (imin x : ℕ) → tapers_of imin x ≡ tapers_z imin (value 15 x)
tapers_means imin x =
    let y = zero_at 15 + 32 * imin - 1 in
    let next : zero_at 15 + 32 * imin ≡ suc y = omega arith in
    let below : ltb x (zero_at 15 + 32 * imin) ≡ le_z (value 15 x) (pos (32 * imin) -ℤ pos 1) =
    ap (leb (suc x)) next ∙ leb-suc-suc x y ∙ at_most 15 x y ∙ ap (le_z (value 15 x)) (sub_eq y (2 ^ 15) (32 * imin) 1 (omega arith)) in
    λ i. both (at_most 15 (suc (zero_at 15)) x i) (below i)

-- ---- all of them

pub conversion_means : ConversionMeans
conversion_means = record {
  parameter = parameter_means;
  nought = zero_means;
  current = current_means;
  converted = converted_means;
  turned = turned_means;
  blanked = blanked_means;
  grown = grown_means;
  counted = count_means;
  fall = fall_means;
  mean = mean_means;
  tapers = tapers_means;
}
