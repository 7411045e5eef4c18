-- That `div_z` and `clamp_z` are what their names say.
use mathlib.Core.Path.{◌≡◌, refl, sym, ap, ◌∙◌}
use mathlib.Core.Bool.{false}
use Prim.Native.Nat.{ℕ, suc, ◌+◌, ◌-◌, ◌*◌, ◌/◌, ◌%◌, ◌<◌}
use native.Mathlib.Nat.{div-add-mod, mod-lt, mul-suc, mul_comm}
use native.Mathlib.Omega.{arith}
use lib.IntN.{ℤ, pos, negsuc, sub_ℕ, ◌+ℤ◌, ◌*ℤ◌}
use lib.Signed.{lt_z, ◌≤ℤ◌, ≤ℤ_refl, lt_z_no, lt_z_yes, clash_ℤ}
use Rattle.numbers.specs.Offset.{clamp_z, div_z}
use Rattle.numbers.proofs.Bounds.{picked}
use Rattle.numbers.proofs.Offset.{sub_eq, sub_none, none_sub, neg_sub, sub_add, whole, rounded}

-- ---- divided by n and rounded down: n times the quotient, and a rest in 0..n - 1

-- the rest that is left
abbrev pub rest_of : ℤ → ℕ → ℕ
rest_of (pos a) n = a % n
rest_of (negsuc a) n = n - suc (a % n)

negative_times : (n q r : ℕ) → pos n *ℤ negsuc q +ℤ pos r ≡ sub_ℕ r (suc q * n)
negative_times n q r =
    (λ i. neg_sub (n * suc q) i +ℤ sub_none r i) ∙ sub_add 0 (n * suc q) r 0 ∙
    sub_eq (0 + r) (n * suc q + 0) r (suc q * n) (omega (arith, mul_comm n (suc q)))

pub divided_back : (z : ℤ) (n : ℕ) → 0 < n → z ≡ pos n *ℤ div_z z n +ℤ pos (rest_of z n)
divided_back (pos a) n h = ap pos (sym (div-add-mod a n))
divided_back (negsuc a) n h =
    none_sub a ∙
    sub_eq 0 (suc a) (n - suc (a % n)) (suc (a / n) * n) (omega (arith, div-add-mod a n, mod-lt a h, mul_comm n (suc (a / n)), mul-suc n (a / n))) ∙
    sym (negative_times n (a / n) (n - suc (a % n)))

pub rest_below : (z : ℤ) (n : ℕ) → 0 < n → rest_of z n < n
rest_below (pos a) n h = mod-lt a h
rest_below (negsuc a) n h = omega arith

-- and no other number is such a quotient
pub divided_only : (q : ℤ) (n r : ℕ) → r < n → div_z (pos n *ℤ q +ℤ pos r) n ≡ q
divided_only (pos b) n r h = ap pos (ap (λ (x : ℕ). (x + r) / n) (mul_comm n b) ∙ whole b r n h)
divided_only (negsuc b) n r h =
    ap (λ (z : ℤ). div_z z n) (negative_times n b r ∙ sub_eq r (suc b * n) (0 * n + r) (suc b * n) (omega arith)) ∙ rounded 0 (suc b) r n h
    ∙ sym (none_sub b)

-- ---- clamped to lo..hi: in it, and nothing else where it is in it already

not_below : {a b : ℤ} → lt_z a b ≡ false → b ≤ℤ a
not_below {a} {b} e = lt_z_no {a = a} {b = b} (rw e tt)

module _ (lo hi z : ℤ) where
  pub clamp_low : lo ≤ℤ hi → lo ≤ℤ clamp_z lo hi z
  clamp_low h =
      picked (λ (w : ℤ). lo ≤ℤ w) (lt_z z lo) lo _ (λ e. ≤ℤ_refl lo)
      (λ e. picked (λ (w : ℤ). lo ≤ℤ w) (lt_z hi z) hi z (λ d. h) (λ d. not_below e))

  pub clamp_high : lo ≤ℤ hi → clamp_z lo hi z ≤ℤ hi
  clamp_high h =
      picked (λ (w : ℤ). w ≤ℤ hi) (lt_z z lo) lo _ (λ e. h)
      (λ e. picked (λ (w : ℤ). w ≤ℤ hi) (lt_z hi z) hi z (λ d. ≤ℤ_refl hi) (λ d. not_below d))

  pub clamp_inside : lo ≤ℤ z → z ≤ℤ hi → clamp_z lo hi z ≡ z
  clamp_inside l h =
      picked (λ (w : ℤ). w ≡ z) (lt_z z lo) lo _ (λ e. clash_ℤ {a = z} {b = lo} (lt_z_yes (rw e tt)) l)
      (λ e. picked (λ (w : ℤ). w ≡ z) (lt_z hi z) hi z (λ d. clash_ℤ {a = hi} {b = z} (lt_z_yes (rw d tt)) h) (λ d. refl))
