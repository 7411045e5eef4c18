-- The laws over plain numbers: a clamp repeated is one clamp, and how often a counter comes due.
use mathlib.Core.Path.{◌≡◌}
use mathlib.Core.Logic.{◌⊎◌, inl, inr, ⊎_elim}
use Prim.Native.Nat.{ℕ, suc, ◌+◌, ◌-◌, ◌*◌, ◌/◌, ◌≤◌, ◌<◌, min}
use native.Mathlib.Nat.{mul-le-mul_left, mul-le-mul_right, div-mul-le_self, lt-div-mul-add, le-div_iff_mul-le, div-lt_iff_lt-mul, eq-zero-or-pos, min-le_right}
use native.Mathlib.Omega.{arith}

pub either_way : (a b : ℕ) → (a ≤ b) ⊎ (b ≤ a)
either_way a b = ⊎_elim (λ e. inl (omega arith)) (λ e. inr (omega arith)) (eq-zero-or-pos (a - b))

pub reached : (a b : ℕ) → (a ≤ b) ⊎ (b < a)
reached a b = ⊎_elim (λ e. inl (omega arith)) (λ e. inr (omega arith)) (eq-zero-or-pos (a - b))

-- ---- a clamp, k times: x grows by a - z each time, between 0 and top

abbrev pub clamped : ℕ → ℕ → ℕ → ℕ → ℕ → ℕ
clamped x a z top k = min (x + k * a - k * z) top

module _ (x a z top k : ℕ) (h : x ≤ top) where
  clamped_up : z ≤ a → min (clamped x a z top k + a - z) top ≡ clamped x a z top (suc k)
  clamped_up p = let q = mul-le-mul_left k p in omega arith

  clamped_down : a ≤ z → min (clamped x a z top k + a - z) top ≡ clamped x a z top (suc k)
  clamped_down p = let q = mul-le-mul_left k p in omega arith

  pub clamped_more : min (clamped x a z top k + a - z) top ≡ clamped x a z top (suc k)
  clamped_more = ⊎_elim clamped_up clamped_down (either_way z a)

  -- it goes one way
  pub rises : z ≤ a → (x ≤ clamped x a z top k) × (clamped x a z top k ≤ clamped x a z top (suc k))
  rises p = let q = mul-le-mul_left k p in omega arith

  pub falls : a ≤ z → (clamped x a z top k ≤ x) × (clamped x a z top (suc k) ≤ clamped x a z top k)
  falls p = let q = mul-le-mul_left k p in omega arith

-- from some step on
module _ (x a z top i j : ℕ) where
  pub rises_on : z ≤ a → clamped x a z top i ≤ clamped x a z top (i + j)
  rises_on p = omega (arith, mul-le-mul_left i p, mul-le-mul_left j p)

  pub falls_on : a ≤ z → clamped x a z top (i + j) ≤ clamped x a z top i
  falls_on p = omega (arith, mul-le-mul_left i p, mul-le-mul_left j p)

-- ---- a counter that loses l when it has reached l, once a step

-- after j steps it has lost l this often; t is the counter and all that was added
abbrev pub lost : ℕ → ℕ → ℕ → ℕ
lost l t j = min j (t / l)

pub lost_fits : (l t j : ℕ) → lost l t j * l ≤ t
lost_fits l t j = omega (arith, mul-le-mul_right l (min-le_right j (t / l)), div-mul-le_self t l)

module _ (l t u j : ℕ) (pos : 0 < l) (more : t ≤ u) (few : u ≤ t + l) where
  -- a step adds at most l, so the quotient grows by at most 1
  quotient_up : t / l ≤ u / l
  quotient_up = (le-div_iff_mul-le pos).1 (omega (arith, div-mul-le_self t l))

  quotient_few : u / l < t / l + 2
  quotient_few = (div-lt_iff_lt-mul pos).1 (omega (arith, lt-div-mul-add {a = t} pos))

  pub lost_due : l ≤ u - lost l t j * l → lost l u (suc j) ≡ suc (lost l t j)
  lost_due d =
      let e : suc (lost l t j) ≤ u / l = (le-div_iff_mul-le pos).1 (omega arith) in
      omega (arith, quotient_few)

  pub lost_still : u - lost l t j * l < l → lost l u (suc j) ≡ lost l t j
  lost_still d =
      let e : u / l < suc (lost l t j) = (div-lt_iff_lt-mul pos).1 (omega arith) in
      omega (arith, quotient_up)
