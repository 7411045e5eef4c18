-- The three lines by product are those of the walk, whatever the order of the breakpoints, at every t: one degree more on either side.
use mathlib.Core.Path.{◌≡◌, refl, ◌∙◌}
use Prim.Native.Nat.{ℕ, zero, suc, ◌+◌, ◌-◌, ◌≤◌, ◌<◌, min}
use native.Mathlib.Omega.{arith}
use lib.Dec.{leb}
use borrow.Author.Tests.{leb-true, leb-false}
use Rattle.numbers.proofs.Bounds.{picked}
use Rattle.params.specs.declared.Breaks.{Breaks}
use Rattle.params.specs.declared.Slopes.{Slopes}
use Rattle.params.specs.declared.Curves.{Curves}
use Rattle.reading.specs.Reading.{slope_of, forty, slopes_over, slopes_to, model_lines}
use Rattle.reading.specs.Product.{between, segments_of, slopes_by, product_of}

-- one degree further down, at t, there is one more of those at least low and below high if t is one of them, and else as many as before
module _ (low high t : ℕ) (h : t < forty) where
  inside : low ≤ t → t < high → between low high t ≡ between low high (t + 1) + 1
  inside p q = omega arith

  below : t < low → between low high t ≡ between low high (t + 1)
  below p = omega arith

  above : high ≤ t → between low high t ≡ between low high (t + 1)
  above p = omega arith

-- from 40 on there is none
past : (low high t : ℕ) → forty ≤ t → between low high t ≡ 0
past low high t h = omega arith

module _ (b : Breaks) (s : Slopes) where
  -- so t's segment has one degree more, and the other three have as many as before
  product_more : (t : ℕ) → t < forty → slopes_by b s t ≡ slopes_by b s (t + 1) + slope_of b s t
  unfolding segments_of
  product_more t h =
      let b34 = b.b34 in
      let b23 = b.b23 in
      let b12 = b.b12 in
      let b3 = min b34 b23 in
      let b2 = min b3 b12 in
      picked P (leb b34 t) _ _
      (λ e. let l = leb-true b34 t e in
      rw (inside b34 forty t h l h, above b23 b34 t h l, above b12 b3 t h (omega arith), above 0 b2 t h (omega arith)) (omega arith))
      (λ e. let l = leb-false b34 t e in picked P (leb b23 t) _ _
      (λ f. let m = leb-true b23 t f in
      rw (below b34 forty t h l, inside b23 b34 t h m l, above b12 b3 t h (omega arith), above 0 b2 t h (omega arith)) (omega arith))
      (λ f. let m = leb-false b23 t f in picked P (leb b12 t) _ _
      (λ g. let n = leb-true b12 t g in
      rw (below b34 forty t h l, below b23 b34 t h m, inside b12 b3 t h n (omega arith), above 0 b2 t h (omega arith)) (omega arith))
      (λ g. let n = leb-false b12 t g in
      rw (below b34 forty t h l, below b23 b34 t h m, below b12 b3 t h n, inside 0 b2 t h (omega arith) (omega arith)) (omega arith))))
    where
      P : ℕ → Type 0
      P slope = slopes_by b s t ≡ slopes_by b s (t + 1) + slope

  none : (t : ℕ) → forty ≤ t → slopes_by b s t ≡ 0
  unfolding segments_of
  none t h =
      rw (past b.b34 forty t h, past b.b23 b.b34 t h, past b.b12 (min b.b34 b.b23) t h, past 0 (min (min b.b34 b.b23) b.b12) t h)
      (omega arith)

  -- by the number of degrees from t up to 39
  product_over : (n t : ℕ) → forty - t ≡ n → slopes_by b s t ≡ slopes_over b s n
  unfolding slopes_over
  product_over zero t h = none t (omega arith)
  product_over (suc n) t h =
      let e : t ≡ forty - 1 - n = omega arith in
      product_more t (omega arith) ∙ (λ i. product_over n (t + 1) (omega arith) i + slope_of b s (e i))

  pub product_slopes : (t : ℕ) → slopes_by b s t ≡ slopes_to b s t
  product_slopes t = product_over (forty - t) t refl

pub product_lines : (p : Curves) (t : ℕ) → product_of p t ≡ model_lines p t
unfolding product_of model_lines
product_lines p t = simp product_slopes
