-- The segments one after the other, as the code finds them, have the degrees that `segments_of` says.
use mathlib.Core.Path.{◌≡◌, ap, ◌∙◌}
use Prim.Native.Nat.{ℕ, ◌-◌, ◌≤◌, ◌<◌, min, max}
use native.Mathlib.Omega.{arith}
use Rattle.numbers.specs.Offset.{moved_into}
use Rattle.numbers.proofs.Offset.{order}
use Rattle.params.specs.declared.Breaks.{Breaks}
use Rattle.reading.specs.Reading.{forty}
use Rattle.reading.specs.Product.{segments_of}

-- ---- one segment: it starts at x and ends at its breakpoint b, or at x where b is above; but it neither starts nor ends below the lowest degree

module _ (b t x low : ℕ) where
  -- it has the degrees from b up to x that are no lower than t
  abbrev Has : Type 0
  Has = max x low - max (min b x) low ≡ x - max b t

  starts_above : t < x → low ≡ t → Has
  starts_above p q = let e : max x low ≡ x = omega arith in rw (e, q) (omega arith)

  starts_below : x ≤ low → low ≤ t → Has
  starts_below p q = let e : max x low ≡ low = omega arith in rw e (omega arith)

  has_degrees : x ≤ forty → low ≡ min t forty → Has
  has_degrees h l = order t x Has (λ p. starts_above p (omega arith)) (λ p. starts_below (omega arith) (omega arith))

  lowers : moved_into low (max x low) b ≡ max (min b x) low
  lowers = omega arith

-- and the next one starts where it ends
record Segment (b t x low start end : ℕ) : Type 0 where
  pub next : min b x ≤ forty
  pub ends : end ≡ max (min b x) low
  pub has : start - end ≡ x - max b t

segment : (b t x : ℕ) {low start end : ℕ} → x ≤ forty → low ≡ min t forty → start ≡ max x low → end ≡ moved_into low start b →
    Segment b t x low start end
segment b t x {low} h l s e =
    let n : _ ≡ max (min b x) low = e ∙ rw s (lowers b t x low) in
    record {
      next = omega arith;
      ends = n;
      has = rw (s, n) (has_degrees b t x low h l);
    }

-- ---- the four: segment 4 starts at 40; segment 1 has no breakpoint and ends at the lowest degree

module _ (t : ℕ) {low : ℕ} (l : low ≡ min t forty) where
  highest : forty ≡ max forty low
  highest = omega arith

  lowest : (start : ℕ) → low ≡ moved_into low start 0
  lowest start = omega arith

two_below : (b34 b23 : ℕ) → min b23 (min b34 forty) ≡ min (min b34 b23) forty
two_below b34 b23 = omega arith

all_below : (b34 b23 b12 : ℕ) → min b12 (min b23 (min b34 forty)) ≡ min (min (min b34 b23) b12) forty
all_below b34 b23 b12 = rw two_below (omega arith)

module _ (b : Breaks) (t : ℕ) {end1 end2 end3 end4 : ℕ}
    (e1 : end1 ≡ min t forty) (e4 : end4 ≡ moved_into end1 forty b.b34) (e3 : end3 ≡ moved_into end1 end4 b.b23)
    (e2 : end2 ≡ moved_into end1 end3 b.b12)
  where
    four : Segment b.b34 t forty end1 forty end4
    four = segment b.b34 t forty (omega arith) e1 (highest t e1) e4

    three : Segment b.b23 t (min b.b34 forty) end1 end4 end3
    three = segment b.b23 t _ four.next e1 four.ends e3

    two : Segment b.b12 t (min b.b23 (min b.b34 forty)) end1 end3 end2
    two = segment b.b12 t _ three.next e1 three.ends e2

    one : Segment 0 t (min b.b12 (min b.b23 (min b.b34 forty))) end1 end2 end1
    one = segment 0 t _ two.next e1 two.ends (lowest t e1 end2)

    -- what the code counts
    pub counts : record { s4 = forty - end4; s3 = end4 - end3; s2 = end3 - end2; s1 = end2 - end1 } ≡ segments_of b t
    unfolding segments_of
    counts = λ i. record {
      s4 = four.has i;
      s3 = three.has i;
      s2 = (two.has ∙ ap (λ (x : ℕ). x - max b.b12 t) (two_below b.b34 b.b23)) i;
      s1 = (one.has ∙ ap (λ (x : ℕ). x - max 0 t) (all_below b.b34 b.b23 b.b12)) i;
    }
