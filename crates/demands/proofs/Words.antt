-- The words that the definitions are made of, proved.
use mathlib.Core.Path.{◌≡◌, refl, ap}
use mathlib.Core.Bool.{false}
use mathlib.Core.List.{[], ◌∷◌}
use Prim.Native.Nat.{ℕ, ◌/◌, ◌%◌, ◌≤◌}
use native.Mathlib.Nat.{le_antisymm}
use native.Mathlib.Omega.{arith}
use lib.Dec.{leb→le}
use lib.IntN.{ℤ, pos, negsuc}
use lib.Signed.{lt_z, ◌≤ℤ◌, lt_z_no, lt_z_yes, <ℤ-≤ℤ_trans, clash_ℤ}
use Rattle.numbers.specs.Offset.{clamp_z, moved_into}
use Rattle.numbers.proofs.Bounds.{picked}
use Rattle.numbers.proofs.Meaning as numbers
use Rattle.slices.specs.Slices.{quad_at}
use Rattle.slices.proofs.Laws as slices
use Rattle.conversion.proofs.ChargeLaws.{share_up_covers, share_up_least, share_up_high}
use Rattle.demands.specs.Words.{WordsMean}

-- Clamped, from beyond an end

same : (a b : ℤ) → a ≤ℤ b → b ≤ℤ a → a ≡ b
same (pos a) (pos b) h k = ap pos (le_antisymm (leb→le a b h.le) (leb→le b a k.le))
same (pos a) (negsuc b) h k = absurd h.le
same (negsuc a) (pos b) h k = absurd k.le
same (negsuc a) (negsuc b) h k = ap negsuc (le_antisymm (leb→le a b k.le) (leb→le b a h.le))

not_below : {a b : ℤ} → lt_z a b ≡ false → b ≤ℤ a
not_below {a} {b} e = lt_z_no {a = a} {b = b} (rw e tt)

module _ (lo hi z : ℤ) (h : lo ≤ℤ hi) where
  clamp_below : z ≤ℤ lo → clamp_z lo hi z ≡ lo
  clamp_below b =
      picked (λ (w : ℤ). w ≡ lo) (lt_z z lo) lo _ (λ e. refl)
      (λ e. picked (λ (w : ℤ). w ≡ lo) (lt_z hi z) hi z
      (λ d. clash_ℤ {a = hi} {b = lo} (<ℤ-≤ℤ_trans {a = hi} {b = z} {c = lo} (lt_z_yes (rw d tt)) b) h)
      (λ d. same z lo b (not_below e)))

  clamp_above : hi ≤ℤ z → clamp_z lo hi z ≡ hi
  clamp_above b =
      picked (λ (w : ℤ). w ≡ hi) (lt_z z lo) lo _
      (λ e. clash_ℤ {a = z} {b = hi} (<ℤ-≤ℤ_trans {a = z} {b = lo} {c = hi} (lt_z_yes (rw e tt)) h) b)
      (λ e. picked (λ (w : ℤ). w ≡ hi) (lt_z hi z) hi z (λ d. refl) (λ d. same z hi (not_below d) b))

-- Moved into

module _ (low high x : ℕ) where
  moved_below : low ≤ high → x ≤ low → moved_into low high x ≡ low
  moved_below h b = omega arith

  moved_above : low ≤ high → high ≤ x → moved_into low high x ≡ high
  moved_above h b = omega arith

  moved_within : low ≤ x → x ≤ high → moved_into low high x ≡ x
  moved_within l h = omega arith

-- the four bytes of a number, read back
quad_read : (x : ℕ) → quad_at (x % 256 ∷ x / 256 % 256 ∷ x / 65536 % 256 ∷ x / 16777216 ∷ []) 0 ≡ x
quad_read x = omega arith

pub words_mean : WordsMean
words_mean = record {
  divided = λ z n h. record { rest = numbers.rest_of z n; small = numbers.rest_below z n h; whole = numbers.divided_back z n h };
  divided_only = numbers.divided_only;
  clamp_low = numbers.clamp_low;
  clamp_high = numbers.clamp_high;
  clamp_inside = numbers.clamp_inside;
  clamp_below = clamp_below;
  clamp_above = clamp_above;
  moved_below = moved_below;
  moved_above = moved_above;
  moved_within = moved_within;
  covers = share_up_covers;
  least = share_up_least;
  at_most = share_up_high;
  put_is = slices.put_is;
  laid_reached = slices.laid_reached;
  laid_missed = slices.laid_missed;
  pair_read = slices.pair_read;
  quad_read = quad_read;
}
