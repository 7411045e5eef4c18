-- The refusals of an image out of a slot, in the numbers of the paper: 5 for a slot without an
-- image, else 9 for a room under 60, or under 61; nothing is written.
use mathlib.Core.Path.{◌≡◌, refl, ap}
use mathlib.Core.Bool.{true, false}
use mathlib.Core.List.{List, [], ◌∷◌}
use Prim.Native.Nat.{ℕ, zero, suc, ◌≤◌, ◌<◌}
use native.Mathlib.Omega.{arith}
use borrow.Author.Tests.{lt-leb, ltb-true}
use lib.Dec.{ltb}
use lib.ListN.{length, get_or}
use Rattle.numbers.proofs.Bounds.{both_true}
use Rattle.state.specs.State.{image_size_of, powered_of}
use Rattle.state.specs.declared.Meter.{Meter}
use Rattle.gauge.specs.Image.{image_of, size_for}
use Rattle.tray_record.specs.Tray.{no_gauge, pack_of}
use Rattle.tray_record.specs.declared.Tray.{Tray}
use Rattle.tray_run.specs.TrayRun.{slot_held, SlotOut}

past : {A : Type 0} (l : List A) (i : ℕ) (d : A) → length l ≤ i → get_or l i d ≡ d
past [] i d h = refl
past (x ∷ l) zero d h = absurd (omega arith)
past (x ∷ l) (suc i) d h = past l i d (omega arith)

-- an image of kind 1 stands for a slot that no tray has
pub beyond : (τ : Tray) (i : ℕ) → length τ.meters ≤ i → size_for (pack_of τ i) ≡ 60
unfolding image_of powered_of
beyond τ i h = ap (λ (m : Meter). image_size_of m.cells.profile) (past τ.meters i no_gauge.meter h)

pub below : (τ : Tray) (i : ℕ) → slot_held τ i ≡ true → i < 8
below τ i e = ltb-true i 8 (both_true (ltb i 8) (ltb i τ.count) e).0

module _ {τ : Tray} {i : ℕ} {room after : List ℕ} {answer : ℕ} (t : SlotOut τ i room answer after) where
  pub empty_says_5 : slot_held τ i ≡ false → (answer ≡ 5) × (after ≡ room)
  empty_says_5 e = (rw e at t.number, rw e at t.written)

  pub short_says_9 : slot_held τ i ≡ true → length room < size_for (pack_of τ i) → (answer ≡ 9) × (after ≡ room)
  short_says_9 e short = let under = lt-leb (size_for (pack_of τ i)) (length room) short in (rw (e, under) at t.number, rw (e, under) at t.written)
