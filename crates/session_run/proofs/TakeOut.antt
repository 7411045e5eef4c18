-- The refusals of an image out, in the numbers of the paper: 5 before an image was accepted,
-- else 9 for a room under 60, or under 61 of kind 8; "nothing is written".
use mathlib.Core.Path.{◌≡◌}
use mathlib.Core.Bool.{true, false}
use mathlib.Core.List.{List}
use Prim.Native.Nat.{ℕ, ◌<◌}
use borrow.Author.Tests.{lt-leb}
use lib.ListN.{length}
use Rattle.gauge.specs.Image.{size_for}
use Rattle.runs.specs.declared.Session.{Session}
use Rattle.session_run.specs.SessionRun.{TakenOut}

module _ {σ : Session} {room after : List ℕ} {answer : ℕ} (t : TakenOut σ room answer after) where
  pub unaccepted_says_5 : σ.loaded ≡ false → (answer ≡ 5) × (after ≡ room)
  unaccepted_says_5 e = (rw e at t.number, rw e at t.written)

  pub short_says_9 : σ.loaded ≡ true → length room < size_for σ.gauge → (answer ≡ 9) × (after ≡ room)
  short_says_9 e short = let under = lt-leb (size_for σ.gauge) (length room) short in (rw (e, under) at t.number, rw (e, under) at t.written)
