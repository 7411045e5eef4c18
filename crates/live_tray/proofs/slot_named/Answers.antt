-- `live_tray::slot_named` meets its contract.
use mathlib.Core.Path.{◌≡◌, refl}
use mathlib.Core.Bool.{true, false}
use mathlib.Core.Logic.{◌⊎◌, ⊎_elim}
use Prim.Native.Nat.{ℕ, ◌≤◌, ◌<◌}
use borrow.Author.Tests.{eq-eqb, ne_eqb, le-leb, lt-leb}
use lib.Dec.{leb}
use lib.ListN.{get_or}
use Rattle.numbers.specs.Choice.{both}
use Rattle.live_tray.specs.LiveTray.{slot_named}
use Rattle.live_tray.proofs.slot_named.Goals as goal

inside : (x : ℕ) → 48 ≤ x → x ≤ 55 → both (leb 48 x) (leb x 55) ≡ true
inside x low high = rw (le-leb 48 x low, le-leb x 55 high)

outside : (x : ℕ) → ((48 ≤ x) × (55 < x)) ⊎ (x < 48) → both (leb 48 x) (leb x 55) ≡ false
outside x h = ⊎_elim (λ w. rw (le-leb 48 x w.0, lt-leb x 55 w.1)) (λ w. rw (lt-leb 48 x w)) h

pub returns-then-word-ne1 : goal.returns-then-word-ne1
unfolding slot_named
returns-then-word-ne1 c = rw (ne_eqb _ _ c.if-word-ne1.true) refl

pub returns-then-c-le55 : goal.returns-then-c-le55
unfolding slot_named
returns-then-c-le55 c =
    rw (eq-eqb _ _ c.if-word-ne1.false, inside (get_or c.args.word.now 0 0) c.if-c-ge48.true c.if-c-le55.true) refl

pub returns : goal.returns
unfolding slot_named
returns c = rw (eq-eqb _ _ c.if-word-ne1.false, outside (get_or c.args.word.now 0 0) c.else-c-ge48.either) refl
