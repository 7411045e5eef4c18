-- `text::put_first_refused` meets its contract. The invariant: nothing is written yet, and the first from here on is the first of all.
use mathlib.Core.Path.{◌≡◌}
use Prim.Native.Nat.{◌+◌}
use lib.ListN.{drop}
use Rattle.text.specs.Text.{first_coded}
use Rattle.text.proofs.put_first_refused.Given as goal

abbrev pub invariant-loop-i : goal.invariant-loop-i
invariant-loop-i l = (l.page ≡ l.initial.page) × (first_coded (l.i + 1) (drop l.i l.codes) ≡ first_coded 1 l.codes)
