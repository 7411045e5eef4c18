use mathlib.Core.Path.{◌≡◌}
use Rattle.state_bytes.proofs.TrayPlaces.{common_in, with_first}
use Rattle.state_bytes.proofs.commons_in.Given as goal

abbrev pub invariant-loop-i : goal.invariant-loop-i
invariant-loop-i l = l.commons ≡ with_first l.initial.commons (common_in l.state) l.i
