use mathlib.Core.Path.{◌≡◌}
use Prim.Native.Nat.{◌+◌, ◌*◌}
use Rattle.state_bytes.specs.State.{gauge_layout}
use Rattle.state_bytes.proofs.TrayLaws.{filled}
use Rattle.state_bytes.proofs.tray_at.Given as goal

abbrev pub invariant-loop-i : goal.invariant-loop-i
invariant-loop-i l = l.tray ≡ filled l.initial.tray (λ j. gauge_layout.at l.bytes (3 + j * 170)) l.i
