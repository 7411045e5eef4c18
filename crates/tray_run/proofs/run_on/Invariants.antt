-- Each turn of the loop takes one record, and what is still to come is the rest of the whole.
use mathlib.Core.Path.{◌≡◌}
use Prim.Native.Nat.{◌-◌}
use lib.ListN.{length}
use Rattle.tray_record.proofs.Answering.{Answering}
use Rattle.tray_run.proofs.Turns.{Stands}
use Rattle.tray_run.proofs.run_on.Given as goal

abbrev pub invariant-loop-i : goal.invariant-loop-i
invariant-loop-i l = (length l.scratch ≡ 256) × (length l.left ≡ length l.initial.left) × Answering l.transaction l.tray l.span l.initial.left l.left l.i

abbrev pub invariant-loop-scratch : goal.invariant-loop-scratch
invariant-loop-scratch l = Stands l.initial.tray l.bytes l.initial.room l.initial.answers l.tray l.at l.used l.lines l.room l.answers × (length l.scratch ≡ 256)

abbrev pub decreases-loop-scratch : goal.decreases-loop-scratch
decreases-loop-scratch l = length l.bytes - l.at
