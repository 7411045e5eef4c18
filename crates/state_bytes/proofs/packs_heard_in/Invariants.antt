use mathlib.Core.Path.{◌≡◌}
use lib.ListN.{length}
use Rattle.tray_record.proofs.Answering.{Answering}
use Rattle.state_bytes.specs.TrayState.{tray_at}
use Rattle.state_bytes.proofs.packs_heard_in.Given as goal

abbrev pub invariant-loop-i : goal.invariant-loop-i
invariant-loop-i l = (length l.scratch ≡ 256) × (length l.room ≡ length l.initial.room) ×
    Answering l.transaction (tray_at l.state) (record { first = l.first; stop = l.stop }) l.initial.room l.room l.i
