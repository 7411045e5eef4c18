use mathlib.Core.Path.{◌≡◌}
use lib.ListN.{length}
use Rattle.tray_record.specs.Wire.{and_bytes}
use Rattle.tray_record.proofs.Anded.{and_from}
use Rattle.tray_record.proofs.wire.Given as goal

abbrev pub invariant-loop-i : goal.invariant-loop-i
invariant-loop-i l = (length l.room ≡ length l.initial.room) × (and_from l.i l.room l.reply ≡ and_bytes l.initial.room l.reply)
