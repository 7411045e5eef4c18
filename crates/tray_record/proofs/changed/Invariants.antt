use Rattle.tray_record.proofs.Acting.{Changing}
use Rattle.tray_record.proofs.changed.Given as goal

abbrev pub invariant-loop-i : goal.invariant-loop-i
invariant-loop-i l = Changing l.transaction l.master l.initial.tray l.tray l.i
