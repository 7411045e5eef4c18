use Rattle.library.proofs.Calls.{tray_done}
use Rattle.library.proofs.trovimbe_tray_record.Goals as goal

pub returns-in-Ok : goal.returns-in-Ok
returns-in-Ok c = rw c.said-in-Ok.ensures (tray_done c.if-bytes-lt4.false c.tray_state_step.ensures c.in-Ok.is)
