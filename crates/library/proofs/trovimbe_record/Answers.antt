use Rattle.library.proofs.Calls.{pack_done}
use Rattle.library.proofs.trovimbe_record.Goals as goal

pub returns-in-Ok : goal.returns-in-Ok
returns-in-Ok c = rw c.said-in-Ok.ensures (pack_done c.if-bytes-lt4.false c.state_step.ensures c.in-Ok.is)
