-- `preset::put_preset` meets its contract.
use Rattle.preset.proofs.Laws.{session_said, refusal_said}
use Rattle.preset.proofs.put_preset.Goals as goal

pub returns-in-Ok : goal.returns-in-Ok
returns-in-Ok c = session_said c.write_session.ensures c.requires c.in-Ok.is c.write_session.auto.room

pub returns-in-Err : goal.returns-in-Err
returns-in-Err c = refusal_said c.write_session.ensures c.requires c.in-Err.is c.put_why.ensures
