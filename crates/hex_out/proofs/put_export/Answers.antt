-- `hex_out::put_export` meets its contract.
use Rattle.hex_out.proofs.Laws.{text_said, refusal_said}
use Rattle.hex_out.proofs.put_export.Goals as goal

pub returns-in-Ok : goal.returns-in-Ok
returns-in-Ok c = text_said c.write_text.ensures c.requires c.in-Ok.is c.write_text.auto.room

pub returns-in-Err : goal.returns-in-Err
returns-in-Err c = refusal_said c.write_text.ensures c.requires c.in-Err.is c.put_why.ensures
