-- `mend::put_lines` meets its contract.
use Rattle.mend.proofs.Laws.{lines_said, refusal_said}
use Rattle.mend.proofs.put_lines.Goals as goal

pub returns-in-Ok : goal.returns-in-Ok
returns-in-Ok c = lines_said (rw c.in-Ok.is at c.changes.ensures)

pub returns-in-Err : goal.returns-in-Err
returns-in-Err c = refusal_said (rw c.in-Err.is at c.changes.ensures) c.put_why.ensures
