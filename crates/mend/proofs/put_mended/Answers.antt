-- `mend::put_mended` meets its contract.
use Rattle.mend.proofs.Laws.{filed}
use Rattle.mend.proofs.put_mended.Goals as goal

pub returns : goal.returns
returns c = record { saying = c.put_lines.ensures; filed = filed c.requires c.mend.ensures }
