-- `runs::put_record` meets its contract: the header, and the payload behind it.
use Rattle.digits.proofs.Laws.{then}
use Rattle.runs.proofs.put_record.Goals as goal

pub returns : goal.returns
returns c = then c.put_bytes.ensures c.put_bytes-2.ensures
