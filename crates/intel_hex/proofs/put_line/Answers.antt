-- `intel_hex::put_line` meets its contract, by joining its pieces.
use Rattle.digits.proofs.Laws.{then}
use Rattle.intel_hex.proofs.put_line.Goals as goal

pub returns : goal.returns
returns c = then c.put_byte.ensures (then c.put_pairs.ensures c.put_byte-2.ensures)
