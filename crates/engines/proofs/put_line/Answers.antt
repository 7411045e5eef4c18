-- `engines::put_line` meets its contract.
use Rattle.digits.proofs.Laws.{then}
use Rattle.engines.proofs.put_line.Goals as goal

pub returns : goal.returns
returns c = let first = c.put_registers.ensures in
    rw (← c.plain-later.ensures.value)
    (then first (then c.put_registers-2.ensures c.put_byte.ensures))
