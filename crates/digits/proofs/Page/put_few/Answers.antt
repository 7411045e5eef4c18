use native.Mathlib.Omega.{arith}
use Rattle.digits.specs.Digits.{lower}
use Rattle.digits.proofs.Laws.{hex_then}
use Rattle.digits.proofs.Pairs.{paired}
use Rattle.digits.proofs.Page.put_few.Goals as goal

pub loop-b-preserved : goal.loop-b-preserved
loop-b-preserved c = let entry = c.put_entry.ensures in
    hex_then lower c.args.few.now _ (omega arith) c.loop-b.invariant (rw (c.requires.table_value, paired _ entry.small) at entry.writing)
