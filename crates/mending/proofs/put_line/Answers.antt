-- `mending::put_line` meets its contract, by joining its pieces.
use Rattle.digits.proofs.Laws.{then}
use Rattle.digits.proofs.Pairs.{paired}
use Rattle.mending.proofs.put_line.Goals as goal

pub returns : goal.returns
returns c = let table = c.requires.table_value in
    let a = c.put_entry.ensures in
    let b = c.put_entry-2.ensures in
    let d = c.put_entry-3.ensures in
    then (rw (table, paired _ a.small) at a.writing)
    (then c.put_byte.ensures
    (then (rw (table, paired _ b.small) at b.writing)
    (then c.put_byte-2.ensures (then (rw (table, paired _ d.small) at d.writing) c.put_byte-3.ensures))))
