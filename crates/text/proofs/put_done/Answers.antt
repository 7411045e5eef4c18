-- `text::put_done` meets its contract.
use Rattle.digits.proofs.Pairs.{paired}
use Rattle.text.proofs.LineLaws.{done}
use Rattle.text.proofs.put_done.Goals as goal

pub returns : goal.returns
returns c =
    let kind = c.args.kind in
    let small = c.put_entry.ensures.small in
    done kind small c.put_bytes.ensures (rw (c.requires.table_value, paired kind small) at c.put_entry.ensures.writing) c.put_bytes-2.ensures
