-- `intel_hex::put_text` meets its contract: four lines, one behind the other.
use borrow.Author.Rules.{rules}
use Rattle.digits.proofs.Laws.{then, fronted}
use Rattle.intel_hex.proofs.Texts.{text_written}
use Rattle.intel_hex.proofs.put_text.Goals as goal

pub returns : goal.returns
returns c = text_written c.args.label.now c.args.block.now c.requires.label_len
    c.requires.block_len c.data_record-first.ensures c.data_record-second.ensures
    c.data_record-third.ensures c.requires.export_size_in_bounds
    (fronted c.new-page.ensures
    (then c.put_line.ensures (then c.put_line-2.ensures (then c.put_line-3.ensures c.put_line-4.ensures)))
    (search rules))
