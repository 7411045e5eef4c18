-- `intel_hex::put_imported` meets its contract: three parts, one behind the other.
use borrow.Author.Rules.{rules}
use Rattle.digits.proofs.Laws.{then, fronted}
use Rattle.intel_hex.specs.Import.{text_lines, data_at}
use Rattle.intel_hex.proofs.Lines.{three_put}
use Rattle.intel_hex.proofs.put_imported.Goals as goal

pub returns : goal.returns
returns c = let ls = text_lines c.args.text.now in
    three_put (data_at 0x20 ls) (data_at 0x60 ls) (data_at 0x70 ls) c.requires.label_len
    c.requires.low_len c.requires.high_len c.requires.import_size_in_bounds
    (fronted c.new-page.ensures (then c.put_found.ensures (then c.put_found-2.ensures c.put_found-3.ensures)) (search rules))
