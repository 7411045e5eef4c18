-- `streams::put_refused` meets its contract, by joining its pieces.
use borrow.Author.Rules.{rules}
use Rattle.digits.proofs.Laws.{then}
use Rattle.streams.proofs.Pages.{said_of_error}
use Rattle.streams.proofs.put_refused.Goals as goal

pub returns : goal.returns
returns c =
    said_of_error c.new-page.ensures (then c.put_decimal.ensures (then c.put_bytes.ensures (then c.put_bytes-2.ensures c.put_byte.ensures))) (search rules)
