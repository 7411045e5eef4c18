-- `text::put_no_image` meets its contract, by joining its pieces.
use borrow.Author.Rules.{rules}
use Rattle.digits.proofs.Laws.{then}
use Rattle.streams.proofs.Pages.{said_of_error}
use Rattle.text.proofs.Laws.{cut}
use Rattle.text.proofs.put_no_image.Goals as goal

pub returns : goal.returns
returns c =
    let text = then c.put_decimal.ensures
    (then c.put_bytes.ensures
    (then (then c.put_bytes-2.ensures c.put_first_refused.ensures)
    c.put_byte.ensures)) in
    rw (cut c.args.lines c.args.answers.now _ c.min-few.ensures).same
    (said_of_error c.new-page.ensures text (search rules))
