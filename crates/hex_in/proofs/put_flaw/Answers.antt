-- `hex_in::put_flaw` meets its contract, by joining its pieces.
use borrow.Author.Rules.{rules}
use Rattle.digits.proofs.Laws.{then}
use Rattle.streams.proofs.Pages.{said_of_error}
use Rattle.hex_in.proofs.put_flaw.Goals as goal

pub returns : goal.returns
returns c = let text = then c.put_decimal.ensures
    (then c.put_bytes.ensures
    (then (then c.put_bytes-2.ensures
    (then c.put_decimal-2.ensures c.put_cause.ensures))
    c.put_byte.ensures)) in
    said_of_error c.new-page.ensures text (search rules)
