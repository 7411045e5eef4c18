-- `streams::put_unread` meets its contract, by joining its pieces.
use borrow.Author.Rules.{rules}
use Rattle.digits.proofs.Laws.{then}
use Rattle.streams.specs.Streams.{unread_text}
use Rattle.streams.proofs.Pages.{said_of_error}
use Rattle.streams.proofs.put_unread.Goals as goal

pub returns : goal.returns
unfolding unread_text
returns c = said_of_error c.new-page.ensures (then c.put_bytes.ensures c.put_bytes-2.ensures) (search rules)
