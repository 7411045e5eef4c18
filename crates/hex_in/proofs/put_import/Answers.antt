-- `hex_in::put_import` meets its contract.
use borrow.Author.Rules.{rules}
use borrow.Author.Tests.{lt-ltb}
use Rattle.streams.proofs.Pages.{said_of_error}
use Rattle.hex_in.specs.HexIn.{hex_in_speech}
use Rattle.hex_in.proofs.Laws.{bytes_said, refusal_said}
use Rattle.hex_in.proofs.put_import.Goals as goal

pub returns-then-text-gt65536 : goal.returns-then-text-gt65536
unfolding hex_in_speech
returns-then-text-gt65536 c = rw (lt-ltb _ _ c.if-text-gt65536.true) (said_of_error c.new-page.ensures c.put_bytes.ensures (search rules))

pub returns-in-Ok : goal.returns-in-Ok
returns-in-Ok c = search bytes_said

pub returns-in-Err : goal.returns-in-Err
returns-in-Err c = search refusal_said
