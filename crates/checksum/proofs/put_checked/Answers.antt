-- `checksum::put_checked` meets its contract.
use native.Mathlib.Omega.{arith}
use borrow.Author.Tests.{lt-ltb, le-ltb}
use borrow.Author.Rules.{rules}
use Rattle.digits.proofs.Laws.{wider, wider_writing, fronted}
use Rattle.checksum.specs.Sums.{checked_text}
use Rattle.checksum.proofs.put_checked.Goals as goal

pub returns-then-bytes-gt65536 : goal.returns-then-bytes-gt65536
unfolding checked_text
returns-then-bytes-gt65536 c = rw (lt-ltb _ _ c.if-bytes-gt65536.true) (fronted c.new-page.ensures (wider c.put_bytes.ensures (omega arith)) (search rules))

pub returns : goal.returns
unfolding checked_text
returns c = rw (le-ltb _ _ c.if-bytes-gt65536.false) (wider_writing c.put_sums.ensures (omega arith))
