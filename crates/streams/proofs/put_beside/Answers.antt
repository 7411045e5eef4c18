-- `streams::put_beside` meets its contract, by joining its pieces.
use native.Mathlib.Omega.{arith}
use borrow.Author.Tests.{lt-ltb, le-ltb}
use borrow.Author.Rules.{rules}
use Rattle.digits.proofs.Laws.{unwritten, then, wider, fronted}
use Rattle.streams.specs.Streams.{beside_text}
use Rattle.streams.proofs.put_beside.Goals as goal

pub returns-then-name-gt4000 : goal.returns-then-name-gt4000
unfolding beside_text
returns-then-name-gt4000 c = rw (lt-ltb _ _ c.if-name-gt4000.true) (unwritten 4004 c.args.room.now 0)

pub returns : goal.returns
unfolding beside_text
returns c =
    rw (le-ltb _ _ c.if-name-gt4000.false)
    (fronted c.new-page.ensures (wider (then c.put_bytes.ensures c.put_bytes-2.ensures) (omega (arith, c.if-name-gt4000.false))) (search rules))
