-- `text::put_kind` meets its contract: the table has the two digits of each byte.
use Prim.Native.Nat.{◌/◌, ◌%◌}
use native.Mathlib.Omega.{arith}
use borrow.Author.Tests.{eq-eqb, ne_eqb}
use Rattle.digits.proofs.Laws.{then}
use Rattle.digits.proofs.Pairs.{paired}
use Rattle.text.specs.Line.{kind_text}
use Rattle.text.proofs.put_kind.Goals as goal

pub returns-then-answer-eq2 : goal.returns-then-answer-eq2
unfolding kind_text
returns-then-answer-eq2 c = rw (eq-eqb _ _ c.if-answer-eq2.true) c.put_bytes.ensures

pub returns : goal.returns
unfolding kind_text
returns c =
    let kind = c.args.kind in
    let table = c.requires.table_value in
    rw (ne_eqb _ _ c.if-answer-eq2.false)
    (then (rw (table, paired (kind / 256) (omega (arith, c.requires.kind_bound))) at c.put_entry.ensures.writing)
    (rw (table, paired (kind % 256) (omega arith)) at c.put_entry-2.ensures.writing))
