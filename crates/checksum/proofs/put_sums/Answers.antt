use mathlib.Core.Path.{sym, ◌∙◌}
use borrow.Author.Tests.{eqb-true}
use borrow.Author.Rules.{rules}
use Rattle.digits.proofs.Laws.{fronted}
use Rattle.checksum.proofs.Going.{more, ended}
use Rattle.checksum.proofs.put_sums.Goals as goal

pub loop-rest-preserved : goal.loop-rest-preserved
loop-rest-preserved c = more c.loop-rest.invariant c.first_message-message.ensures c.put_bytes.ensures

pub returns : goal.returns
returns c = let none_left = eqb-true _ 0 (sym c.is_empty.ensures ∙ c.loop-rest-test.false) in
    fronted c.new-page.ensures (ended c.loop-rest.invariant none_left) (search rules)
