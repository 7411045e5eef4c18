use mathlib.Core.Path.{◌∙◌}
use borrow.Author.Tests.{lt-ltb, le-ltb}
use Rattle.bus.specs.Ask.{asked_at}
use Rattle.bus.proofs.asked_at.Goals as goal

pub returns-then-master-i : goal.returns-then-master-i
unfolding asked_at
returns-then-master-i c = c.plain.ensures ∙ simp (lt-ltb _ _ c.if-master-i.true)

pub returns : goal.returns
unfolding asked_at
returns c = simp (le-ltb _ _ c.if-master-i.false, c.from.ensures)
