use Rattle.std.proofs.Common.{sym}
use borrow.Author.Rules.{rules}
use Rattle.samples.specs.Stretch.{worn_over}
use Rattle.samples.proofs.Charge.{worn_still}
use Rattle.samples.proofs.worn_over.Goals as goal

pub returns-then-age-ac : goal.returns-then-age-ac
returns-then-age-ac c = let a = c.args in sym (worn_still a.ac a.age a.aging a.k c.if-age-ac.true c.requires)

pub returns : goal.returns
unfolding worn_over
returns c = search rules
