use borrow.Author.Rules.{rules}
use Rattle.conversion.specs.Conversion.{learnt_of}
use Rattle.conversion.proofs.learnt.Goals as goal

pub returns : goal.returns
unfolding learnt_of
returns c = search rules
