use borrow.Author.Rules.{rules}
use Rattle.conversion.specs.Conversion.{share_of}
use Rattle.conversion.proofs.share.Goals as goal

pub returns-clause-value : goal.returns-clause-value
unfolding share_of
returns-clause-value c = search rules
