use borrow.Author.Rules.{rules}
use Rattle.conversion.specs.Conversion.{share_up_of}
use Rattle.conversion.proofs.share_up.Goals as goal

pub returns : goal.returns
unfolding share_up_of
returns c = search rules
