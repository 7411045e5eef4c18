use borrow.Author.Rules.{rules}
use Rattle.conversion.specs.Conversion.{counted_of}
use Rattle.conversion.proofs.counted.Goals as goal

pub returns : goal.returns
unfolding counted_of
returns c = search rules
