use borrow.Author.Rules.{rules}
use Rattle.reading.specs.Reading.{amount_of}
use Rattle.reading.proofs.amount.Goals as goal

pub returns : goal.returns
unfolding amount_of
returns c = search rules
