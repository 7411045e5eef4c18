use borrow.Author.Rules.{rules}
use Rattle.reading.specs.Reading.{left_of}
use Rattle.reading.proofs.left.Goals as goal

pub returns-clause-value : goal.returns-clause-value
unfolding left_of
returns-clause-value c = search rules
