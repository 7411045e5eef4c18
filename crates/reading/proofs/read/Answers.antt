use borrow.Author.Rules.{rules}
use Rattle.reading.specs.Reading.{read_of}
use Rattle.reading.proofs.read.Goals as goal

pub returns-clause-value : goal.returns-clause-value
unfolding read_of
returns-clause-value c = search rules
