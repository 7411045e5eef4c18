use borrow.Author.Rules.{rules}
use Rattle.reading.specs.Reading.{seen_of}
use Rattle.reading.proofs.Seen.of.Goals as goal

pub returns-clause-value : goal.returns-clause-value
unfolding seen_of
returns-clause-value c = search rules
