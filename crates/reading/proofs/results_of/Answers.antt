use borrow.Author.Rules.{rules}
use Rattle.reading.specs.Reading.{results_of}
use Rattle.reading.proofs.results_of.Goals as goal

pub returns : goal.returns
unfolding results_of
returns c = search rules
