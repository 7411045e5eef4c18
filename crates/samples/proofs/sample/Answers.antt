use borrow.Author.Rules.{rules}
use Rattle.samples.specs.Samples.{sample_of}
use Rattle.samples.proofs.sample.Goals as goal

pub returns-clause-value : goal.returns-clause-value
unfolding sample_of
returns-clause-value c = search rules
