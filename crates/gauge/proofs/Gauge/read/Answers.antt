use borrow.Author.Rules.{rules}
use Rattle.gauge.specs.Gauge.{reading_of}
use Rattle.gauge.proofs.Gauge.read.Goals as goal

pub returns-clause-value : goal.returns-clause-value
unfolding reading_of
returns-clause-value c = search rules
