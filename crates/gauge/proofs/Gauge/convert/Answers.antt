use borrow.Author.Rules.{rules}
use Rattle.gauge.specs.Gauge.{conversion_of}
use Rattle.gauge.proofs.Gauge.convert.Goals as goal

pub returns-clause-value : goal.returns-clause-value
unfolding conversion_of
returns-clause-value c = search rules
