use borrow.Author.Rules.{rules}
use Rattle.gauge.specs.Gauge.{power_on_of}
use Rattle.gauge.proofs.Gauge.power_on.Goals as goal

pub returns-clause-value : goal.returns-clause-value
unfolding power_on_of
returns-clause-value c = search rules
