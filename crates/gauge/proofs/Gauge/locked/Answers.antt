use borrow.Author.Rules.{rules}
use Rattle.gauge.specs.Gauge.{locked_of}
use Rattle.gauge.proofs.Gauge.locked.Goals as goal

pub returns-clause-value : goal.returns-clause-value
unfolding locked_of
returns-clause-value c = search rules
