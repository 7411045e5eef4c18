use borrow.Author.Rules.{rules}
use Rattle.gauge.specs.Gauge.{written_of}
use Rattle.gauge.proofs.Gauge.written.Goals as goal

pub returns-clause-value : goal.returns-clause-value
unfolding written_of
returns-clause-value c = search rules
