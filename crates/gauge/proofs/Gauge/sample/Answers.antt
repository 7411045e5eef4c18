use borrow.Author.Rules.{rules}
use Rattle.gauge.specs.Gauge.{sampling_of}
use Rattle.gauge.proofs.Gauge.sample.Goals as goal

pub returns-clause-value : goal.returns-clause-value
unfolding sampling_of
returns-clause-value c = search rules
