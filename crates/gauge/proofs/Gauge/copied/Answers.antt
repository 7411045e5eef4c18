use borrow.Author.Rules.{rules}
use Rattle.gauge.specs.Gauge.{copied_of}
use Rattle.gauge.proofs.Gauge.copied.Goals as goal

pub returns-clause-value : goal.returns-clause-value
unfolding copied_of
returns-clause-value c = search rules
