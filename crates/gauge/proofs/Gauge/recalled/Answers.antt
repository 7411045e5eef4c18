use borrow.Author.Rules.{rules}
use Rattle.gauge.specs.Gauge.{recalled_of}
use Rattle.gauge.proofs.Gauge.recalled.Goals as goal

pub returns-clause-value : goal.returns-clause-value
unfolding recalled_of
returns-clause-value c = search rules
