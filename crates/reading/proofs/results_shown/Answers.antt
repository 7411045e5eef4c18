use Rattle.std.proofs.Common.{arith}
use Rattle.std.proofs.lemmas.Grind.{common_steps}
use Rattle.reading.specs.Reading.{results_shown}
use Rattle.reading.proofs.results_shown.Goals as goal

pub returns-clause-value : goal.returns-clause-value
unfolding results_shown
returns-clause-value c = grind (arith, common_steps)
