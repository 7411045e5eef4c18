use Rattle.std.proofs.Common.{arith}
use Rattle.std.proofs.lemmas.Grind.{common_steps}
use Rattle.samples.specs.Stretch.{reach_of}
use Rattle.samples.proofs.reach.Goals as goal

pub returns-then-ends-clause-value : goal.returns-then-ends-clause-value
unfolding reach_of
returns-then-ends-clause-value c = grind (arith, common_steps)

pub returns-else-ends-clause-value : goal.returns-else-ends-clause-value
unfolding reach_of
returns-else-ends-clause-value c = grind (arith, common_steps)
