use Rattle.std.proofs.Common.{arith}
use Rattle.std.proofs.lemmas.Grind.{common_steps}
use Rattle.samples.specs.Stretch.{learnf_over}
use Rattle.samples.proofs.learnf_over.Goals as goal

pub returns-then-not-charge : goal.returns-then-not-charge
unfolding learnf_over
returns-then-not-charge c = grind (arith, common_steps)

pub returns-then-not-turned : goal.returns-then-not-turned
unfolding learnf_over
returns-then-not-turned c = grind (arith, common_steps)

pub returns-else-not-turned : goal.returns-else-not-turned
unfolding learnf_over
returns-else-not-turned c = grind (arith, common_steps)
