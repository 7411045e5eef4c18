use Rattle.std.proofs.Common.{arith}
use Rattle.std.proofs.lemmas.Grind.{common_steps}
use Rattle.samples.specs.Stretch.{average_over}
use Rattle.samples.proofs.average_over.Goals as goal

pub returns-then-begun-k-lt16 : goal.returns-then-begun-k-lt16
unfolding average_over
returns-then-begun-k-lt16 c = grind (arith, common_steps)

pub returns-else-begun-k-lt16 : goal.returns-else-begun-k-lt16
unfolding average_over
returns-else-begun-k-lt16 c = grind (arith, common_steps)

pub returns-else-begun-k-ge8 : goal.returns-else-begun-k-ge8
unfolding average_over
returns-else-begun-k-ge8 c = grind (arith, common_steps)
