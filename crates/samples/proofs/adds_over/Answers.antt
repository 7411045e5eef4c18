use Rattle.std.proofs.Common.{arith}
use Rattle.std.proofs.lemmas.Grind.{common_steps}
use Rattle.samples.specs.Stretch.{adds_over}
use Rattle.samples.proofs.adds_over.Goals as goal

pub returns-then-mark : goal.returns-then-mark
unfolding adds_over
returns-then-mark c = grind (arith, common_steps)

pub returns-else-mark : goal.returns-else-mark
unfolding adds_over
returns-else-mark c = grind (arith, common_steps)
