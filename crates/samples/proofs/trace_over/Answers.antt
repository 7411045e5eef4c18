use Rattle.std.proofs.Common.{arith}
use Rattle.std.proofs.lemmas.Grind.{common_steps}
use Rattle.samples.specs.Stretch.{trace_over}
use Rattle.samples.proofs.trace_over.Goals as goal

pub returns-then-k-gt1 : goal.returns-then-k-gt1
unfolding trace_over
returns-then-k-gt1 c = grind (arith, common_steps)

pub returns-else-k-gt1 : goal.returns-else-k-gt1
unfolding trace_over
returns-else-k-gt1 c = grind (arith, common_steps)
