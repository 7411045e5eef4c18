use Rattle.std.proofs.Common.{arith}
use Rattle.std.proofs.lemmas.Grind.{common_steps}
use Rattle.reading.specs.Reading.{draining_of}
use Rattle.reading.proofs.draining.Goals as goal

pub returns-then-trace-top : goal.returns-then-trace-top
unfolding draining_of
returns-then-trace-top c = grind (arith, common_steps)

pub returns-else-trace-top : goal.returns-else-trace-top
unfolding draining_of
returns-else-trace-top c = grind (arith, common_steps)
