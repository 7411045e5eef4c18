use Rattle.std.proofs.Common.{arith}
use Rattle.std.proofs.lemmas.Grind.{common_steps}
use Rattle.reading.specs.Reading.{lowered_of}
use Rattle.reading.proofs.lowered.Goals as goal

pub returns-then-since : goal.returns-then-since
unfolding lowered_of
returns-then-since c = grind (arith, common_steps)

pub returns-else-since : goal.returns-else-since
unfolding lowered_of
returns-else-since c = grind (arith, common_steps)
