use Rattle.std.proofs.Common.{arith}
use Rattle.std.proofs.lemmas.Grind.{common_steps}
use Rattle.reading.specs.Reading.{emptied_of}
use Rattle.reading.proofs.emptied.Goals as goal

pub returns-then-holds : goal.returns-then-holds
unfolding emptied_of
returns-then-holds c = grind (arith, common_steps)

pub returns-then-point : goal.returns-then-point
unfolding emptied_of
returns-then-point c = grind (arith, common_steps)

pub returns-then-cut : goal.returns-then-cut
unfolding emptied_of
returns-then-cut c = grind (arith, common_steps)

pub returns-else-cut : goal.returns-else-cut
unfolding emptied_of
returns-else-cut c = grind (arith, common_steps)
