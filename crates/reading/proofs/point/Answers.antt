use Rattle.std.proofs.Common.{arith}
use Rattle.std.proofs.lemmas.Grind.{common_steps}
use Rattle.reading.specs.Reading.{point_of}
use Rattle.reading.proofs.point.Goals as goal

pub returns-then-limits-reading : goal.returns-then-limits-reading
unfolding point_of
returns-then-limits-reading c = grind (arith, common_steps)

pub returns-else-limits-reading : goal.returns-else-limits-reading
unfolding point_of
returns-else-limits-reading c = grind (arith, common_steps)
