use Rattle.std.proofs.Common.{arith}
use Rattle.std.proofs.lemmas.Grind.{common_steps}
use Rattle.reading.specs.Reading.{kept_of}
use Rattle.reading.proofs.kept.Goals as goal

pub returns-then-save : goal.returns-then-save
unfolding kept_of
returns-then-save c = grind (arith, common_steps)

pub returns-else-save : goal.returns-else-save
unfolding kept_of
returns-else-save c = grind (arith, common_steps)
