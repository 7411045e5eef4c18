use native.Mathlib.Omega.{arith}
use Rattle.std.proofs.lemmas.Grind.{common_steps}
use Rattle.conversion.specs.Conversion.{found_of}
use Rattle.conversion.proofs.found.Goals as goal

pub returns-then-since : goal.returns-then-since
unfolding found_of
returns-then-since c = grind (arith, common_steps)

pub returns-else-since : goal.returns-else-since
unfolding found_of
returns-else-since c = grind (arith, common_steps)
