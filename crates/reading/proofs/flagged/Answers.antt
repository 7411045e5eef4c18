use Rattle.std.proofs.Common.{arith}
use Rattle.std.proofs.lemmas.Grind.{common_steps}
use Rattle.reading.specs.Reading.{flagged_of}
use Rattle.reading.proofs.flagged.Goals as goal

pub returns-then-results-lt10 : goal.returns-then-results-lt10
unfolding flagged_of
returns-then-results-lt10 c = grind (arith, common_steps)

pub returns-then-flags-3 : goal.returns-then-flags-3
unfolding flagged_of
returns-then-flags-3 c = grind (arith, common_steps)

pub returns-else-flags-3 : goal.returns-else-flags-3
unfolding flagged_of
returns-else-flags-3 c = grind (arith, common_steps)
