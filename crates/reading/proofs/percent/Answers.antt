use Rattle.std.proofs.Common.{arith}
use Rattle.std.proofs.lemmas.Grind.{common_steps}
use Rattle.reading.specs.Reading.{percent_of}
use Rattle.reading.proofs.Laws.{percent_full}
use Rattle.reading.proofs.percent.Goals as goal

pub returns-then-n-d : goal.returns-then-n-d
unfolding percent_of
returns-then-n-d c = grind (arith, common_steps)

pub returns-then-d-eq0 : goal.returns-then-d-eq0
unfolding percent_of
returns-then-d-eq0 c = grind (arith, common_steps)

pub returns-else-d-eq0 : goal.returns-else-d-eq0
returns-else-d-eq0 c = omega (arith, percent_full c.args.n c.args.d (omega arith) c.if-n-d.false)
