use Rattle.std.proofs.Common.{arith}
use Rattle.std.proofs.lemmas.Grind.{common_steps}
use Rattle.samples.specs.Stretch.{worn_over, learnf_over, charge_over}
use Rattle.samples.proofs.charge_over.Goals as goal

pub returns : goal.returns
unfolding worn_over learnf_over charge_over
returns c = grind (arith, common_steps)
