use Rattle.std.proofs.Common.{arith}
use Rattle.std.proofs.lemmas.Grind.{common_steps}
use Rattle.samples.specs.Stretch.{stretched_of}
use Rattle.samples.proofs.Charge.{charge_wf}
use Rattle.samples.proofs.stretch.Goals as goal

pub charged-requires-clause-charge_wf : goal.charged-requires-clause-charge_wf
charged-requires-clause-charge_wf c =
    rw c.charge_over-charge.ensures
    (charge_wf _ _ _ _ _ c.requires.meter_wf.charge (omega (arith, c.of-counting.type_inv)) c.args.k c.requires.le_k)

pub returns-clause-value : goal.returns-clause-value
unfolding stretched_of
returns-clause-value c = grind (arith, common_steps)
