use Rattle.std.proofs.Common.{arith}
use Rattle.conversion.proofs.ChargeLaws.{counted_wf}
use Rattle.conversion.specs.Conversion.{convert_of}
use Rattle.conversion.proofs.convert.Goals as goal

pub charged-requires-clause-charge_wf : goal.charged-requires-clause-charge_wf
charged-requires-clause-charge_wf c =
    rw c.counted-stepped.ensures (counted_wf _ _ _ _ _ (omega (arith, c.of-counting.type_inv)) c.requires.charge)

pub returns-clause-value : goal.returns-clause-value
unfolding convert_of
returns-clause-value c =
    simp (c.flowed.ensures.value, c.charged.ensures.value, c.counted-stepped.ensures, c.converted-c.ensures, c.of-counting.ensures)
