use Rattle.std.proofs.Common.{◌≡◌}
use Rattle.state.specs.State.{MeterWf}
use Rattle.samples.specs.Samples.{sampled_of}
use Rattle.samples.proofs.quick.Given as goal

abbrev pub invariant-loop-left : goal.invariant-loop-left
invariant-loop-left l = record { rest : sampled_of l.meter l.raw l.left ≡ sampled_of l.initial.meter l.raw l.initial.left; kept : MeterWf l.meter }

abbrev pub decreases-loop-left : goal.decreases-loop-left
decreases-loop-left l = l.left
