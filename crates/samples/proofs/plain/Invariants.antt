use Rattle.std.proofs.Common.{◌≡◌}
use Rattle.state.specs.State.{MeterWf}
use Rattle.samples.specs.Samples.{sampled_of}
use Rattle.samples.proofs.plain.Given as goal

abbrev pub invariant-loop : goal.invariant-loop
invariant-loop l = record { reached : l.meter ≡ sampled_of l.initial.meter l.raw l.counter; kept : MeterWf l.meter }
