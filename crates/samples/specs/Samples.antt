-- Slow sampling: "A sample of n ticks means n conversions of that reading, averages, ageing and full detection along the way."
use Rattle.std.specs.Prelude.{ℕ, zero, suc}
use Rattle.state.specs.State.{tick_of, elapsed_of}
use Rattle.state.specs.declared.Tick.{Tick}
use Rattle.state.specs.declared.Flow.{Flow}
use Rattle.state.specs.declared.Meter.{Meter}
use Rattle.conversion.specs.Conversion.{with_flow, convert_of}

-- n conversions
unfoldable pub sampled_of : Meter → ℕ → ℕ → Meter
sampled_of meter raw zero = meter
sampled_of meter raw (suc n) = convert_of (sampled_of meter raw n) raw

abbrev pub with_tick : Flow → Tick → Flow
with_tick flow tick = record { trace = flow.trace; average = flow.average; since = flow.since; tick = tick }

-- the sample's tick is remembered
abbrev pub ticked_of : Meter → ℕ → Meter
ticked_of meter tick = with_flow meter (with_tick meter.flow (tick_of tick))

-- a sample that is taken: as many conversions as ticks have elapsed
unfoldable pub sample_of : Meter → ℕ → ℕ → Meter
sample_of meter raw tick = ticked_of (sampled_of meter raw (elapsed_of meter.flow.tick tick)) tick
