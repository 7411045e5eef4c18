-- The gauge: common part, label and meter, and what each event makes of them. Label events see no meter, and gauge events no label.
use Rattle.std.specs.Prelude.{ℕ, ◌≡◌, false, List, length}
use Rattle.state.specs.State.{counts_cycles, MeterWf, restarted_of, LabelSized}
use Rattle.state.specs.declared.Meter.{Meter}
use Rattle.conversion.specs.Conversion.{convert_of}
use Rattle.reading.specs.Reading.{read_of}
use Rattle.samples.specs.Samples.{sample_of}
use Rattle.state.specs.declared.Label.{Label}
use Rattle.label.specs.Label.{label_written_of, label_copied_of, label_powered_of, label_recalled_of, common_locked_of}
use Rattle.block1.specs.Block1.{BlockSized, meter_written_of, meter_copied_of, meter_recalled_of, meter_locked_of}
use Rattle.gauge.specs.declared.Gauge.{Gauge}

-- what holds of every gauge: its meter is well-formed (a clause, as ChargeWf)
pub record GaugeWf (g : Gauge) : Type 0 where
  pub meter : MeterWf g.meter

-- and its arrays have their sizes
pub record Sized (g : Gauge) : Type 0 where
  pub address : length g.common.address ≡ 8
  pub label : LabelSized g.label
  pub block : BlockSized g.meter.cells.block

-- and where its profile has no cycle counter, none is counted, no fall is carried and none is saved
pub record NoCycles (m : Meter) : Type 0 where
  pub count : m.cycles.count ≡ 0
  pub rest : m.cycles.rest ≡ 0
  pub saved : m.cells.saved.cycles ≡ 0

abbrev pub Uncounted : Gauge → Type 0
Uncounted gauge = counts_cycles gauge.meter.cells.profile ≡ false → NoCycles gauge.meter

-- a gauge with other parts
abbrev pub with_parts : Gauge → Label → Meter → Gauge
with_parts gauge label meter = record { common = gauge.common; label = label; meter = meter }

abbrev pub with_meter : Gauge → Meter → Gauge
with_meter gauge meter = with_parts gauge gauge.label meter

-- ---- conversion, sample, reading, power-on

unfoldable pub conversion_of : Gauge → ℕ → Gauge
conversion_of gauge raw = with_meter gauge (convert_of gauge.meter raw)

-- a sample that is taken: the conversions of its ticks
unfoldable pub sampling_of : Gauge → ℕ → ℕ → Gauge
sampling_of gauge raw tick = with_meter gauge (sample_of gauge.meter raw tick)

unfoldable pub reading_of : Gauge → ℕ → ℕ → Gauge
reading_of gauge volt temp = with_meter gauge (read_of gauge.meter volt temp)

-- shadow blocks take the EEPROM bytes; BL1 and BL0 stay
unfoldable pub power_on_of : Gauge → Gauge
power_on_of gauge = with_parts gauge (label_powered_of gauge.label) (restarted_of gauge.meter)

-- ---- what a function command at the address a does: to the label and to the meter, each found from its own part

-- 6Ch: bytes written from the address a upward
unfoldable pub written_of : Gauge → ℕ → List ℕ → Gauge
written_of gauge a bytes =
    with_parts gauge (label_written_of gauge.label gauge.common.bl0 a bytes) (meter_written_of gauge.meter a bytes)

-- 48h
unfoldable pub copied_of : Gauge → ℕ → Gauge
copied_of gauge a = with_parts gauge (label_copied_of gauge.label gauge.common.bl0 a) (meter_copied_of gauge.meter a)

-- B8h
unfoldable pub recalled_of : Gauge → ℕ → Gauge
recalled_of gauge a = with_parts gauge (label_recalled_of gauge.label a) (meter_recalled_of gauge.meter a)

-- 6Ah: BL0 is common, LOCK and BL1 are the meter's
unfoldable pub locked_of : Gauge → ℕ → Gauge
locked_of gauge a = record {
  common = common_locked_of gauge.common gauge.meter.cells.locks.lock a;
  label = gauge.label;
  meter = meter_locked_of gauge.meter a;
}
