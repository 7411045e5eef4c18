-- WHAT THE SIGNED REGISTERS MEAN: "Two-byte registers .. stand high byte first". IAVG, TEMP and CURRENT are read in two's complement, and are the integers
-- that the meter keeps with an offset (`value`).
use Rattle.std.specs.Prelude.{◌≡◌, ℕ, ◌+◌, ◌^◌, ◌<◌, pos, ◌*ℤ◌, length, get_or}
use Rattle.numbers.specs.Offset.{value, signed, joined_of}
use Rattle.state.specs.declared.Common.{Common}
use Rattle.state.specs.declared.Meter.{Meter}
use Rattle.state.specs.State.{MeterWf}
use Rattle.registers.specs.Registers.{registers_of}

-- a two-byte register, high byte first
abbrev pub register_at : Common → Meter → ℕ → ℕ
register_at common meter at = joined_of (get_or (registers_of common meter) at 0) (get_or (registers_of common meter) (at + 1) 0)

pub record RegistersMean : Type 0 where
  -- 00h to 1Fh
  pub many : (common : Common) (meter : Meter) → length (registers_of common meter) ≡ 32
  -- 08h: IAVG
  pub iavg : (common : Common) (meter : Meter) → meter.flow.average.iavg < 2 ^ 16
      → signed 15 (register_at common meter 0x08) ≡ value 15 meter.flow.average.iavg
  -- 0Ah: "TEMP .. counts × 32"
  pub temp : (common : Common) (meter : Meter) → MeterWf meter
      → signed 15 (register_at common meter 0x0a) ≡ pos 32 *ℤ value 10 meter.shown.reading.temp
  -- 0Eh: "CURRENT = c"
  pub current : (common : Common) (meter : Meter) → meter.flow.trace.last < 2 ^ 16
      → signed 15 (register_at common meter 0x0e) ≡ value 15 meter.flow.trace.last
