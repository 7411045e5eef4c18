-- WHAT A READING MEANS IN SIGNED NUMBERS. Voltage, temperature, degrees and currents are kept with an offset; `value` says which integer is meant. Each
-- step of document 01 that works on signed numbers is here its wording over the integers, `..Z`, which stands beside the step in Reading.antt.
use Rattle.std.specs.Prelude.{◌≡◌, ℕ, pos}
use Rattle.numbers.specs.Offset.{value, or_zero}
use Rattle.params.specs.declared.Breaks.{Breaks}
use Rattle.params.specs.declared.Slopes.{Slopes}
use Rattle.reading.specs.Reading.{volt_of, temp_of, degrees_of, slope_of, slopes_to, full_line_of, drains_of, left_of, usable_of, percent_of, amount_of}
use Rattle.reading.specs.Reading.{volt_z, temp_z, degrees_z, slope_z, slopes_z, full_line_z, drains_z, left_z, usable_z, percent_z, amount_z}

pub record ReadingMeans : Type 0 where
  -- 1. "Voltage clamped to 0..1,023, temperature to -1,024..1,023 eighths of a degree."
  pub volt : (raw : ℕ) → pos (volt_of raw) ≡ volt_z (value 31 raw)
  pub temp : (raw : ℕ) → value 10 (temp_of raw) ≡ temp_z (value 31 raw)
  -- [6]: "T as the temperature rounded to the nearest degree, halves upward"
  pub degrees : (temp : ℕ) → value 7 (degrees_of temp) ≡ degrees_z (value 10 temp)
  -- 2. "Going down from 40, each degree step from t+1 to t takes segment 4 if t ≥ TBP34, else 3 if t ≥ TBP23, else 2 if t ≥ TBP12, else 1, whatever the
  -- order of the breakpoints."
  pub slope : (breaks : Breaks) (slopes : Slopes) (t : ℕ) → slope_of breaks slopes t ≡ slope_z breaks slopes (value 7 t)
  pub slopes_down : (breaks : Breaks) (slopes : Slopes) (t : ℕ) → slopes_to breaks slopes t ≡ slopes_z breaks slopes (value 7 t)
  -- "FULL = 16,384 less the Full slopes, at least 8,192."
  pub full_line : (slopes : ℕ) → pos (full_line_of slopes) ≡ full_line_z slopes
  -- 3. a CURRENT that is "< -128 × IAE"
  pub drains : (c iae : ℕ) → drains_of c iae ≡ drains_z (value 15 c) iae
  -- 4. "N = 16,384 × ACR - AE × Full40; D = (AF - AE) × Full40": kept as 0 where they are below it
  pub left : (acr empty full40 : ℕ) → left_of acr empty full40 ≡ or_zero (left_z acr empty full40)
  pub usable : (aged_full empty full40 : ℕ) → usable_of aged_full empty full40 ≡ or_zero (usable_z aged_full empty full40)
  -- "RARC = 100 × N / D rounded down, at most 100; 0 if N ≤ 0 or D ≤ 0. RAAC = N × RSNSP / 2^22 rounded down, 0 if N ≤ 0 .. RSRC, RSAC likewise with SE."
  pub percent : (acr aged_full empty full40 : ℕ) → pos (percent_of (left_of acr empty full40) (usable_of aged_full empty full40))
      ≡ percent_z (left_z acr empty full40) (usable_z aged_full empty full40)
  pub amount : (acr empty full40 rsnsp : ℕ) → pos (amount_of (left_of acr empty full40) rsnsp) ≡ amount_z (left_z acr empty full40) rsnsp
