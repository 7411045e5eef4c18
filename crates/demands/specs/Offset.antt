-- THE OFFSET CONVERSION of request [7] of document 02, over a run of conversions and at an empty pack: what `OffsetRules` of block1 does not say.
use Rattle.std.specs.Prelude.{◌≡◌, true, false, List, ℕ, ◌%◌, length}
use Rattle.state.specs.declared.Cells.{Cells}
use Rattle.state.specs.declared.Meter.{Meter}
use Rattle.state.specs.State.{acr_of, powered_of}
use Rattle.conversion.specs.Conversion.{convert_of, all_converted}
use Rattle.block1.specs.OffsetConversion.{made_in}

pub record OffsetRuns : Type 0 where
  -- "a conversion count since power-on, modulo 1,024": after n conversions since a power-on it is n modulo 1,024
  pub since_power_on : (c : Cells) (raws : List ℕ) → made_in (all_converted raws (powered_of c)) ≡ length raws % 1024
  -- a conversion that finds the mark, and so adds nothing, does the other steps as ever: "ACR = 0 clears LEARNF."
  pub clears_learnf : (m : Meter) (raw : ℕ) → m.charge.mark ≡ true → acr_of m.charge.count ≡ 0 → (convert_of m raw).charge.learnf ≡ false
