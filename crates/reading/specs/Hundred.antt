-- A FULL PACK SAYS 100, request [1] of document 02: "It is to be rounded up, so that case gives .. RARC 100. Where D is above 0, a very small Full40 no
-- longer drops CHGTF at once."
--
-- Full was found. A reading comes whose step 3 leaves ACR and AS as full left them, with the same Full40, and which sees the same FULL: where D is above
-- 0, RARC is 100 and CHGTF stays as it was; where D is not, RARC is 0 and CHGTF clears.
use Rattle.std.specs.Prelude.{◌≡◌, Bool, true, false, ℕ, ◌<◌}
use Rattle.params.specs.Params.{limits_of, capacity_of}
use Rattle.state.specs.declared.Charge.{Charge}
use Rattle.state.specs.declared.Meter.{Meter}
use Rattle.state.specs.State.{acr_of}
use Rattle.conversion.specs.Conversion.{aged_full_of, convert_of, corrects_full}
use Rattle.reading.specs.Reading.{usable_of, drained_of, read_of, seen_in}

-- ---- full was found by a conversion of a raw current in the meter k

-- ACR and AS as it left them, and FULL and Full40 as it found them
pub record FullLeft : Type 0 where
  pub acr : ℕ
  pub aging : ℕ
  pub full : ℕ
  pub full40 : ℕ

abbrev pub left_at_full : Meter → ℕ → FullLeft
left_at_full k raw = record {
  acr = acr_of (convert_of k raw).charge.count;
  aging = (convert_of k raw).charge.aging;
  full = k.shown.model.full;
  full40 = (capacity_of k.cells.block.shadow).full40;
}

-- ---- and a reading comes in the meter m

-- the charge that step 3 leaves
abbrev pub left_in : Meter → ℕ → ℕ → Charge
left_in m volt temp =
    let block = m.cells.block.shadow in
    drained_of m (limits_of block) (capacity_of block).full40 (seen_in m volt temp)

-- D
abbrev pub usable_in : Meter → ℕ → ℕ → ℕ
usable_in m volt temp =
    let lines = (seen_in m volt temp).lines in
    usable_of (aged_full_of lines.full (left_in m volt temp).aging) lines.ae (capacity_of m.cells.block.shadow).full40

-- step 3 leaves ACR and AS as full left them, the reading sees the same FULL, and D is above 0
pub record AfterFull (f : FullLeft) (m : Meter) (volt temp : ℕ) : Type 0 where
  pub acr : acr_of (left_in m volt temp).count ≡ f.acr
  pub aging : (left_in m volt temp).aging ≡ f.aging
  pub full : (seen_in m volt temp).lines.full ≡ f.full
  pub full40 : (capacity_of m.cells.block.shadow).full40 ≡ f.full40
  pub some : 0 < usable_in m volt temp

-- RARC and CHGTF after it
pub record Says (m : Meter) (volt temp percent : ℕ) (charged : Bool) : Type 0 where
  pub rarc : (read_of m volt temp).shown.results.rarc ≡ percent
  pub chgtf : (read_of m volt temp).shown.flags.chgtf ≡ charged

-- ---- the law

pub record Hundred : Type 0 where
  -- RARC is 100, and CHGTF stays as it was
  pub stays : (k : Meter) (raw : ℕ) → corrects_full k raw ≡ true → (m : Meter) (volt temp : ℕ) → AfterFull (left_at_full k raw) m volt temp
      → Says m volt temp 100 m.shown.flags.chgtf
  -- full sets it, so that it is set after the reading that comes next
  pub next : (k : Meter) (raw : ℕ) → corrects_full k raw ≡ true → (volt temp : ℕ) → AfterFull (left_at_full k raw) (convert_of k raw) volt temp
      → Says (convert_of k raw) volt temp 100 true
  -- with D ≤ 0 RARC is 0 and CHGTF drops
  pub none : (m : Meter) (volt temp : ℕ) → usable_in m volt temp ≡ 0 → Says m volt temp 0 false
