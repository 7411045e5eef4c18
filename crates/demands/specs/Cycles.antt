-- THE CYCLE COUNTER of request [12] of document 02: it "advances by one for each twice Full40 that ACR has fallen, counted as ageing counts it, as many steps
-- as fit, the rest carried, and that rest zeroed while Full40 is 0 and at power-on; the counter stops at 255 ..; at power-on the counter takes [its cell]".
use Rattle.std.specs.Prelude.{◌≡◌, false, ℕ, ◌+◌, ◌*◌, ◌<◌, min}
use Rattle.params.specs.Params.{capacity_of}
use Rattle.state.specs.declared.Cells.{Cells}
use Rattle.state.specs.declared.Cycles.{Cycles}
use Rattle.state.specs.declared.Meter.{Meter}
use Rattle.state.specs.declared.Profile.{Profile}
use Rattle.state.specs.declared.Profile.TheVariants.{Ds2775}
use Rattle.state.specs.State.{counts_cycles, powered_of}
use Rattle.conversion.specs.Conversion.{fall_of, cycled_of, convert_of, charge_in}
use Rattle.reading.specs.Reading.{read_of}

-- the steps that fit into what ACR has fallen since the last, and what is carried
pub record Cycled (full40 count fallen : ℕ) (after : Cycles) : Type 0 where
  pub steps : ℕ
  pub rest : fallen ≡ steps * (2 * full40) + after.rest
  pub small : after.rest < 2 * full40
  pub stops : after.count ≡ min (count + steps) 255

pub record CycleRules : Type 0 where
  -- a conversion counts the fall of ACR that ageing counts, with Full40 as it stands; a reading counts none
  pub converted : (m : Meter) (raw : ℕ) → (convert_of m raw).cycles
      ≡ cycled_of m.cells.profile (capacity_of m.cells.block.shadow).full40 m.cycles (fall_of m.charge.count (charge_in m raw).count)
  pub read : (m : Meter) (volt temp : ℕ) → (read_of m volt temp).cycles ≡ m.cycles
  -- one for each twice Full40 that ACR has fallen, the rest carried, at most 255; with Full40 = 0 none, and no rest
  pub fallen : (full40 : ℕ) (cycles : Cycles) (fall : ℕ) → 0 < full40
      → Cycled full40 cycles.count (cycles.rest + fall) (cycled_of Ds2775 full40 cycles fall)
  pub without : (cycles : Cycles) (fall : ℕ) → cycled_of Ds2775 0 cycles fall ≡ record { count = min cycles.count 255; rest = 0 }
  -- two falls, one after the other, count as one of both
  pub joined : (profile : Profile) (full40 : ℕ) (cycles : Cycles) (a b : ℕ)
      → cycled_of profile full40 (cycled_of profile full40 cycles a) b ≡ cycled_of profile full40 cycles (a + b)
  -- in the DS2781 profile it stands still
  pub uncounted : (profile : Profile) (full40 : ℕ) (cycles : Cycles) (fall : ℕ) → counts_cycles profile ≡ false → cycled_of profile full40 cycles fall ≡ cycles
  -- at a power-on it takes its cell, and the rest is zeroed
  pub powered : (c : Cells) → (powered_of c).cycles ≡ record { count = c.saved.cycles; rest = 0 }
