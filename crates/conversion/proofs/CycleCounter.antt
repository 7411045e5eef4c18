-- What request [12] says of the cycle counter of a meter: which events move it, and by how much.
use mathlib.Core.Path.{◌≡◌, refl}
use Prim.Native.Nat.{ℕ}
use Rattle.params.specs.Params.{counting_of, capacity_of}
use Rattle.conversion.specs.Conversion.{fall_of, counted_of, cycled_of, converted_of, flowed_of, convert_of}
use Rattle.state.specs.State.{powered_cycles, powered_of}
use Rattle.state.specs.declared.Cells.{Cells}
use Rattle.state.specs.declared.Meter.{Meter}

-- the count of ACR and fraction that steps 1 to 5 of a conversion leave, before full may be found
abbrev count_after : Meter → ℕ → ℕ
count_after m raw =
    let p = counting_of m.cells.block.shadow in
    (counted_of m.cells.profile p m.charge m.flow.trace.last (converted_of m.flow raw p.cob)).count

-- a conversion counts the fall of ACR in step 3, with Full40 as it stands, and full that is found is none
pub convert_cycles : (m : Meter) (raw : ℕ)
    → (convert_of m raw).cycles ≡
    cycled_of m.cells.profile (capacity_of m.cells.block.shadow).full40 m.cycles (fall_of m.charge.count (count_after m raw))
unfolding convert_of flowed_of
convert_cycles m raw = refl

-- at a power-on it takes its saved cell as it is
pub powered_cycles_lem : (c : Cells) → (powered_of c).cycles ≡ powered_cycles c.saved.cycles
unfolding powered_of
powered_cycles_lem c = refl
