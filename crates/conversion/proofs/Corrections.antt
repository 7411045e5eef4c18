-- A conversion corrects just where `corrects_full` says.
use mathlib.Core.Path.{◌≡◌, refl, ap, ◌∙◌}
use mathlib.Core.Bool.{Bool, false}
use Prim.Native.Nat.{ℕ}
use Rattle.params.specs.Params.{capacity_of}
use Rattle.conversion.specs.Conversion.{settled_of, flowed_of, convert_of, charge_in, corrects_full}
use Rattle.state.specs.declared.Meter.{Meter}

-- ---- a conversion

-- where full is found step 6 fills the charge that steps 1 to 5 leave, and else that is all
pub converted_charge : (m : Meter) (raw : ℕ)
    → (convert_of m raw).charge ≡ settled_of (charge_in m raw) (corrects_full m raw) m.shown.model.full (capacity_of m.cells.block.shadow).full40
unfolding convert_of flowed_of
converted_charge m raw = refl

pub uncorrected : (m : Meter) (raw : ℕ) → corrects_full m raw ≡ false → (convert_of m raw).charge ≡ charge_in m raw
unfolding settled_of
uncorrected m raw e =
    converted_charge m raw
    ∙ ap (λ (found : Bool). settled_of (charge_in m raw) found m.shown.model.full (capacity_of m.cells.block.shadow).full40) e
