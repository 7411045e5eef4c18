-- Images of either profile, as records: kind 1 of the DS2781, kind 8 of the DS2775.
use Rattle.std.specs.Prelude.{Bool, ℕ, eqb}
use Rattle.numbers.specs.Choice.{either}
use Rattle.state.specs.declared.Profile.{Profile}
use Rattle.state.specs.declared.Profile.TheVariants.{Ds2781, Ds2775}
use Rattle.gauge.specs.declared.Gauge.{Gauge}

abbrev pub image_kind : Profile → ℕ
image_kind Ds2781 = 1
image_kind Ds2775 = 8

abbrev pub is_image : ℕ → Bool
is_image n = either (eqb n 1) (eqb n 8)

-- the profile that a pack's image picked
abbrev pub profile_of : Gauge → Profile
profile_of gauge = gauge.meter.cells.profile
