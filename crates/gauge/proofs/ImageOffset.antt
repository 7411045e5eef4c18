-- An image carries neither the count of conversions nor the mark, proved.
use mathlib.Core.Path.{◌≡◌, refl}
use mathlib.Core.List.{List}
use Prim.Native.Nat.{ℕ}
use Rattle.state.specs.declared.Charge.{Charge}
use Rattle.state.specs.declared.Flow.{Flow}
use Rattle.state.specs.declared.Profile.{Profile}
use Rattle.state.specs.State.{powered_of}
use Rattle.conversion.specs.Conversion.{with_charge, with_flow}
use Rattle.gauge.specs.declared.Gauge.{Gauge}
use Rattle.gauge.specs.Gauge.{with_meter, power_on_of}
use Rattle.gauge.specs.Image.{image_of, bytes_of}
use Rattle.gauge.specs.ImageOffset.{NoOffset, OffsetUncarried}

image_same : (g : Gauge) (charge : Charge) (flow : Flow) → bytes_of (with_meter g (with_flow (with_charge g.meter charge) flow)) ≡ bytes_of g
unfolding bytes_of
image_same g charge flow = refl

image_none : (profile : Profile) (image : List ℕ) → NoOffset (image_of profile image).meter
unfolding image_of powered_of
image_none profile image = record { made = refl; mark = refl }

power_on_clears : (g : Gauge) → NoOffset (power_on_of g).meter
unfolding power_on_of powered_of
power_on_clears g = record { made = refl; mark = refl }

pub offset_uncarried : OffsetUncarried
offset_uncarried = record { out = image_same; in_none = image_none; power_on_none = power_on_clears }
