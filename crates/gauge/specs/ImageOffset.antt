-- "The image carries neither, power-on clears both": of the two that request [7] of document 02 adds to the state, the count of conversions (in `flow`) and
-- the mark (in `charge`).
use Rattle.std.specs.Prelude.{◌≡◌, false, List, ℕ}
use Rattle.state.specs.declared.Charge.{Charge}
use Rattle.state.specs.declared.Flow.{Flow}
use Rattle.state.specs.declared.Meter.{Meter}
use Rattle.state.specs.declared.Profile.{Profile}
use Rattle.conversion.specs.Conversion.{with_charge, with_flow}
use Rattle.block1.specs.OffsetConversion.{made_in}
use Rattle.gauge.specs.declared.Gauge.{Gauge}
use Rattle.gauge.specs.Gauge.{with_meter, power_on_of}
use Rattle.gauge.specs.Image.{image_of, bytes_of}

-- no conversion was counted, and there is no mark
pub record NoOffset (meter : Meter) : Type 0 where
  pub made : made_in meter ≡ 0
  pub mark : meter.charge.mark ≡ false

pub record OffsetUncarried : Type 0 where
  -- whatever count and mark a pack has, its image is the same
  pub out : (g : Gauge) (charge : Charge) (flow : Flow) → bytes_of (with_meter g (with_flow (with_charge g.meter charge) flow)) ≡ bytes_of g
  -- a pack that is made of an image has neither, nor has one that is powered on
  pub in_none : (profile : Profile) (image : List ℕ) → NoOffset (image_of profile image).meter
  pub power_on_none : (g : Gauge) → NoOffset (power_on_of g).meter
