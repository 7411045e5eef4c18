-- Which kind of record is an image, of which profile.
use mathlib.Core.Path.{◌≡◌, refl}
use mathlib.Core.Bool.{true}
use Rattle.state.specs.declared.Profile.{Profile}
use Rattle.state.specs.declared.Profile.TheVariants.{Ds2781, Ds2775}
use Rattle.record.specs.declared.Kind.TheVariants as kind
use Rattle.record.specs.Record.{kind_of}
use Rattle.tray_record.specs.Tray.{tray_kind_of}
use Rattle.demands.specs.Images.{image_kind, is_image}

pub session_image : (f : Profile) → kind_of (image_kind f) ≡ kind.Image f
unfolding kind_of
session_image Ds2781 = refl
session_image Ds2775 = refl

pub tray_image : (f : Profile) → tray_kind_of (image_kind f) ≡ kind.Image f
unfolding tray_kind_of
tray_image Ds2781 = refl
tray_image Ds2775 = refl

pub is_image_lem : (f : Profile) → is_image (image_kind f) ≡ true
is_image_lem Ds2781 = refl
is_image_lem Ds2775 = refl
