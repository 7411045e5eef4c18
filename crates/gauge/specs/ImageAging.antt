-- Who sets AS, from the image on: "Saved AS is honoured at power-on as before."
use Rattle.std.specs.Prelude.{◌≡◌, List, ℕ}
use Rattle.state.specs.declared.Profile.{Profile}
use Rattle.record.specs.Image.{image_aging}
use Rattle.state.specs.State.{as_in}
use Rattle.gauge.specs.Aging.{aging_of, OwnAging}
use Rattle.gauge.specs.Image.{image_of}

pub record PackAging : Type 0 where
  -- accepting an image sets AS from the saved cell, moved into 63..128
  pub images : (f : Profile) (p : List ℕ) → aging_of (image_of f p) ≡ as_in (image_aging p)
  -- and then only what `OwnAging` names
  pub events : OwnAging
