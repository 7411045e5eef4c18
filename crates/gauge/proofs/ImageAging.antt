-- An accepted image sets AS from its saved cell.
use mathlib.Core.Path.{refl}
use Rattle.state.specs.State.{powered_of}
use Rattle.gauge.proofs.Aging.{own_aging}
use Rattle.gauge.specs.Image.{image_of}
use Rattle.gauge.specs.ImageAging.{PackAging}

pub pack_aging : PackAging
unfolding image_of powered_of
pack_aging = record { images = λ f p. refl; events = own_aging }
