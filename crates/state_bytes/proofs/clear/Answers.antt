use mathlib.Core.Path.{refl}
use Rattle.state_bytes.specs.Tested.{clear_of}
use Rattle.state_bytes.proofs.clear.Goals as goal

pub returns : goal.returns
unfolding clear_of
returns c = refl
