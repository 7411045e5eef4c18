-- The contracts of this crate's functions leave no choice.
use mathlib.Core.Path.{refl, sym, ◌∙◌}
use Rattle.numbers.specs.Once.{Once}
use Rattle.numbers.proofs.moved_into
use Rattle.numbers.specs.contracts.moved_into as moved_into'
use Rattle.numbers.proofs.offset8
use Rattle.numbers.specs.contracts.offset8 as offset8'
use Rattle.numbers.proofs.offset32
use Rattle.numbers.specs.contracts.offset32 as offset32'

pub moved_into_once : Once moved_into'.ended moved_into.Reads.Pre moved_into.Reads.Learnt
moved_into_once κs a r r' w w' p h h' = (h ∙ sym h', refl)

pub offset8_once : Once offset8'.ended offset8.Reads.Pre offset8.Reads.Learnt
offset8_once κs a r r' w w' p h h' = (h ∙ sym h', refl)

pub offset32_once : Once offset32'.ended offset32.Reads.Pre offset32.Reads.Learnt
offset32_once κs a r r' w w' p h h' = (h ∙ sym h', refl)
