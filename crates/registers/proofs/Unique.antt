-- The contracts of this crate's functions leave no choice.
use mathlib.Core.Path.{refl, sym, ◌∙◌}
use Rattle.numbers.specs.Once.{Once}
use Rattle.registers.proofs.PairFromU16.from as pair_from
use Rattle.registers.specs.contracts.PairFromU16.from as pair_from'
use Rattle.registers.proofs.register
use Rattle.registers.specs.contracts.register as register'
use Rattle.registers.proofs.registers
use Rattle.registers.specs.contracts.registers as registers'

pub pair_from_once : Once pair_from'.ended pair_from.Reads.Pre pair_from.Reads.Learnt
pair_from_once κs a r r' w w' p h h' = (h ∙ sym h', refl)

pub register_once : Once register'.ended register.Reads.Pre register.Reads.Learnt
register_once κs a r r' w w' p h h' = (h ∙ sym h', refl)

pub registers_once : Once registers'.ended registers.Reads.Pre registers.Reads.Learnt
registers_once κs a r r' w w' p h h' = (h ∙ sym h', refl)
