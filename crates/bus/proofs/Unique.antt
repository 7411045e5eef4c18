-- The contracts of this crate's public functions leave no choice.
use mathlib.Core.Path.{refl, sym, ◌∙◌}
use Rattle.numbers.specs.Once.{Once}
use Rattle.bus.proofs.RomFromU8.from as rom_from
use Rattle.bus.specs.contracts.RomFromU8.from as rom_from'
use Rattle.bus.proofs.CommandFromU8.from as command_from
use Rattle.bus.specs.contracts.CommandFromU8.from as command_from'
use Rattle.bus.proofs.asked
use Rattle.bus.specs.contracts.asked as asked'
use Rattle.bus.proofs.own
use Rattle.bus.specs.contracts.own as own'

pub rom_from_once : Once rom_from'.ended rom_from.Reads.Pre rom_from.Reads.Learnt
rom_from_once κs a r r' w w' p h h' = (h ∙ sym h', refl)

pub command_from_once : Once command_from'.ended command_from.Reads.Pre command_from.Reads.Learnt
command_from_once κs a r r' w w' p h h' = (h ∙ sym h', refl)

pub asked_once : Once asked'.ended asked.Reads.Pre asked.Reads.Learnt
asked_once κs a r r' w w' p h h' = (h ∙ sym h', refl)

pub own_once : Once own'.ended own.Reads.Pre own.Reads.Learnt
own_once κs a r r' w w' p h h' = (h ∙ sym h', refl)
