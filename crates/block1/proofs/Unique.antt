-- The contracts of this crate's public functions leave no choice.
use mathlib.Core.Path.{refl, sym, ◌∙◌}
use Rattle.numbers.specs.Once.{Once}
use Rattle.block1.proofs.meter_written
use Rattle.block1.specs.contracts.meter_written as meter_written'
use Rattle.block1.proofs.meter_copied
use Rattle.block1.specs.contracts.meter_copied as meter_copied'
use Rattle.block1.proofs.meter_recalled
use Rattle.block1.specs.contracts.meter_recalled as meter_recalled'
use Rattle.block1.proofs.meter_locked
use Rattle.block1.specs.contracts.meter_locked as meter_locked'

pub meter_written_once : Once meter_written'.ended meter_written.Reads.Pre meter_written.Reads.Learnt
meter_written_once κs a r r' w w' p h h' = (h.0 ∙ sym h'.0, refl)

pub meter_copied_once : Once meter_copied'.ended meter_copied.Reads.Pre meter_copied.Reads.Learnt
meter_copied_once κs a r r' w w' p h h' = (h.0 ∙ sym h'.0, refl)

pub meter_recalled_once : Once meter_recalled'.ended meter_recalled.Reads.Pre meter_recalled.Reads.Learnt
meter_recalled_once κs a r r' w w' p h h' = (h.0 ∙ sym h'.0, refl)

pub meter_locked_once : Once meter_locked'.ended meter_locked.Reads.Pre meter_locked.Reads.Learnt
meter_locked_once κs a r r' w w' p h h' = (h.0 ∙ sym h'.0, refl)
