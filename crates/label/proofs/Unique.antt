-- The contracts of this crate's functions leave no choice.
use mathlib.Core.Path.{refl, sym, ◌∙◌}
use Rattle.numbers.specs.Once.{Once}
use Rattle.label.proofs.in_label
use Rattle.label.specs.contracts.in_label as in_label'
use Rattle.label.proofs.in_block
use Rattle.label.specs.contracts.in_block as in_block'
use Rattle.label.proofs.written as label_written
use Rattle.label.specs.contracts.written as label_written'
use Rattle.label.proofs.copied as label_copied
use Rattle.label.specs.contracts.copied as label_copied'
use Rattle.label.proofs.powered as label_powered
use Rattle.label.specs.contracts.powered as label_powered'
use Rattle.label.proofs.recalled as label_recalled
use Rattle.label.specs.contracts.recalled as label_recalled'
use Rattle.label.proofs.locked as common_locked
use Rattle.label.specs.contracts.locked as common_locked'

pub in_label_once : Once in_label'.ended in_label.Reads.Pre in_label.Reads.Learnt
in_label_once κs a r r' w w' p h h' = (h ∙ sym h', refl)

pub in_block_once : Once in_block'.ended in_block.Reads.Pre in_block.Reads.Learnt
in_block_once κs a r r' w w' p h h' = (h ∙ sym h', refl)

pub label_written_once : Once label_written'.ended label_written.Reads.Pre label_written.Reads.Learnt
label_written_once κs a r r' w w' p h h' = (h ∙ sym h', refl)

pub label_copied_once : Once label_copied'.ended label_copied.Reads.Pre label_copied.Reads.Learnt
label_copied_once κs a r r' w w' p h h' = (h ∙ sym h', refl)

pub label_powered_once : Once label_powered'.ended label_powered.Reads.Pre label_powered.Reads.Learnt
label_powered_once κs a r r' w w' p h h' = (h ∙ sym h', refl)

pub label_recalled_once : Once label_recalled'.ended label_recalled.Reads.Pre label_recalled.Reads.Learnt
label_recalled_once κs a r r' w w' p h h' = (h ∙ sym h', refl)

pub common_locked_once : Once common_locked'.ended common_locked.Reads.Pre common_locked.Reads.Learnt
common_locked_once κs a r r' w w' p h h' = (h ∙ sym h', refl)
