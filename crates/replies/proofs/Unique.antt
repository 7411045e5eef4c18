-- The contracts of this crate's public functions leave no choice.
use mathlib.Core.Path.{refl, sym, ◌∙◌}
use Rattle.numbers.specs.Once.{Once}
use Rattle.replies.proofs.selected
use Rattle.replies.specs.contracts.selected as selected'
use Rattle.replies.proofs.fill_ones
use Rattle.replies.specs.contracts.fill_ones as fill_ones'
use Rattle.replies.proofs.replied
use Rattle.replies.specs.contracts.replied as replied'

pub selected_once : Once selected'.ended selected.Reads.Pre selected.Reads.Learnt
selected_once κs a r r' w w' p h h' = (h ∙ sym h', refl)

pub fill_ones_once : Once fill_ones'.ended fill_ones.Reads.Pre fill_ones.Reads.Learnt
fill_ones_once κs a r r' w w' p h h' = (refl, λ i. ((h ∙ sym h') i, tt))

pub replied_once : Once replied'.ended replied.Reads.Pre replied.Reads.Learnt
replied_once κs a r r' w w' p h h' = (refl, λ i. (tt, (tt, (tt, (tt, (tt, ((h ∙ sym h') i, tt)))))))
