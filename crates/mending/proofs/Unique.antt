-- The contracts of this crate's public functions leave no choice.
use mathlib.Core.Path.{refl, sym, ◌∙◌}
use Rattle.numbers.specs.Once.{Once}
use Rattle.mending.proofs.U8FromMendRefusal.from
use Rattle.mending.specs.contracts.U8FromMendRefusal.from as from'
use Rattle.mending.proofs.mend
use Rattle.mending.specs.contracts.mend as mend'
use Rattle.mending.proofs.changes
use Rattle.mending.specs.contracts.changes as changes'

pub mend_refusal_number_once : Once from'.ended from.Reads.Pre from.Reads.Learnt
mend_refusal_number_once κs a r r' w w' p h h' = (h ∙ sym h', refl)

pub mend_once : Once mend'.ended mend.Reads.Pre mend.Reads.Learnt
mend_once κs a r r' w w' p h h' = (h.answer ∙ sym h'.answer, λ i. (tt, ((h.written ∙ sym h'.written) i, tt)))

pub changes_once : Once changes'.ended changes.Reads.Pre changes.Reads.Learnt
changes_once κs a r r' w w' p h h' = (h.answer ∙ sym h'.answer, λ i. (tt, ((h.written ∙ sym h'.written) i, tt)))
