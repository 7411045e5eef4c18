-- The contracts of this crate's public functions leave no choice.
use mathlib.Core.Path.{refl, sym, ◌∙◌}
use Rattle.numbers.specs.Once.{Once}
use Rattle.record.proofs.U8FromRefusal.from as number
use Rattle.record.specs.contracts.U8FromRefusal.from as number'
use Rattle.record.proofs.taken_number
use Rattle.record.specs.contracts.taken_number as taken_number'
use Rattle.record.proofs.judged
use Rattle.record.specs.contracts.judged as judged'
use Rattle.record.proofs.fitted_by
use Rattle.record.specs.contracts.fitted_by as fitted_by'
use Rattle.record.proofs.fitted
use Rattle.record.specs.contracts.fitted as fitted'

pub refusal_number_once : Once number'.ended number.Reads.Pre number.Reads.Learnt
refusal_number_once κs a r r' w w' p h h' = (h ∙ sym h', refl)

pub taken_number_once : Once taken_number'.ended taken_number.Reads.Pre taken_number.Reads.Learnt
taken_number_once κs a r r' w w' p h h' = (h ∙ sym h', refl)

pub judged_once : Once judged'.ended judged.Reads.Pre judged.Reads.Learnt
judged_once κs a r r' w w' p h h' = (h ∙ sym h', refl)

pub fitted_by_once : Once fitted_by'.ended fitted_by.Reads.Pre fitted_by.Reads.Learnt
fitted_by_once κs a r r' w w' p h h' = (h ∙ sym h', refl)

pub fitted_once : Once fitted'.ended fitted.Reads.Pre fitted.Reads.Learnt
fitted_once κs a r r' w w' p h h' = (h ∙ sym h', refl)
