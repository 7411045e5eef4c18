-- The contracts of this crate's public functions leave no choice.
use mathlib.Core.Path.{refl, sym, ◌∙◌}
use Rattle.numbers.specs.Once.{Once}
use Rattle.params.proofs.rnaop
use Rattle.params.specs.contracts.rnaop as rnaop'
use Rattle.params.proofs.Counting.of as counting
use Rattle.params.specs.contracts.Counting.of as counting'
use Rattle.params.proofs.Limits.of as limits
use Rattle.params.specs.contracts.Limits.of as limits'
use Rattle.params.proofs.Capacity.of as capacity
use Rattle.params.specs.contracts.Capacity.of as capacity'
use Rattle.params.proofs.Breaks.of as breaks
use Rattle.params.specs.contracts.Breaks.of as breaks'
use Rattle.params.proofs.Curves.of as curves
use Rattle.params.specs.contracts.Curves.of as curves'

pub rnaop_once : Once rnaop'.ended rnaop.Reads.Pre rnaop.Reads.Learnt
rnaop_once κs a r r' w w' p h h' = (h ∙ sym h', refl)

pub counting_once : Once counting'.ended counting.Reads.Pre counting.Reads.Learnt
counting_once κs a r r' w w' p h h' = (h ∙ sym h', refl)

pub limits_once : Once limits'.ended limits.Reads.Pre limits.Reads.Learnt
limits_once κs a r r' w w' p h h' = (h ∙ sym h', refl)

pub capacity_once : Once capacity'.ended capacity.Reads.Pre capacity.Reads.Learnt
capacity_once κs a r r' w w' p h h' = (h ∙ sym h', refl)

pub breaks_once : Once breaks'.ended breaks.Reads.Pre breaks.Reads.Learnt
breaks_once κs a r r' w w' p h h' = (h ∙ sym h', refl)

pub curves_once : Once curves'.ended curves.Reads.Pre curves.Reads.Learnt
curves_once κs a r r' w w' p h h' = (h ∙ sym h', refl)
