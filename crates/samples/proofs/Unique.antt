-- The contracts of this crate's public functions leave no choice.
use mathlib.Core.Path.{refl, sym, ◌∙◌}
use Rattle.numbers.specs.Once.{Once}
use Rattle.samples.proofs.plain
use Rattle.samples.specs.contracts.plain as plain'
use Rattle.samples.proofs.quick
use Rattle.samples.specs.contracts.quick as quick'
use Rattle.samples.proofs.sample
use Rattle.samples.specs.contracts.sample as sample'

pub plain_once : Once plain'.ended plain.Reads.Pre plain.Reads.Learnt
plain_once κs a r r' w w' p h h' = (h.0 ∙ sym h'.0, refl)

pub quick_once : Once quick'.ended quick.Reads.Pre quick.Reads.Learnt
quick_once κs a r r' w w' p h h' = (h.0 ∙ sym h'.0, refl)

pub sample_once : Once sample'.ended sample.Reads.Pre sample.Reads.Learnt
sample_once κs a r r' w w' p h h' = (h.0 ∙ sym h'.0, refl)
