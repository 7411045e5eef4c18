-- The contracts of this crate's public functions leave no choice.
use mathlib.Core.Path.{refl, sym, ◌∙◌}
use Rattle.numbers.specs.Once.{Once}
use Rattle.gauge.proofs.Gauge.convert
use Rattle.gauge.specs.contracts.Gauge.convert as convert'
use Rattle.gauge.proofs.Gauge.sample
use Rattle.gauge.specs.contracts.Gauge.sample as sample'
use Rattle.gauge.proofs.Gauge.read
use Rattle.gauge.specs.contracts.Gauge.read as read'
use Rattle.gauge.proofs.Gauge.power_on
use Rattle.gauge.specs.contracts.Gauge.power_on as power_on'
use Rattle.gauge.proofs.Gauge.ran
use Rattle.gauge.specs.contracts.Gauge.ran as ran'
use Rattle.gauge.proofs.Gauge.transact
use Rattle.gauge.specs.contracts.Gauge.transact as transact'
use Rattle.gauge.proofs.can_change
use Rattle.gauge.specs.contracts.can_change as can_change'
use Rattle.gauge.proofs.image_in
use Rattle.gauge.specs.contracts.image_in as image_in'
use Rattle.gauge.proofs.image_out
use Rattle.gauge.specs.contracts.image_out as image_out'

pub convert_once : Once convert'.ended convert.Reads.Pre convert.Reads.Learnt
convert_once κs a r r' w w' p h h' = (h.0 ∙ sym h'.0, refl)

pub sample_once : Once sample'.ended sample.Reads.Pre sample.Reads.Learnt
sample_once κs a r r' w w' p h h' = (h.0 ∙ sym h'.0, refl)

pub read_once : Once read'.ended read.Reads.Pre read.Reads.Learnt
read_once κs a r r' w w' p h h' = (h.0 ∙ sym h'.0, refl)

pub power_on_once : Once power_on'.ended power_on.Reads.Pre power_on.Reads.Learnt
power_on_once κs a r r' w w' p h h' = (h.0 ∙ sym h'.0, refl)

pub can_change_once : Once can_change'.ended can_change.Reads.Pre can_change.Reads.Learnt
can_change_once κs a r r' w w' p h h' = (h ∙ sym h', refl)

pub ran_once : Once ran'.ended ran.Reads.Pre ran.Reads.Learnt
ran_once κs a r r' w w' p h h' = (h.0 ∙ sym h'.0, refl)

pub transact_once : Once transact'.ended transact.Reads.Pre transact.Reads.Learnt
transact_once κs a r r' w w' p h h' = (h.0 ∙ sym h'.0, λ i. (tt, (tt, (tt, ((h.1.0 ∙ sym h'.1.0) i, tt)))))

pub image_in_once : Once image_in'.ended image_in.Reads.Pre image_in.Reads.Learnt
image_in_once κs a r r' w w' p h h' = (h.0 ∙ sym h'.0, refl)

pub image_out_once : Once image_out'.ended image_out.Reads.Pre image_out.Reads.Learnt
image_out_once κs a r r' w w' p h h' = (h.fits ∙ sym h'.fits, λ i. (tt, ((h.written ∙ sym h'.written) i, tt)))
