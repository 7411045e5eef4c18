-- The contracts of this crate's public functions leave no choice.
use mathlib.Core.Path.{refl, sym, ◌∙◌}
use Rattle.numbers.specs.Once.{Once}
use Rattle.conversion.proofs.current
use Rattle.conversion.specs.contracts.current as current'
use Rattle.conversion.proofs.converted
use Rattle.conversion.specs.contracts.converted as converted'
use Rattle.conversion.proofs.blanked
use Rattle.conversion.specs.contracts.blanked as blanked'
use Rattle.conversion.proofs.fall
use Rattle.conversion.specs.contracts.fall as fall'
use Rattle.conversion.proofs.traced
use Rattle.conversion.specs.contracts.traced as traced'
use Rattle.conversion.proofs.counted
use Rattle.conversion.specs.contracts.counted as counted'
use Rattle.conversion.proofs.set
use Rattle.conversion.specs.contracts.set as set'
use Rattle.conversion.proofs.aged_full
use Rattle.conversion.specs.contracts.aged_full as aged_full'
use Rattle.conversion.proofs.share
use Rattle.conversion.specs.contracts.share as share'
use Rattle.conversion.proofs.share_up
use Rattle.conversion.specs.contracts.share_up as share_up'
use Rattle.conversion.proofs.advanced
use Rattle.conversion.specs.contracts.advanced as advanced'
use Rattle.conversion.proofs.averaged
use Rattle.conversion.specs.contracts.averaged as averaged'
use Rattle.conversion.proofs.found
use Rattle.conversion.specs.contracts.found as found'
use Rattle.conversion.proofs.filled
use Rattle.conversion.specs.contracts.filled as filled'
use Rattle.conversion.proofs.charged
use Rattle.conversion.specs.contracts.charged as charged'
use Rattle.conversion.proofs.convert
use Rattle.conversion.specs.contracts.convert as convert'

pub current_once : Once current'.ended current.Reads.Pre current.Reads.Learnt
current_once κs a r r' w w' p h h' = (h ∙ sym h', refl)

pub converted_once : Once converted'.ended converted.Reads.Pre converted.Reads.Learnt
converted_once κs a r r' w w' p h h' = (h ∙ sym h', refl)

pub blanked_once : Once blanked'.ended blanked.Reads.Pre blanked.Reads.Learnt
blanked_once κs a r r' w w' p h h' = (h ∙ sym h', refl)

pub fall_once : Once fall'.ended fall.Reads.Pre fall.Reads.Learnt
fall_once κs a r r' w w' p h h' = (h ∙ sym h', refl)

pub traced_once : Once traced'.ended traced.Reads.Pre traced.Reads.Learnt
traced_once κs a r r' w w' p h h' = (h ∙ sym h', refl)

pub counted_once : Once counted'.ended counted.Reads.Pre counted.Reads.Learnt
counted_once κs a r r' w w' p h h' = (h ∙ sym h', refl)

pub set_once : Once set'.ended set.Reads.Pre set.Reads.Learnt
set_once κs a r r' w w' p h h' = (h ∙ sym h', refl)

pub aged_full_once : Once aged_full'.ended aged_full.Reads.Pre aged_full.Reads.Learnt
aged_full_once κs a r r' w w' p h h' = (h ∙ sym h', refl)

pub share_once : Once share'.ended share.Reads.Pre share.Reads.Learnt
share_once κs a r r' w w' p h h' = (h.0 ∙ sym h'.0, refl)

pub share_up_once : Once share_up'.ended share_up.Reads.Pre share_up.Reads.Learnt
share_up_once κs a r r' w w' p h h' = (h ∙ sym h', refl)

pub advanced_once : Once advanced'.ended advanced.Reads.Pre advanced.Reads.Learnt
advanced_once κs a r r' w w' p h h' = (h ∙ sym h', refl)

pub averaged_once : Once averaged'.ended averaged.Reads.Pre averaged.Reads.Learnt
averaged_once κs a r r' w w' p h h' = (h ∙ sym h', refl)

pub found_once : Once found'.ended found.Reads.Pre found.Reads.Learnt
found_once κs a r r' w w' p h h' = (h ∙ sym h', refl)

pub filled_once : Once filled'.ended filled.Reads.Pre filled.Reads.Learnt
filled_once κs a r r' w w' p h h' = (h ∙ sym h', refl)

pub charged_once : Once charged'.ended charged.Reads.Pre charged.Reads.Learnt
charged_once κs a r r' w w' p h h' = (h.0 ∙ sym h'.0, refl)

pub convert_once : Once convert'.ended convert.Reads.Pre convert.Reads.Learnt
convert_once κs a r r' w w' p h h' = (h.0 ∙ sym h'.0, refl)
