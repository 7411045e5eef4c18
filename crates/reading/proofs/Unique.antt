-- The contracts of this crate's public functions leave no choice.
use mathlib.Core.Path.{refl, sym, ◌∙◌}
use Rattle.numbers.specs.Once.{Once}
use Rattle.reading.proofs.lowered
use Rattle.reading.specs.contracts.lowered as lowered'
use Rattle.reading.proofs.read
use Rattle.reading.specs.contracts.read as read'
use Rattle.reading.proofs.model_lines
use Rattle.reading.specs.contracts.model_lines as model_lines'
use Rattle.reading.proofs.Seen.of as seen
use Rattle.reading.specs.contracts.Seen.of as seen'
use Rattle.reading.proofs.point
use Rattle.reading.specs.contracts.point as point'
use Rattle.reading.proofs.emptied
use Rattle.reading.specs.contracts.emptied as emptied'
use Rattle.reading.proofs.rated
use Rattle.reading.specs.contracts.rated as rated'
use Rattle.reading.proofs.flagged
use Rattle.reading.specs.contracts.flagged as flagged'
use Rattle.reading.proofs.kept
use Rattle.reading.specs.contracts.kept as kept'

pub lowered_once : Once lowered'.ended lowered.Reads.Pre lowered.Reads.Learnt
lowered_once κs a r r' w w' p h h' = (h ∙ sym h', refl)

pub read_once : Once read'.ended read.Reads.Pre read.Reads.Learnt
read_once κs a r r' w w' p h h' = (h.0 ∙ sym h'.0, refl)

pub model_lines_once : Once model_lines'.ended model_lines.Reads.Pre model_lines.Reads.Learnt
model_lines_once κs a r r' w w' p h h' = (h.0 ∙ sym h'.0, refl)

pub seen_once : Once seen'.ended seen.Reads.Pre seen.Reads.Learnt
seen_once κs a r r' w w' p h h' = (h.0 ∙ sym h'.0, refl)

pub point_once : Once point'.ended point.Reads.Pre point.Reads.Learnt
point_once κs a r r' w w' p h h' = (h ∙ sym h', refl)

pub emptied_once : Once emptied'.ended emptied.Reads.Pre emptied.Reads.Learnt
emptied_once κs a r r' w w' p h h' = (h ∙ sym h', refl)

pub rated_once : Once rated'.ended rated.Reads.Pre rated.Reads.Learnt
rated_once κs a r r' w w' p h h' = (h ∙ sym h', refl)

pub flagged_once : Once flagged'.ended flagged.Reads.Pre flagged.Reads.Learnt
flagged_once κs a r r' w w' p h h' = (h ∙ sym h', refl)

pub kept_once : Once kept'.ended kept.Reads.Pre kept.Reads.Learnt
kept_once κs a r r' w w' p h h' = (h ∙ sym h', refl)
