-- The contracts of this crate's public functions leave no choice.
use mathlib.Core.Path.{refl, sym, ◌∙◌}
use Rattle.numbers.specs.Once.{Once}
use Rattle.preset_session.proofs.U8FromPresetRefusal.from
use Rattle.preset_session.specs.contracts.U8FromPresetRefusal.from as from'
use Rattle.preset_session.proofs.write_session
use Rattle.preset_session.specs.contracts.write_session as write_session'

pub preset_refusal_number_once : Once from'.ended from.Reads.Pre from.Reads.Learnt
preset_refusal_number_once κs a r r' w w' p h h' = (h ∙ sym h', refl)

pub write_session_once : Once write_session'.ended write_session.Reads.Pre write_session.Reads.Learnt
write_session_once κs a r r' w w' p h h' = (h.answer ∙ sym h'.answer, λ i. (tt, (tt, ((h.written ∙ sym h'.written) i, tt))))
