-- The contracts of this crate's public functions leave no choice.
use mathlib.Core.Path.{refl, sym, ◌∙◌}
use Rattle.numbers.specs.Once.{Once}
use Rattle.tray_record.proofs.empty
use Rattle.tray_record.specs.contracts.empty as empty'
use Rattle.tray_record.proofs.slot
use Rattle.tray_record.specs.contracts.slot as slot'
use Rattle.tray_record.proofs.image_at
use Rattle.tray_record.specs.contracts.image_at as image_at'
use Rattle.tray_record.proofs.front
use Rattle.tray_record.specs.contracts.front as front'
use Rattle.tray_record.proofs.known
use Rattle.tray_record.specs.contracts.known as known'
use Rattle.tray_record.proofs.wire
use Rattle.tray_record.specs.contracts.wire as wire'
use Rattle.tray_record.proofs.reached
use Rattle.tray_record.specs.contracts.reached as reached'
use Rattle.tray_record.proofs.selecting
use Rattle.tray_record.specs.contracts.selecting as selecting'
use Rattle.tray_record.proofs.heard
use Rattle.tray_record.specs.contracts.heard as heard'
use Rattle.tray_record.proofs.unheard
use Rattle.tray_record.specs.contracts.unheard as unheard'
use Rattle.tray_record.proofs.changing
use Rattle.tray_record.specs.contracts.changing as changing'
use Rattle.tray_record.proofs.changed
use Rattle.tray_record.specs.contracts.changed as changed'

pub empty_once : Once empty'.ended empty.Reads.Pre empty.Reads.Learnt
empty_once κs a r r' w w' p h h' = (h.0 ∙ sym h'.0, refl)

pub slot_once : Once slot'.ended slot.Reads.Pre slot.Reads.Learnt
slot_once κs a r r' w w' p h h' = (h.0 ∙ sym h'.0, refl)

pub image_at_once : Once image_at'.ended image_at.Reads.Pre image_at.Reads.Learnt
image_at_once κs a r r' w w' p h h' = (h ∙ sym h', refl)

pub front_once : Once front'.ended front.Reads.Pre front.Reads.Learnt
front_once κs a r r' w w' p h h' = (h ∙ sym h', refl)

pub known_once : Once known'.ended known.Reads.Pre known.Reads.Learnt
known_once κs a r r' w w' p h h' = (h ∙ sym h', refl)

pub wire_once : Once wire'.ended wire.Reads.Pre wire.Reads.Learnt
wire_once κs a r r' w w' p h h' = (refl, λ i. (tt, ((h ∙ sym h') i, tt)))

pub reached_once : Once reached'.ended reached.Reads.Pre reached.Reads.Learnt
reached_once κs a r r' w w' p h h' = (h.0 ∙ sym h'.0, refl)

pub selecting_once : Once selecting'.ended selecting.Reads.Pre selecting.Reads.Learnt
selecting_once κs a r r' w w' p h h' = (h ∙ sym h', refl)

pub heard_once : Once heard'.ended heard.Reads.Pre heard.Reads.Learnt
heard_once κs a r r' w w' p h h' =
    (refl, λ i. (tt, (tt, (tt, (tt, (tt, ((h.1.0 ∙ sym h'.1.0) i, ((h.0 ∙ sym h'.0) i, tt))))))))

pub unheard_once : Once unheard'.ended unheard.Reads.Pre unheard.Reads.Learnt
unheard_once κs a r r' w w' p h h' = (refl, λ i. (tt, (tt, ((h ∙ sym h') i, tt))))

pub changing_once : Once changing'.ended changing.Reads.Pre changing.Reads.Learnt
changing_once κs a r r' w w' p h h' = (h ∙ sym h', refl)

pub changed_once : Once changed'.ended changed.Reads.Pre changed.Reads.Learnt
changed_once κs a r r' w w' p h h' = (h.0 ∙ sym h'.0, refl)
