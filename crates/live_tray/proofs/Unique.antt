-- The contracts of this program's functions leave no choice. (`serve` leaves in its rooms what came from outside.)
use mathlib.Core.Path.{refl, sym, ◌∙◌}
use Rattle.numbers.specs.Once.{Once}
use Rattle.streams.proofs.Laws.{same_said, same_room}
use Rattle.live_tray.proofs.answered
use Rattle.live_tray.specs.contracts.answered as answered'
use Rattle.live_tray.proofs.ended
use Rattle.live_tray.specs.contracts.ended as ended'
use Rattle.live_tray.proofs.held
use Rattle.live_tray.specs.contracts.held as held'
use Rattle.live_tray.proofs.put_start
use Rattle.live_tray.specs.contracts.put_start as put_start'
use Rattle.live_tray.proofs.slot_named
use Rattle.live_tray.specs.contracts.slot_named as slot_named'
use Rattle.live_tray.proofs.take_out
use Rattle.live_tray.specs.contracts.take_out as take_out'
use Rattle.live_tray.proofs.put_image
use Rattle.live_tray.specs.contracts.put_image as put_image'
use Rattle.live_tray.proofs.keep_both
use Rattle.live_tray.specs.contracts.keep_both as keep_both'
use Rattle.live_tray.proofs.keep
use Rattle.live_tray.specs.contracts.keep as keep'
use Rattle.live_tray.proofs.begin
use Rattle.live_tray.specs.contracts.begin as begin'

pub answered_once : Once answered'.ended answered.Reads.Pre answered.Reads.Learnt
answered_once κs a r r' w w' p h h' =
    let x = h.0 in
    let y = h'.0 in (
      λ i. record {
        tray = (x.state ∙ sym y.state) i;
        lines = (x.counted ∙ sym y.counted) i;
        used = (x.used ∙ sym y.used) i;
        said = same_said x.saying y.saying i;
      },
      λ i.
          (tt, (tt, (tt, ((x.replies ∙ sym y.replies) i, ((x.answered ∙ sym y.answered) i, (same_room x.saying y.saying i, tt)))))),
    )

pub ended_once : Once ended'.ended ended.Reads.Pre ended.Reads.Learnt
ended_once κs a r r' w w' p h h' = (same_said h h', λ i. (tt, (tt, (tt, (tt, (same_room h h' i, tt))))))

pub held_once : Once held'.ended held.Reads.Pre held.Reads.Learnt
held_once κs a r r' w w' p h h' = (h.0 ∙ sym h'.0, refl)

pub put_start_once : Once put_start'.ended put_start.Reads.Pre put_start.Reads.Learnt
put_start_once κs a r r' w w' p h h' = (same_said h h', λ i. (tt, (same_room h h' i, tt)))

pub slot_named_once : Once slot_named'.ended slot_named.Reads.Pre slot_named.Reads.Learnt
slot_named_once κs a r r' w w' p h h' = (h ∙ sym h', refl)

pub take_out_once : Once take_out'.ended take_out.Reads.Pre take_out.Reads.Learnt
take_out_once κs a r r' w w' p h h' = (h.value ∙ sym h'.value, λ i. (tt, (tt, ((h.written ∙ sym h'.written) i, tt))))

pub put_image_once : Once put_image'.ended put_image.Reads.Pre put_image.Reads.Learnt
put_image_once κs a r r' w w' p h h' = (same_said h h', λ i. (tt, (tt, (same_room h h' i, tt))))

pub keep_both_once : Once keep_both'.ended keep_both.Reads.Pre keep_both.Reads.Learnt
keep_both_once κs a r r' w w' p h h' = (refl, refl)

pub keep_once : Once keep'.ended keep.Reads.Pre keep.Reads.Learnt
keep_once κs a r r' w w' p h h' = (refl, refl)

pub begin_once : Once begin'.ended begin.Reads.Pre begin.Reads.Learnt
begin_once κs a r r' w w' p h h' = (refl, refl)
