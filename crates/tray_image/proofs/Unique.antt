-- The contracts of this program's functions leave no choice.
use mathlib.Core.Path.{refl, sym, ◌∙◌}
use Rattle.numbers.specs.Once.{Once}
use Rattle.streams.proofs.Laws.{own_read, same_said, same_room}
use Rattle.tray_image.proofs.is_number
use Rattle.tray_image.specs.contracts.is_number as is_number'
use Rattle.tray_image.proofs.slot_of
use Rattle.tray_image.specs.contracts.slot_of as slot_of'
use Rattle.tray_image.proofs.put_no_number
use Rattle.tray_image.specs.contracts.put_no_number as put_no_number'
use Rattle.tray_image.proofs.put_taken
use Rattle.tray_image.specs.contracts.put_taken as put_taken'
use Rattle.tray_image.proofs.put_asked
use Rattle.tray_image.specs.contracts.put_asked as put_asked'
use Rattle.tray_image.proofs.extracted
use Rattle.tray_image.specs.contracts.extracted as extracted'

pub is_number_once : Once is_number'.ended is_number.Reads.Pre is_number.Reads.Learnt
is_number_once κs a r r' w w' p h h' = (h ∙ sym h', refl)

pub slot_of_once : Once slot_of'.ended slot_of.Reads.Pre slot_of.Reads.Learnt
slot_of_once κs a r r' w w' p h h' = (h ∙ sym h', refl)

pub put_no_number_once : Once put_no_number'.ended put_no_number.Reads.Pre put_no_number.Reads.Learnt
put_no_number_once κs a r r' w w' p h h' = (same_said h h', λ i. (same_room h h' i, tt))

pub put_taken_once : Once put_taken'.ended put_taken.Reads.Pre put_taken.Reads.Learnt
put_taken_once κs a r r' w w' p h h' = (same_said h h', λ i. (tt, (tt, (same_room h h' i, tt))))

pub put_asked_once : Once put_asked'.ended put_asked.Reads.Pre put_asked.Reads.Learnt
put_asked_once κs a r r' w w' p h h' = (same_said h h', λ i. (tt, (tt, (same_room h h' i, tt))))

pub extracted_once : Once extracted'.ended extracted.Reads.Pre extracted.Reads.Learnt
extracted_once κs a r r' w w' p h h' =
    let front = own_read a.1.0.now a.1.1.0 in
    let x = h _ front in
    let y = h' _ front in
    (same_said x y, λ i. (tt, (tt, (tt, (same_room x y i, tt)))))
