-- The contracts of this crate's public functions leave no choice.
use mathlib.Core.Path.{sym, ◌∙◌}
use Rattle.numbers.specs.Once.{Once}
use Rattle.library.proofs.trovimbe_start
use Rattle.library.specs.contracts.trovimbe_start as trovimbe_start'
use Rattle.library.proofs.trovimbe_record
use Rattle.library.specs.contracts.trovimbe_record as trovimbe_record'
use Rattle.library.proofs.trovimbe_image
use Rattle.library.specs.contracts.trovimbe_image as trovimbe_image'
use Rattle.library.proofs.trovimbe_tray_start
use Rattle.library.specs.contracts.trovimbe_tray_start as trovimbe_tray_start'
use Rattle.library.proofs.trovimbe_tray_record
use Rattle.library.specs.contracts.trovimbe_tray_record as trovimbe_tray_record'
use Rattle.library.proofs.trovimbe_tray_image
use Rattle.library.specs.contracts.trovimbe_tray_image as trovimbe_tray_image'

pub trovimbe_start_once : Once trovimbe_start'.ended trovimbe_start.Reads.Pre trovimbe_start.Reads.Learnt
trovimbe_start_once κs a r r' w w' p h h' = (h.answered ∙ sym h'.answered, λ i. ((h.kept ∙ sym h'.kept) i, tt))

pub trovimbe_record_once : Once trovimbe_record'.ended trovimbe_record.Reads.Pre trovimbe_record.Reads.Learnt
trovimbe_record_once κs a r r' w w' p h h' =
    let answer = h.answered ∙ sym h'.answered in
    let count = h.counted ∙ sym h'.counted in
    let kept = h.kept ∙ sym h'.kept in
    let written = h.written ∙ sym h'.written in
    ((λ i. record { answer = answer i; count = count i }), λ i. (kept i, (tt, (written i, tt))))

pub trovimbe_image_once : Once trovimbe_image'.ended trovimbe_image.Reads.Pre trovimbe_image.Reads.Learnt
trovimbe_image_once κs a r r' w w' p h h' =
    let answer = h.answered ∙ sym h'.answered in
    let count = h.counted ∙ sym h'.counted in
    ((λ i. record { answer = answer i; count = count i }), λ i. (tt, ((h.written ∙ sym h'.written) i, tt)))

pub trovimbe_tray_start_once : Once trovimbe_tray_start'.ended trovimbe_tray_start.Reads.Pre trovimbe_tray_start.Reads.Learnt
trovimbe_tray_start_once κs a r r' w w' p h h' = (h.answered ∙ sym h'.answered, λ i. ((h.kept ∙ sym h'.kept) i, tt))

pub trovimbe_tray_record_once : Once trovimbe_tray_record'.ended trovimbe_tray_record.Reads.Pre trovimbe_tray_record.Reads.Learnt
trovimbe_tray_record_once κs a r r' w w' p h h' =
    let answer = h.answered ∙ sym h'.answered in
    let count = h.counted ∙ sym h'.counted in
    let kept = h.kept ∙ sym h'.kept in
    let written = h.written ∙ sym h'.written in
    ((λ i. record { answer = answer i; count = count i }), λ i. (kept i, (tt, (written i, tt))))

pub trovimbe_tray_image_once : Once trovimbe_tray_image'.ended trovimbe_tray_image.Reads.Pre trovimbe_tray_image.Reads.Learnt
trovimbe_tray_image_once κs a r r' w w' p h h' =
    let answer = h.answered ∙ sym h'.answered in
    let count = h.counted ∙ sym h'.counted in
    ((λ i. record { answer = answer i; count = count i }), λ i. (tt, (tt, ((h.written ∙ sym h'.written) i, tt))))
