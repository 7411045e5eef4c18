-- The contracts of this program's functions leave no choice.
use mathlib.Core.Path.{refl, sym, ◌∙◌}
use Rattle.numbers.specs.Once.{Once}
use Rattle.digits.proofs.Unique.{same}
use Rattle.streams.proofs.Laws.{own_read, same_said, same_room}
use Rattle.hex_out.proofs.put_refusal
use Rattle.hex_out.specs.contracts.put_refusal as put_refusal'
use Rattle.hex_out.proofs.put_side
use Rattle.hex_out.specs.contracts.put_side as put_side'
use Rattle.hex_out.proofs.put_image_refused
use Rattle.hex_out.specs.contracts.put_image_refused as put_image_refused'
use Rattle.hex_out.proofs.put_why
use Rattle.hex_out.specs.contracts.put_why as put_why'
use Rattle.hex_out.proofs.put_export
use Rattle.hex_out.specs.contracts.put_export as put_export'
use Rattle.hex_out.proofs.exported
use Rattle.hex_out.specs.contracts.exported as exported'

pub put_refusal_once : Once put_refusal'.ended put_refusal.Reads.Pre put_refusal.Reads.Learnt
put_refusal_once κs a r r' w w' p h h' = (refl, λ i. (tt, (same h h' i, tt)))

pub put_side_once : Once put_side'.ended put_side.Reads.Pre put_side.Reads.Learnt
put_side_once κs a r r' w w' p h h' = (same_said h h', λ i. (tt, (tt, (tt, (same_room h h' i, tt)))))

pub put_image_refused_once : Once put_image_refused'.ended put_image_refused.Reads.Pre put_image_refused.Reads.Learnt
put_image_refused_once κs a r r' w w' p h h' = (same_said h h', λ i. (tt, (tt, (tt, (same_room h h' i, tt)))))

pub put_why_once : Once put_why'.ended put_why.Reads.Pre put_why.Reads.Learnt
put_why_once κs a r r' w w' p h h' = (same_said h h', λ i. (tt, (tt, (tt, (same_room h h' i, tt)))))

pub put_export_once : Once put_export'.ended put_export.Reads.Pre put_export.Reads.Learnt
put_export_once κs a r r' w w' p h h' = (same_said h h', λ i. (tt, (tt, (same_room h h' i, tt))))

pub exported_once : Once exported'.ended exported.Reads.Pre exported.Reads.Learnt
exported_once κs a r r' w w' p h h' =
    let one = own_read a.0.now a.1.0 in
    let other = own_read a.1.1.0.now a.1.1.1.0 in
    let x = h _ _ one other in
    let y = h' _ _ one other in
    (same_said x y, λ i. (tt, (tt, (tt, (tt, (same_room x y i, tt))))))
