-- The contracts of this program's functions leave no choice.
use Rattle.numbers.specs.Once.{Once}
use Rattle.streams.proofs.Laws.{own_read, same_said, same_room}
use Rattle.preset.proofs.put_judged
use Rattle.preset.specs.contracts.put_judged as put_judged'
use Rattle.preset.proofs.put_why
use Rattle.preset.specs.contracts.put_why as put_why'
use Rattle.preset.proofs.put_preset
use Rattle.preset.specs.contracts.put_preset as put_preset'
use Rattle.preset.proofs.programmed
use Rattle.preset.specs.contracts.programmed as programmed'

pub put_judged_once : Once put_judged'.ended put_judged.Reads.Pre put_judged.Reads.Learnt
put_judged_once κs a r r' w w' p h h' = (same_said h h', λ i. (tt, (tt, (same_room h h' i, tt))))

pub put_why_once : Once put_why'.ended put_why.Reads.Pre put_why.Reads.Learnt
put_why_once κs a r r' w w' p h h' = (same_said h h', λ i. (tt, (same_room h h' i, tt)))

pub put_preset_once : Once put_preset'.ended put_preset.Reads.Pre put_preset.Reads.Learnt
put_preset_once κs a r r' w w' p h h' = (same_said h h', λ i. (tt, (tt, (same_room h h' i, tt))))

pub programmed_once : Once programmed'.ended programmed.Reads.Pre programmed.Reads.Learnt
programmed_once κs a r r' w w' p h h' =
    let one = own_read a.0.now a.1.0 in
    let other = own_read a.1.1.0.now a.1.1.1.0 in
    let x = h _ _ one other in
    let y = h' _ _ one other in
    (same_said x y, λ i. (tt, (tt, (tt, (tt, (same_room x y i, tt))))))
