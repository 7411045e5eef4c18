-- The contracts of this program's functions leave no choice.
use mathlib.Core.Path.{sym, ◌∙◌}
use Rattle.numbers.specs.Once.{Once}
use Rattle.streams.proofs.Laws.{own_read, same_said, same_room}
use Rattle.mend.proofs.put_why
use Rattle.mend.specs.contracts.put_why as put_why'
use Rattle.mend.proofs.put_lines
use Rattle.mend.specs.contracts.put_lines as put_lines'
use Rattle.mend.proofs.put_mended
use Rattle.mend.specs.contracts.put_mended as put_mended'
use Rattle.mend.proofs.repaired
use Rattle.mend.specs.contracts.repaired as repaired'

pub put_why_once : Once put_why'.ended put_why.Reads.Pre put_why.Reads.Learnt
put_why_once κs a r r' w w' p h h' = (same_said h h', λ i. (tt, (same_room h h' i, tt)))

pub put_lines_once : Once put_lines'.ended put_lines.Reads.Pre put_lines.Reads.Learnt
put_lines_once κs a r r' w w' p h h' = (same_said h h', λ i. (tt, (same_room h h' i, tt)))

pub put_mended_once : Once put_mended'.ended put_mended.Reads.Pre put_mended.Reads.Learnt
put_mended_once κs a r r' w w' p h h' =
    (same_said h.saying h'.saying, λ i. (tt, ((h.filed ∙ sym h'.filed) i, (same_room h.saying h'.saying i, tt))))

pub repaired_once : Once repaired'.ended repaired.Reads.Pre repaired.Reads.Learnt
repaired_once κs a r r' w w' p h h' =
    let front = own_read a.0.now a.1.0 in
    let x = h.0 _ front in
    let y = h'.0 _ front in
    (same_said x.saying y.saying, λ i. (tt, (tt, ((x.filed ∙ sym y.filed) i, (same_room x.saying y.saying i, tt)))))
