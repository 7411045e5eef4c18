-- The contracts of this program's functions leave no choice.
use Rattle.numbers.specs.Once.{Once}
use Rattle.streams.proofs.Laws.{own_read, same_said, same_room}
use Rattle.image.proofs.put_taken
use Rattle.image.specs.contracts.put_taken as put_taken'
use Rattle.image.proofs.extracted
use Rattle.image.specs.contracts.extracted as extracted'

pub put_taken_once : Once put_taken'.ended put_taken.Reads.Pre put_taken.Reads.Learnt
put_taken_once κs a r r' w w' p h h' = (same_said h h', λ i. (tt, (same_room h h' i, tt)))

pub extracted_once : Once extracted'.ended extracted.Reads.Pre extracted.Reads.Learnt
extracted_once κs a r r' w w' p h h' =
    let front = own_read a.0.now a.1.0 in
    let x = h _ front in
    let y = h' _ front in
    (same_said x y, λ i. (tt, (tt, (same_room x y i, tt))))
