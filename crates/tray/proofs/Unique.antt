-- The contracts of this program's functions leave no choice.
use Rattle.numbers.specs.Once.{Once}
use Rattle.streams.proofs.Laws.{own_read, same_said, same_room}
use Rattle.tray.proofs.printed
use Rattle.tray.specs.contracts.printed as printed'

pub printed_once : Once printed'.ended printed.Reads.Pre printed.Reads.Learnt
printed_once κs a r r' w w' p h h' =
    let front = own_read a.0.now a.1.0 in
    let x = h _ front in
    let y = h' _ front in
    (same_said x y, λ i. (tt, (tt, (same_room x y i, tt))))
