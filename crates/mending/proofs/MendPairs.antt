-- Two causes at once, by computation.
use mathlib.Core.Path.{refl}
use Rattle.mending.specs.Mending.{mending_answer}
use Rattle.mending.specs.MendPairs.{MendAlone, MendSizeFirst, MendRoomFirst}

pub mend_alone : MendAlone
unfolding mending_answer
mend_alone = refl

pub mend_size_first : MendSizeFirst
unfolding mending_answer
mend_size_first = refl

pub mend_room_first : MendRoomFirst
unfolding mending_answer
mend_room_first = refl
