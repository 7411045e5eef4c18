-- `mending::put_changes` meets its contract. The invariant: the lines of the bytes so far stand at the front of the room.
use Prim.Native.Nat.{◌*◌}
use lib.ListN.{take}
use Rattle.digits.specs.Digits.{Appends}
use Rattle.mending.specs.Mending.{changes_from}
use Rattle.mending.proofs.put_changes.Given as goal

abbrev pub invariant-loop-i : goal.invariant-loop-i
invariant-loop-i l = Appends (9 * l.i) (changes_from 0 (take l.i l.old) (take l.i l.new)) l.initial.page l.page
