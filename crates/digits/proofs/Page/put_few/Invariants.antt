-- `digits::Page::put_few` meets its contract. The invariant is that of `put_pairs`; the table has the two digits of each byte.
use Prim.Native.Nat.{◌*◌}
use lib.ListN.{take}
use Rattle.digits.specs.Digits.{lower, hex_text, Appends}
use Rattle.digits.proofs.Page.put_few.Given as goal

abbrev pub invariant-loop-b : goal.invariant-loop-b
invariant-loop-b l = Appends (2 * l.b-index) (hex_text lower (take l.b-index l.few)) l.initial.self l.self
