-- `digits::Page::put_pairs` meets its contract. The invariant: the bytes so far stand in hex.
use Prim.Native.Nat.{◌*◌}
use lib.ListN.{take}
use Rattle.digits.specs.Digits.{letter_of, hex_text, Appends}
use Rattle.digits.proofs.Page.put_pairs.Given as goal

abbrev pub invariant-loop-b : goal.invariant-loop-b
invariant-loop-b l = Appends (2 * l.b-index) (hex_text (letter_of l.letters) (take l.b-index l.bytes)) l.initial.self l.self
