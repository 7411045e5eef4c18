-- COB in the four bytes that it is taken with.
use mathlib.Core.Path.{◌≡◌, ◌∙◌}
use mathlib.Core.List.{List}
use Prim.Native.Nat.{ℕ}
use native.Mathlib.Omega.{arith}
use lib.ListN.{get_or, drop}
use lib.Seq.{get_or-take, get_or-drop}
use Rattle.slices.specs.Slices.{part}

-- the last of the four bytes from 78h on is the byte at 7Bh
pub last_of_four : (block : List ℕ) → get_or (part 4 block 24) 3 0 ≡ get_or block 27 0
last_of_four block = get_or-take 4 (drop 24 block) 3 0 (omega arith) ∙ get_or-drop 24 block 3 0
