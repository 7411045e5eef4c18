-- Replies on one line: a byte that one pack pulls low is low.
use Rattle.std.specs.Prelude.{List, [], ◌∷◌, ℕ}
use Rattle.std.specs.Int.Bits.{bit_and}

-- the bitwise AND of two replies, byte by byte, as long as the first
abbrev pub and_bytes : List ℕ → List ℕ → List ℕ
and_bytes [] bs = []
and_bytes (a ∷ rest) [] = a ∷ rest
and_bytes (a ∷ rest) (b ∷ bs) = bit_and a b ∷ and_bytes rest bs
