-- The 1-Wire CRC, bit by bit: "polynomial X^8+X^5+X^4+1 .., low bit first, start 0". This is the rule that the table is held to.
use Rattle.std.specs.Prelude.{◌≡◌, cond, List, [], ◌∷◌, ℕ, ◌+◌, ◌-◌, ◌/◌, ◌%◌, ◌^◌, ◌<◌, eqb, get_or}
use Rattle.std.specs.Int.Bits.{bit_xor}

-- X^5+X^4+1, low bit first: the power X^k stands in bit 7 - k. (8Ch; X^8 is the bit that leaves.)
abbrev pub polynomial : ℕ
polynomial = 2 ^ (7 - 5) + 2 ^ (7 - 4) + 2 ^ (7 - 0)

-- one bit: the low bit leaves, and where it is 1 the polynomial comes in
unfoldable pub bit_of : ℕ → ℕ
bit_of x = cond (eqb (x % 2) 1) (bit_xor (x / 2) polynomial) (x / 2)

-- the eight bits of a byte
unfoldable pub eight_of : ℕ → ℕ
eight_of x = bit_of (bit_of (bit_of (bit_of (bit_of (bit_of (bit_of (bit_of x)))))))

-- the CRC c after the byte b
unfoldable pub next_of : ℕ → ℕ → ℕ
next_of c b = eight_of (bit_xor c b)

-- the CRC c after the bytes of a list, the first byte first
abbrev pub crc_from : ℕ → List ℕ → ℕ
crc_from c [] = c
crc_from c (b ∷ bs) = crc_from (next_of c b) bs

-- the CRC of a message: "start 0"
abbrev pub crc_of : List ℕ → ℕ
crc_of s = crc_from 0 s

-- "a table of 256 entries, each checked against the bitwise rule": entry k is what the eight bits of k leave of it
abbrev pub Ruled : List ℕ → Type 0
Ruled table = (k : ℕ) → k < 256 → get_or table k 0 ≡ eight_of k
