-- What follows of the CRC's definition.
use mathlib.Core.Path.{◌≡◌, refl, ◌∙◌}
use mathlib.Core.List.{List, [], ◌∷◌, ◌++◌}
use Prim.Native.Nat.{ℕ, ◌+◌, ◌<◌}
use native.Mathlib.Numerals.{add-one}
use lib.Bits.{xor_self}
use lib.ListN.{length, get_or, drop}
use lib.Seq.{drop-cons}
use Rattle.crc.specs.Crc.{bit_of, eight_of, next_of, crc_from, crc_of}

-- one byte more of a message
pub crc_more : (s : List ℕ) (c i : ℕ) → i < length s → crc_from c (drop i s) ≡ crc_from (next_of c (get_or s i 0)) (drop (i + 1) s)
crc_more s c i h = rw (add-one, drop-cons s i 0)

-- bytes, and bytes after them
pub crc_append : (c : ℕ) (s t : List ℕ) → crc_from c (s ++ t) ≡ crc_from (crc_from c s) t
crc_append c [] t = refl
crc_append c (b ∷ s) t = crc_append (next_of c b) s t

-- the CRC after its own value as a byte
byte_self : (c : ℕ) → next_of c c ≡ 0
unfolding next_of eight_of bit_of
byte_self c = rw xor_self

-- a message followed by its CRC has the CRC 0
pub residue : (s : List ℕ) → crc_of (s ++ (crc_of s ∷ [])) ≡ 0
residue s = crc_append 0 s (crc_of s ∷ []) ∙ byte_self (crc_of s)

-- the worked number of Application Note 27
pub worked : crc_of (0x02 ∷ 0x1c ∷ 0xb8 ∷ 0x01 ∷ 0x00 ∷ 0x00 ∷ 0x00 ∷ []) ≡ 0xa2
unfolding next_of eight_of bit_of
worked = refl
