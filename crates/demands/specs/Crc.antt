-- THE CRC of document 01: "The CRC is the 1-Wire one .., low bit first, start 0. It uses a table of 256 entries, each checked against the bitwise rule."
use Rattle.std.specs.Prelude.{◌≡◌, List, [], ◌∷◌, ◌++◌, ℕ, ◌<◌, length, get_or}
use Rattle.std.specs.Int.Bits.{bit_xor}
use Rattle.crc.specs.Crc.{next_of, crc_of, Ruled}
use Rattle.crc.proofs.whole_table as tabler
use Rattle.crc.specs.contracts.whole_table as tabler'
use Rattle.crc.proofs.crc as checker
use Rattle.crc.specs.contracts.crc as checker'
use Rattle.demands.specs.Contracts.{ContractIs}

pub record CrcRule : Type 0 where
  -- the table, which `crc::whole_table` hands out and `crc::crc` looks into: 256 entries, each of them the rule's
  pub table : ContractIs tabler'.ended tabler.Reads.Learnt (λ κs a r w. Ruled r × (length r ≡ 256))
  -- one look into a table that follows the rule is eight steps of the rule
  pub steps : (entries : List ℕ) → Ruled entries → (c b : ℕ) → c < 256 → b < 256 → get_or entries (bit_xor c b) 0 ≡ next_of c b
  -- `crc::crc`, of a message of any length
  pub crc : ContractIs checker'.ended checker.Reads.Learnt (λ κs a r w. r ≡ crc_of a.0.now)
  -- the worked number of Application Note 27; and a message followed by its CRC has the CRC 0
  pub worked : crc_of (0x02 ∷ 0x1c ∷ 0xb8 ∷ 0x01 ∷ 0x00 ∷ 0x00 ∷ 0x00 ∷ []) ≡ 0xa2
  pub residue : (s : List ℕ) → crc_of (s ++ (crc_of s ∷ [])) ≡ 0
