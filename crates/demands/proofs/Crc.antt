-- The CRC of a message, by the table and by the rule.
use mathlib.Core.Path.{◌≡◌}
use mathlib.Core.List.{List}
use Prim.Native.Nat.{ℕ, ◌<◌}
use lib.Bits.{bit_xor, xor_lt}
use lib.ListN.{get_or}
use Rattle.crc.specs.Crc.{next_of, Ruled}
use Rattle.crc.proofs.Laws.{worked, residue}
use Rattle.demands.specs.Crc.{CrcRule}

looked_up : (entries : List ℕ) → Ruled entries → (c b : ℕ) → c < 256 → b < 256 → get_or entries (bit_xor c b) 0 ≡ next_of c b
unfolding next_of
looked_up entries ruled c b low less = ruled (bit_xor c b) (xor_lt 8 c b low less)

pub crc_rule : CrcRule
crc_rule = record {
  table = record { tells = λ κs a r w h. h; told = λ κs a r w h. h };
  steps = looked_up;
  crc = record { tells = λ κs a r w h. h; told = λ κs a r w h. h };
  worked = worked;
  residue = residue;
}
