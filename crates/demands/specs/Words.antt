-- THE WORDS that the definitions are made of mean what they say: rounded down, clamped, rounded up, written into a room, low byte first.
use Rattle.std.specs.Prelude.{◌≡◌, ◌⊎◌, List, [], ◌∷◌, ◌++◌, ℕ, ◌+◌, ◌-◌, ◌*◌, ◌/◌, ◌%◌, ◌≤◌, ◌<◌, ℤ, pos, ◌+ℤ◌, ◌*ℤ◌, length, get_or, take, drop, ◌≤ℤ◌}
use Rattle.numbers.specs.Offset.{clamp_z, div_z, moved_into}
use Rattle.slices.specs.Slices.{put, laid_of, pair_at, quad_at}
use Rattle.conversion.specs.Conversion.{share_up_of}

-- z is n times the quotient, and a rest below n
pub record RoundedDown (z : ℤ) (n : ℕ) : Type 0 where
  pub rest : ℕ
  pub small : rest < n
  pub whole : z ≡ pos n *ℤ div_z z n +ℤ pos rest

pub record WordsMean : Type 0 where
  -- "divided by 8, rounded down", of negative numbers too: there is a rest of 0 to n - 1, and no other quotient has one
  pub divided : (z : ℤ) (n : ℕ) → 0 < n → RoundedDown z n
  pub divided_only : (q : ℤ) (n r : ℕ) → r < n → div_z (pos n *ℤ q +ℤ pos r) n ≡ q
  -- "clamped to": never outside, what is inside stays, and what is not becomes the end that it lies beyond
  pub clamp_low : (lo hi z : ℤ) → lo ≤ℤ hi → lo ≤ℤ clamp_z lo hi z
  pub clamp_high : (lo hi z : ℤ) → lo ≤ℤ hi → clamp_z lo hi z ≤ℤ hi
  pub clamp_inside : (lo hi z : ℤ) → lo ≤ℤ z → z ≤ℤ hi → clamp_z lo hi z ≡ z
  pub clamp_below : (lo hi z : ℤ) → lo ≤ℤ hi → z ≤ℤ lo → clamp_z lo hi z ≡ lo
  pub clamp_above : (lo hi z : ℤ) → lo ≤ℤ hi → hi ≤ℤ z → clamp_z lo hi z ≡ hi
  -- "moved into 63..128"
  pub moved_below : (low high x : ℕ) → low ≤ high → x ≤ low → moved_into low high x ≡ low
  pub moved_above : (low high x : ℕ) → low ≤ high → high ≤ x → moved_into low high x ≡ high
  pub moved_within : (low high x : ℕ) → low ≤ x → x ≤ high → moved_into low high x ≡ x
  -- [1]: "It is to be rounded up": the least ACR that covers a share of Full40, at most Full40
  pub covers : (share full40 : ℕ) → share * full40 ≤ 16384 * share_up_of share full40
  pub least : (share full40 acr : ℕ) → share * full40 ≤ 16384 * acr → share_up_of share full40 ≤ acr
  pub at_most : (share full40 : ℕ) → share ≤ 16384 → share_up_of share full40 ≤ full40
  -- bytes that are put into a room: what stood before and behind them stays
  pub put_is : (room : List ℕ) (i : ℕ) (bytes : List ℕ) → i + length bytes ≤ length room
      → put room i bytes ≡ take i room ++ bytes ++ drop (i + length bytes) room
  -- bytes that are written from an address upward over an array that stands from `low` on, below `high`: an address that they reach has its byte of them, any
  -- other keeps what it had
  pub laid_reached : (low high : ℕ) (array : List ℕ) (a : ℕ) (bytes : List ℕ) (i : ℕ) → i < length array → low + i < high
      → a ≤ low + i → low + i < a + length bytes → get_or (laid_of low high array a bytes) i 0 ≡ get_or bytes (low + i - a) 0
  pub laid_missed : (low high : ℕ) (array : List ℕ) (a : ℕ) (bytes : List ℕ) (i : ℕ) → i < length array → low + i < high
      → (low + i < a) ⊎ (a + length bytes ≤ low + i) → get_or (laid_of low high array a bytes) i 0 ≡ get_or array i 0
  -- "all house numbers are little-endian": of two bytes, and of four
  pub pair_read : (x : ℕ) → pair_at (x % 256 ∷ x / 256 ∷ []) 0 ≡ x
  pub quad_read : (x : ℕ) → quad_at (x % 256 ∷ x / 256 % 256 ∷ x / 65536 % 256 ∷ x / 16777216 ∷ []) 0 ≡ x
