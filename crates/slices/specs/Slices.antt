-- Parts of a list of bytes, and little-endian numbers in it ("all house numbers are little-endian").
use Rattle.std.specs.Prelude.{◌≡◌, List, ℕ, ◌+◌, ◌-◌, ◌*◌, length, get_or, take, drop}
use Rattle.std.proofs.lemmas.List.Edits.{sets}

-- the n bytes of s from the index at on
abbrev pub part : ℕ → List ℕ → ℕ → List ℕ
part n s at = take n (drop at s)

-- the list l with the bytes vs written over what it has from i on (`WordsMean` of demands says it in one line)
abbrev pub put : List ℕ → ℕ → List ℕ → List ℕ
put l i vs = sets l i vs

-- an array that stands at the addresses from low up to high, high not in it, once bytes are written from the address a upward: those that fall
-- into it are laid over it, the others are dropped. Nothing wraps
unfoldable pub laid_of : ℕ → ℕ → List ℕ → ℕ → List ℕ → List ℕ
laid_of low high array a bytes = put array (a - low) (drop (low - a) (take (high - a) bytes))

-- an array of n bytes was written into a slice from the index at on. Its length is said for the proofs of callers, to which the array is a list
pub record Stored (n : ℕ) (array before : List ℕ) (at : ℕ) (after : List ℕ) : Type 0 where
  pub sized : length array ≡ n
  pub written : after ≡ put before at array

-- the number of two bytes at the index at, the low byte first
abbrev pub pair_at : List ℕ → ℕ → ℕ
pair_at s at = get_or s at 0 + 256 * get_or s (at + 1) 0

-- the number of four bytes at the index at, the low byte first
abbrev pub quad_at : List ℕ → ℕ → ℕ
quad_at s at = pair_at s at + 65536 * pair_at s (at + 2)
