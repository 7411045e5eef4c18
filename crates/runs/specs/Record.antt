-- The records of a session: a payload length (2 bytes), a kind (2 bytes), then the payload.
use Rattle.std.specs.Prelude.{◌≡◌, Bool, false, List, [], ◌∷◌, ℕ, zero, suc, ◌+◌, ◌-◌, ◌/◌, ◌%◌, ltb, leb, length}
use Rattle.numbers.specs.Choice.{pick}
use Rattle.slices.specs.Slices.{part, put, pair_at}

-- a record with its kind and payload, or one that is cut: 1 to 3 bytes where a header is due, or a payload that runs past the end
pub data Rec : Type 0 where
  whole : ℕ → List ℕ → Rec
  cut : Rec

-- whether a whole record stands at the front of what is left of a session
unfoldable pub whole_of : List ℕ → Bool
whole_of l = pick (ltb (length l) 4) false (leb (4 + pair_at l 0) (length l))

unfoldable pub rec_of : List ℕ → Rec
rec_of l = pick (whole_of l) (whole (pair_at l 2) (part (pair_at l 0) l 4)) cut

-- how many bytes it takes: a cut record takes all that is left, and the session stops
unfoldable pub size_of : List ℕ → ℕ
size_of l = pick (whole_of l) (4 + pair_at l 0) (length l)

-- the records of a list of bytes of which the first k belong to a record that was taken
abbrev pub recs_from : ℕ → List ℕ → List Rec
recs_from k [] = []
recs_from zero (x ∷ xs) = rec_of (x ∷ xs) ∷ recs_from (size_of (x ∷ xs) - 1) xs
recs_from (suc k) (x ∷ xs) = recs_from k xs

abbrev pub recs_of : List ℕ → List Rec
recs_of s = recs_from 0 s

-- the kind that a record's line shows; a cut one shows none
abbrev pub kind_in : Rec → ℕ
kind_in (whole kind p) = kind
kind_in cut = 0

-- the bytes of a record: its payload's length and its kind, each as two bytes, the low one first, then the payload
abbrev pub record_of : ℕ → List ℕ → List ℕ
record_of kind p = length p % 256 ∷ length p / 256 ∷ kind % 256 ∷ kind / 256 ∷ p
