-- Input that comes read by read: the whole records that each read completes, and what is left for the next.
use Rattle.std.specs.Prelude.{◌≡◌, false, List, [], ◌∷◌, ◌++◌, ℕ, zero, suc, ◌+◌, ◌*◌, ◌≤◌, length, drop}
use Rattle.numbers.specs.Choice.{pick}
use Rattle.runs.specs.Record.{Rec, whole_of, rec_of, size_of, recs_of}
use Rattle.runs.specs.Run.{Did, lines_after, end_after}
use Rattle.runs.specs.Step.{own_room}

-- the whole records at the front of some bytes, so many at most
abbrev pub wholes_in : ℕ → List ℕ → List Rec
wholes_in zero l = []
wholes_in (suc n) l = pick (whole_of l) (rec_of l ∷ wholes_in n (drop (size_of l) l)) []

-- what is left behind them
abbrev pub left_over : ℕ → List ℕ → List ℕ
left_over zero l = l
left_over (suc n) l = pick (whole_of l) (left_over n (drop (size_of l) l)) l

-- how many bytes they are
abbrev pub wholes_span : ℕ → List ℕ → ℕ
wholes_span zero l = 0
wholes_span (suc n) l = pick (whole_of l) (size_of l + wholes_span n (drop (size_of l) l)) 0

-- the records that are answered, read by read: each read joins what was left before it; at the end of input what is left is answered
abbrev pub answered_in : ℕ → List ℕ → List (List ℕ) → List Rec
answered_in most left [] = recs_of left
answered_in most left (read ∷ reads) = wholes_in most (left ++ read) ++ answered_in most (left_over most (left ++ read)) reads

-- the whole input
abbrev pub input_of : List (List ℕ) → List ℕ
input_of [] = []
input_of (read ∷ reads) = read ++ input_of reads

pub record Divided : Type 0 where
  -- however the input is divided into reads, the records that are answered, at the end of input too, are those of the whole
  pub records : (most : ℕ) (reads : List (List ℕ)) → answered_in most [] reads ≡ recs_of (input_of reads)
  -- and each read has all whole records answered that it completes, where it has at most four bytes for each of them
  pub completed : (most : ℕ) (left read : List ℕ) → whole_of left ≡ false → length read ≤ 4 * most → whole_of (left_over most (left ++ read)) ≡ false

-- records with a reply room of their own, stopped anywhere and carried on: the lines and the end of one run
pub record CarriedOn {S : Type 0} (did : S → ℕ → Rec → Did S) (own : ℕ) : Type 0 where
  pub lines : (σ : S) (rs ts : List Rec) →
      lines_after (own_room own did) σ own (rs ++ ts)
      ≡ lines_after (own_room own did) σ own rs ++ lines_after (own_room own did) (end_after (own_room own did) σ own rs) own ts
  pub end : (σ : S) (rs ts : List Rec) →
      end_after (own_room own did) σ own (rs ++ ts) ≡ end_after (own_room own did) (end_after (own_room own did) σ own rs) own ts
