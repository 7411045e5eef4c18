-- One record at a time: what a step gives back, and how steps make a run.
use Rattle.std.specs.Prelude.{◌≡◌, List, [], ◌∷◌, ◌++◌, ℕ, ◌-◌, length}
use Rattle.slices.specs.Slices.{put}
use Rattle.runs.specs.Record.{Rec, rec_of}
use Rattle.runs.specs.Run.{Did, Line, line_of, lines_after, end_after, replies_of}

-- the record at the front of some bytes, run in a state with a lent room: the state after it, its answer, and its reply at the front of the room
pub record StepDone {S : Type 0} (did : S → ℕ → Rec → Did S) (before : S) (bytes room : List ℕ) (after : S) (answer replied : ℕ) (last : List ℕ)
    : Type 0 where
  pub state : after ≡ (did before (length room) (rec_of bytes)).state
  pub answered : answer ≡ (did before (length room) (rec_of bytes)).answer
  pub counted : replied ≡ length (did before (length room) (rec_of bytes)).reply
  pub written : last ≡ put room 0 (did before (length room) (rec_of bytes)).reply

-- where steps stand: the state, the reply room that is left, and the lines so far
pub record Standing (S : Type 0) : Type 0 where
  pub state : S
  pub left : ℕ
  pub lines : List Line

module _ {S : Type 0} (did : S → ℕ → Rec → Did S) where
  -- one record more
  abbrev pub step_over : Standing S → Rec → Standing S
  step_over standing r =
      let d = did standing.state standing.left r in
      record { state = d.state; left = standing.left - length d.reply; lines = standing.lines ++ (line_of r d ∷ []) }

  -- the steps one after another
  abbrev pub steps_over : Standing S → List Rec → Standing S
  steps_over standing [] = standing
  steps_over standing (r ∷ rs) = steps_over (step_over standing r) rs

  -- the reply room that a run leaves
  abbrev pub left_after : S → ℕ → List Rec → ℕ
  left_after σ room rs = room - length (replies_of (lines_after did σ room rs))

  -- where a run stands at its end
  abbrev pub ran_over : S → ℕ → List Rec → Standing S
  ran_over σ room rs = record { state = end_after did σ room rs; left = left_after σ room rs; lines = lines_after did σ room rs }

  -- a run is its steps one after another; and a run over two lists is the run over the first, and from where that ends the run over the second
  pub record StepByStep : Type 0 where
    pub steps : (σ : S) (room : ℕ) (rs : List Rec) → steps_over (record { state = σ; left = room; lines = [] }) rs ≡ ran_over σ room rs
    pub lines_cut : (σ : S) (room : ℕ) (rs ts : List Rec) →
        lines_after did σ room (rs ++ ts) ≡ lines_after did σ room rs ++ lines_after did (end_after did σ room rs) (left_after σ room rs) ts
    pub end_cut : (σ : S) (room : ℕ) (rs ts : List Rec) →
        end_after did σ room (rs ++ ts) ≡ end_after did (end_after did σ room rs) (left_after σ room rs) ts

-- ---- a reply room for each record

-- what a record does with a reply room of so many bytes of its own: a run of these refuses nothing for what others replied
abbrev pub own_room : {S : Type 0} → ℕ → (S → ℕ → Rec → Did S) → S → ℕ → Rec → Did S
own_room room did σ left r = did σ room r
