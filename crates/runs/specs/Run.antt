-- What a run of records does, of any state and of any `did`, which says what one record does to it with so much reply room left: a line for
-- each record, the replies, and the state at the end.
use Rattle.std.specs.Prelude.{◌≡◌, List, [], ◌∷◌, ◌++◌, ℕ, ◌+◌, ◌-◌, ◌*◌, ◌<◌, ◌≤◌, ltb, length}
use Rattle.numbers.specs.Choice.{pick}
use Rattle.slices.specs.Slices.{put}
use Rattle.runs.specs.declared.Outcome.{Outcome}
use Rattle.runs.specs.declared.Outcome.TheVariants.{Done, Over}
use Rattle.runs.specs.declared.Ran.{Ran}
use Rattle.runs.specs.Record.{Rec, cut, recs_of, kind_in}

-- what a record did: the state after it, the answer, and the reply
pub record Did (S : Type 0) : Type 0 where
  pub state : S
  pub answer : ℕ
  pub reply : List ℕ

-- an answer with no reply
abbrev pub silently : {S : Type 0} → S → ℕ → Did S
silently σ answer = record { state = σ; answer = answer; reply = [] }

-- what holds of each record's answer and reply: the answer is a byte, and the reply fits the room that is left
pub record Fits {S : Type 0} (did : S → ℕ → Rec → Did S) : Type 0 where
  pub answer : (σ : S) (room : ℕ) (r : Rec) → (did σ room r).answer < 256
  pub reply : (σ : S) (room : ℕ) (r : Rec) → length (did σ room r).reply ≤ room

-- what holds of whatever is run: besides, a record that is cut is answered 2, and changes nothing
pub record RunLaws {S : Type 0} (did : S → ℕ → Rec → Did S) : Type 0 where
  pub fits : Fits did
  pub cut_idle : (σ : S) (room : ℕ) → did σ room cut ≡ silently σ 2

pub record Line : Type 0 where
  pub kind : ℕ
  pub answer : ℕ
  pub reply : List ℕ

abbrev pub line_of : {S : Type 0} → Rec → Did S → Line
line_of r d = record { kind = kind_in r; answer = d.answer; reply = d.reply }

module _ {S : Type 0} (did : S → ℕ → Rec → Did S) where
  -- a line for each record, in order; each reply takes its bytes of the room
  abbrev pub lines_after : S → ℕ → List Rec → List Line
  lines_after σ room [] = []
  lines_after σ room (r ∷ rs) =
      line_of r (did σ room r) ∷ lines_after (did σ room r).state (room - length (did σ room r).reply) rs

  -- the state at the end
  abbrev pub end_after : S → ℕ → List Rec → S
  end_after σ room [] = σ
  end_after σ room (r ∷ rs) = end_after (did σ room r).state (room - length (did σ room r).reply) rs

-- each reply starts in the room where the last ended
abbrev pub replies_of : List Line → List ℕ
replies_of [] = []
replies_of (l ∷ ls) = l.reply ++ replies_of ls

-- ---- what the code gives back

-- a line as one number: kind, answer and the reply's length
abbrev pub code_of : ℕ → ℕ → ℕ → ℕ
code_of kind answer replied = kind + 65536 * answer + 16777216 * replied

abbrev pub codes_of : List Line → List ℕ
codes_of [] = []
codes_of (l ∷ ls) = code_of l.kind l.answer (length l.reply) ∷ codes_of ls

-- the answer number of a whole session: 1 where it is over 32,768 bytes
abbrev pub outcome_number : Outcome → ℕ
outcome_number Done = 0
outcome_number Over = 1

-- how a session of so many bytes ends. 1: session over 32,768 bytes; nothing is run
unfoldable pub outcome_of : ℕ → Outcome
outcome_of bytes = pick (ltb 32768 bytes) Over Done

-- what a run hands back: its outcome, the state at the end, how many lines there are, and how many bytes of reply
pub record Result (S : Type 0) : Type 0 where
  pub outcome : Outcome
  pub state : S
  pub lines : ℕ
  pub replied : ℕ

-- the same, as the code hands it back
abbrev pub result_of : {S : Type 0} → Ran S → Result S
result_of ran = record { outcome = ran.ended.outcome; state = ran.state; lines = ran.ended.lines; replied = ran.ended.replied }

-- a session that is not run, as the code hands it back
abbrev pub idle_of : {S : Type 0} → S → Outcome → Ran S
idle_of start outcome = record { state = start; ended = record { outcome = outcome; lines = 0; replied = 0 } }

-- nothing is run, and nothing written
pub record Idle {S : Type 0} (start : S) (o : Outcome) (room answers : List ℕ) (r : Result S) (after told : List ℕ) : Type 0 where
  pub number : outcome_number r.outcome ≡ outcome_number o
  pub result : r ≡ record { outcome = o; state = start; lines = 0; replied = 0 }
  pub replies : after ≡ room
  pub answered : told ≡ answers

module _ {S : Type 0} (did : S → ℕ → Rec → Did S) (start : S) where
  -- all of a session s is run
  pub record Running (s room answers : List ℕ) (r : Result S) (after told : List ℕ) : Type 0 where
    pub number : outcome_number r.outcome ≡ 0
    pub outcome : r.outcome ≡ Done
    pub state : r.state ≡ end_after did start (length room) (recs_of s)
    pub lines : r.lines ≡ length (lines_after did start (length room) (recs_of s))
    pub replied : r.replied ≡ length (replies_of (lines_after did start (length room) (recs_of s)))
    pub replies : after ≡ put room 0 (replies_of (lines_after did start (length room) (recs_of s)))
    pub answered : told ≡ put answers 0 (codes_of (lines_after did start (length room) (recs_of s)))

  abbrev pub RunsTo : Outcome → List ℕ → List ℕ → List ℕ → Result S → List ℕ → List ℕ → Type 0
  RunsTo Done s room answers r after told = Running s room answers r after told
  RunsTo Over s room answers r after told = Idle start Over room answers r after told

  -- a session is run, or nothing of it
  abbrev pub Runs : List ℕ → List ℕ → List ℕ → Result S → List ℕ → List ℕ → Type 0
  Runs s room answers r after told = RunsTo (outcome_of (length s)) s room answers r after told
