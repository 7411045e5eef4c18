-- DEMAND 1: no input can make it misbehave.
--
-- "No input can make it misbehave. Every session, however malformed, gets one numbered answer per record, as document 01 fixes it. A refused
-- record changes neither the gauge nor the reply room."
--
-- That a run ends, and reads and writes nothing but what it was lent, is proved with its contract, which asks nothing of a caller. The rest is
-- said here, of any bytes and of every run.
use Rattle.std.specs.Prelude.{◌≡◌, ◌⊎◌, List, [], ◌∷◌, ℕ, zero, suc, ◌+◌, ◌*◌, ◌≤◌, ◌<◌, leb, length}
use Rattle.numbers.specs.Choice.{pick}
use Rattle.runs.specs.declared.Outcome.TheVariants.{Over}
use Rattle.runs.specs.Record.{Rec}
use Rattle.runs.specs.Run.{Did, Line, outcome_number, Idle}
use Rattle.demands.specs.Call.{Call, Allowed, Within, lines_in, Told, Taking}

-- ---- "one numbered answer per record": how many records there are, and where the session stops, by the headers alone

-- a header tells a kind, or it is one of a record that is cut
pub data Header : Type 0 where
  kind : ℕ → Header
  cut : Header

-- the headers in bytes of which the first k belong to a payload: a payload length (2 bytes), a kind (2 bytes), then the payload. Cut: "1 to 3
-- bytes left where a header is due, or payload runs past the end; the session stops"
abbrev pub headers_from : ℕ → List ℕ → List Header
headers_from k [] = []
headers_from (suc k) (x ∷ s) = headers_from k s
headers_from zero (n ∷ []) = cut ∷ []
headers_from zero (n ∷ m ∷ []) = cut ∷ []
headers_from zero (n ∷ m ∷ i ∷ []) = cut ∷ []
headers_from zero (n ∷ m ∷ i ∷ j ∷ s) =
    pick (leb (n + 256 * m) (length s)) (kind (i + 256 * j) ∷ headers_from (n + 256 * m) s) (cut ∷ [])

abbrev pub headers_of : List ℕ → List Header
headers_of s = headers_from 0 s

-- "done", or one of 3 to the highest number, which is 11 of a session and 12 of a tray, after which "the next record is taken"
abbrev pub Numbered : ℕ → ℕ → Type 0
Numbered most answer = (answer ≡ 0) ⊎ ((3 ≤ answer) × (answer ≤ most))

abbrev pub session_most : ℕ
session_most = 11

abbrev pub tray_most : ℕ
tray_most = 12

-- one line for each header, in order. After 2 "the session stops"; 1 is the answer of no record; "an empty session has no answers"
pub data Answered (most : ℕ) : List Header → List Line → Type 0 where
  none : Answered most [] []
  stops : {l : Line} → l.answer ≡ 2 → Answered most (cut ∷ []) (l ∷ [])
  next : {k : ℕ} {l : Line} {hs : List Header} {ls : List Line} → l.kind ≡ k → Numbered most l.answer → Answered most hs ls
      → Answered most (kind k ∷ hs) (l ∷ ls)

-- ---- "changes neither the gauge nor the reply room": the state, what the room holds, and where in it the next reply starts

pub record Unchanged {S : Type 0} (a b : Call S) : Type 0 where
  pub state : b.ran.state ≡ a.ran.state
  pub room : b.replies ≡ a.replies
  pub next : b.ran.replied ≡ a.ran.replied

module _ (most : ℕ) {S : Type 0} (did : S → ℕ → Rec → Did S) (start : S) where
  -- room and answers hold these lines
  pub record Sound (c : Call S) : Type 0 where
    pub told : Told did start c
    pub count : c.ran.lines ≡ length (headers_of c.bytes)
    pub answered : Answered most (headers_of c.bytes) (lines_in did start c)

  -- ---- the demand

  pub record Demand1 : Type 0 where
    pub answers : (c : Call S) → Within did start c → Sound c
    pub refusals : (c : Call S) → Within did start c → (r : Rec) (l : Line) (a b : Call S) → Taking did start c r l a b → (l.answer ≡ 0 → ⊥)
        → Unchanged a b
    -- 1: "session over 32,768 bytes; nothing is run"
    pub over : (c : Call S) → Allowed did start c → 32768 < length c.bytes
        → (outcome_number c.ran.outcome ≡ 1) × Idle start Over c.room c.answers c.ran c.replies c.told
