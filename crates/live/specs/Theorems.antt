-- What is proved of `live` and `resume`. `theorems` of proofs/Theorems.antt is one value of this record.
use Rattle.std.specs.Prelude.{◌≡◌, Ok, List, [], ◌∷◌, ◌++◌, ℕ}
use Rattle.runs.specs.declared.Session.{Session}
use Rattle.runs.specs.Record.{Rec}
use Rattle.runs.specs.Divided.{wholes_in}
use Rattle.streams.specs.declared.Said.{Said}
use Rattle.runs.specs.SessionRecord.{SessionWf, did_of}
use Rattle.session_run.specs.SessionRun.{empty_of}
use Rattle.state_bytes.specs.State.{state_bytes, state_in, number_in, session_in}
use Rattle.state_bytes.specs.Theorems.{StateWf}
use Rattle.text.specs.Live.{live_lines, live_end, Turning, ReadByRead, Resumed}
use Rattle.live.specs.Live.{held_of}

-- the session that the bytes of a run's end give back
abbrev pub resumed_from : Session → List Rec → Session
resumed_from σ rs = session_in (state_in (state_bytes (live_end did_of σ rs)))

-- The cut is by the bytes of STATE. The state that a run hands on is well-formed: the contract of `answered` says it (`kept`), and of its arrays and
-- cycles the definitions. `CutByTurns` has it from there.
pub record CutByBytes : Type 0 where
  -- the state before the first record is one to start from
  pub fresh : StateWf empty_of
  -- the bytes of the state at a cut are taken, give it back, and it is again one to go on from
  pub back : (σ : Session) (rs : List Rec) → StateWf σ → SessionWf (live_end did_of σ rs) →
      state_in (state_bytes (live_end did_of σ rs)) ≡ Ok (live_end did_of σ rs)
  pub on : (σ : Session) (rs : List Rec) → StateWf σ → SessionWf (live_end did_of σ rs) → StateWf (resumed_from σ rs)
  -- so what is resumed from them has the answers and replies of one run, and ends in its state
  pub lines : (σ : Session) (rs ts : List Rec) → StateWf σ → SessionWf (live_end did_of σ rs) →
      live_lines did_of σ (rs ++ ts) ≡ live_lines did_of σ rs ++ live_lines did_of (resumed_from σ rs) ts
  pub end : (σ : Session) (rs ts : List Rec) → StateWf σ → SessionWf (live_end did_of σ rs) → live_end did_of σ (rs ++ ts) ≡
      live_end did_of (resumed_from σ rs) ts

-- ---- And so the cut after any turns of the program needs no such premise: what its turns hand on is well-formed by their contract.

-- a turn: what a call of `answered` was given and lent, what it handed back, and what the buffers held then
pub record LiveTurn : Type 0 where
  pub first : ℕ
  pub bytes : List ℕ
  pub room : List ℕ
  pub answers : List ℕ
  pub out : List ℕ
  pub after : Session
  pub lines : ℕ
  pub used : ℕ
  pub said : Said
  pub replied : List ℕ
  pub told : List ℕ
  pub text : List ℕ

-- what the contract of `answered` says of it: `answered_turn` of proofs/Theorems.antt reads it off
pub record TurnDone (σ : Session) (t : LiveTurn) : Type 0 where
  pub turning : Turning did_of 1024 σ t.first t.bytes t.room t.answers t.out t.after t.lines t.used t.said t.replied t.told
      t.text
  pub kept : SessionWf t.after

-- turn after turn, each from the state that the one before it handed on
abbrev pub TurnsDone : Session → List LiveTurn → Type 0
TurnsDone σ [] = Unit {0}
TurnsDone σ (t ∷ ts) = TurnDone σ t × TurnsDone t.after ts

-- the state that the last one handed on, and the records of them all
abbrev pub handed_on : Session → List LiveTurn → Session
handed_on σ [] = σ
handed_on σ (t ∷ ts) = handed_on t.after ts

abbrev pub turns_records : List LiveTurn → List Rec
turns_records [] = []
turns_records (t ∷ ts) = wholes_in 1024 t.bytes ++ turns_records ts

-- the state that its bytes give back
abbrev pub kept_from : Session → Session
kept_from σ = session_in (state_in (state_bytes σ))

pub record CutByTurns : Type 0 where
  -- a start from no bytes, or from bytes that are taken, is from a well-formed state
  pub started : (file : List ℕ) → number_in (held_of file) ≡ 0 → StateWf (session_in (held_of file))
  -- turns from such a state hand on such a state, and it is the one behind their records
  pub good : (σ : Session) (ts : List LiveTurn) → StateWf σ → TurnsDone σ ts → StateWf (handed_on σ ts)
  pub stands : (σ : Session) (ts : List LiveTurn) → TurnsDone σ ts → handed_on σ ts ≡ live_end did_of σ (turns_records ts)
  -- its bytes are taken and give it back
  pub back : (σ : Session) (ts : List LiveTurn) → StateWf σ → TurnsDone σ ts →
      state_in (state_bytes (handed_on σ ts)) ≡ Ok (handed_on σ ts)
  -- so any records that are run from them on have the answers and replies of one run, and end in its state
  pub lines : (σ : Session) (ts : List LiveTurn) (rs : List Rec) → StateWf σ → TurnsDone σ ts →
      live_lines did_of σ (turns_records ts ++ rs)
      ≡ live_lines did_of σ (turns_records ts) ++ live_lines did_of (kept_from (handed_on σ ts)) rs
  pub end : (σ : Session) (ts : List LiveTurn) (rs : List Rec) → StateWf σ → TurnsDone σ ts →
      live_end did_of σ (turns_records ts ++ rs) ≡ live_end did_of (kept_from (handed_on σ ts)) rs

pub record LiveTheorems : Type 0 where
  -- however the input is divided into reads of at most four bytes for each record that a turn may answer, the lines are those of one run, and so is the
  -- state at the end
  pub divided : ReadByRead did_of
  -- for every list of records and every cut of it, what is resumed has the answers and replies of one run, and ends in its state
  pub cut : Resumed did_of
  pub by_bytes : CutByBytes
  pub by_turns : CutByTurns
