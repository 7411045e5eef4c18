-- What is proved of `live_tray` and `resume_tray`. `theorems` of proofs/Theorems.antt is one value of this record.
use Rattle.std.specs.Prelude.{◌≡◌, Ok, List, [], ◌∷◌, ◌++◌, ℕ}
use Rattle.runs.specs.Record.{Rec}
use Rattle.runs.specs.Divided.{wholes_in}
use Rattle.streams.specs.declared.Said.{Said}
use Rattle.tray_record.specs.declared.Tray.{Tray}
use Rattle.tray_record.specs.Tray.{TrayWf, empty_tray, tray_did}
use Rattle.state_bytes.specs.State.{number_in}
use Rattle.state_bytes.specs.TrayState.{tray_state_bytes, tray_state_in, tray_in}
use Rattle.state_bytes.specs.Theorems.{TrayStateWf}
use Rattle.text.specs.Live.{live_lines, live_end, Turning, ReadByRead, Resumed}
use Rattle.live_tray.specs.LiveTray.{tray_held_of}

-- the tray that the bytes of a run's end give back
abbrev pub tray_resumed_from : Tray → List Rec → Tray
tray_resumed_from τ rs = tray_in (tray_state_in (tray_state_bytes (live_end tray_did τ rs)))

-- The cut is by the bytes of STATE. The tray that a run hands on is well-formed: the contract of `answered` says it (`kept`), and of its arrays and
-- cycles the definitions. `TrayCutByTurns` has it from there.
pub record TrayCutByBytes : Type 0 where
  -- the tray before the first record is one to start from
  pub fresh : TrayStateWf empty_tray
  -- the bytes of the tray at a cut are taken, give it back, and it is again one to go on from
  pub back : (τ : Tray) (rs : List Rec) → TrayStateWf τ → TrayWf (live_end tray_did τ rs) →
      tray_state_in (tray_state_bytes (live_end tray_did τ rs)) ≡ Ok (live_end tray_did τ rs)
  pub on : (τ : Tray) (rs : List Rec) → TrayStateWf τ → TrayWf (live_end tray_did τ rs) → TrayStateWf (tray_resumed_from τ rs)
  -- so what is resumed from them has the answers and replies of one run, and ends in its tray
  pub lines : (τ : Tray) (rs ts : List Rec) → TrayStateWf τ → TrayWf (live_end tray_did τ rs) →
      live_lines tray_did τ (rs ++ ts) ≡ live_lines tray_did τ rs ++ live_lines tray_did (tray_resumed_from τ rs) ts
  pub end : (τ : Tray) (rs ts : List Rec) → TrayStateWf τ → TrayWf (live_end tray_did τ rs) →
      live_end tray_did τ (rs ++ ts) ≡ live_end tray_did (tray_resumed_from τ rs) ts

-- ---- And so the cut after any turns of the program needs no such premise: what its turns hand on is well-formed by their contract.

-- a turn: what a call of `answered` was given and lent, what it handed back, and what the buffers held then
pub record TrayTurn : Type 0 where
  pub first : ℕ
  pub bytes : List ℕ
  pub room : List ℕ
  pub answers : List ℕ
  pub out : List ℕ
  pub after : Tray
  pub lines : ℕ
  pub used : ℕ
  pub said : Said
  pub replied : List ℕ
  pub told : List ℕ
  pub text : List ℕ

-- what the contract of `answered` says of it: `answered_turn` of proofs/Theorems.antt reads it off
pub record TrayTurnDone (τ : Tray) (t : TrayTurn) : Type 0 where
  pub turning : Turning tray_did 1024 τ t.first t.bytes t.room t.answers t.out t.after t.lines t.used t.said t.replied t.told
      t.text
  pub kept : TrayWf t.after

-- turn after turn, each from the tray that the one before it handed on
abbrev pub TrayTurnsDone : Tray → List TrayTurn → Type 0
TrayTurnsDone τ [] = Unit {0}
TrayTurnsDone τ (t ∷ ts) = TrayTurnDone τ t × TrayTurnsDone t.after ts

-- the tray that the last one handed on, and the records of them all
abbrev pub tray_handed_on : Tray → List TrayTurn → Tray
tray_handed_on τ [] = τ
tray_handed_on τ (t ∷ ts) = tray_handed_on t.after ts

abbrev pub tray_turns_records : List TrayTurn → List Rec
tray_turns_records [] = []
tray_turns_records (t ∷ ts) = wholes_in 1024 t.bytes ++ tray_turns_records ts

-- the tray that its bytes give back
abbrev pub tray_kept_from : Tray → Tray
tray_kept_from τ = tray_in (tray_state_in (tray_state_bytes τ))

pub record TrayCutByTurns : Type 0 where
  -- a start from no bytes, or from bytes that are taken, is from a well-formed tray
  pub started : (file : List ℕ) → number_in (tray_held_of file) ≡ 0 → TrayStateWf (tray_in (tray_held_of file))
  -- turns from such a tray hand on such a tray, and it is the one behind their records
  pub good : (τ : Tray) (ts : List TrayTurn) → TrayStateWf τ → TrayTurnsDone τ ts → TrayStateWf (tray_handed_on τ ts)
  pub stands : (τ : Tray) (ts : List TrayTurn) → TrayTurnsDone τ ts → tray_handed_on τ ts ≡ live_end tray_did τ (tray_turns_records ts)
  -- its bytes are taken and give it back
  pub back : (τ : Tray) (ts : List TrayTurn) → TrayStateWf τ → TrayTurnsDone τ ts →
      tray_state_in (tray_state_bytes (tray_handed_on τ ts)) ≡ Ok (tray_handed_on τ ts)
  -- so any records that are run from them on have the answers and replies of one run, and end in its tray
  pub lines : (τ : Tray) (ts : List TrayTurn) (rs : List Rec) → TrayStateWf τ → TrayTurnsDone τ ts →
      live_lines tray_did τ (tray_turns_records ts ++ rs)
      ≡ live_lines tray_did τ (tray_turns_records ts) ++ live_lines tray_did (tray_kept_from (tray_handed_on τ ts)) rs
  pub end : (τ : Tray) (ts : List TrayTurn) (rs : List Rec) → TrayStateWf τ → TrayTurnsDone τ ts →
      live_end tray_did τ (tray_turns_records ts ++ rs) ≡ live_end tray_did (tray_kept_from (tray_handed_on τ ts)) rs

pub record LiveTrayTheorems : Type 0 where
  -- however the input is divided into reads of at most four bytes for each record that a turn may answer, the lines are those of one run, and so is the
  -- state at the end
  pub divided : ReadByRead tray_did
  -- for every list of records and every cut of it, what is resumed has the answers and replies of one run, and ends in its state
  pub cut : Resumed tray_did
  pub by_bytes : TrayCutByBytes
  pub by_turns : TrayCutByTurns
