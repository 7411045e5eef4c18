-- A step by state bytes, of a session and of a tray.
use Rattle.std.specs.Prelude.{◌≡◌, Result, Ok, Err, Bool, List, ℕ, eqb, length}
use Rattle.numbers.specs.Choice.{pick}
use Rattle.slices.specs.Slices.{put}
use Rattle.runs.specs.declared.Session.{Session}
use Rattle.runs.specs.Record.{rec_of}
use Rattle.runs.specs.Run.{Did}
use Rattle.runs.specs.SessionRecord.{did_of}
use Rattle.tray_record.specs.declared.Tray.{Tray}
use Rattle.tray_record.specs.Tray.{tray_did}
use Rattle.state_bytes.specs.State.{state_bytes, state_in, number_in, session_in}
use Rattle.state_bytes.specs.TrayState.{tray_state_bytes, tray_state_in, tray_in}
use Rattle.state_bytes.specs.declared.StateRefusal.{StateRefusal}
use Rattle.state_bytes.specs.declared.Step.{Step}

abbrev pub StateStep : Type 0
StateStep = Result Step StateRefusal

-- what a step says of a record that was run
abbrev pub step_of : ℕ → ℕ → StateStep
step_of answer replied = Ok (record { answer = answer; replied = replied })

-- what a step says: its answer and how many bytes it replied, or why the bytes are no state
abbrev pub said_of : {S : Type 0} → Result S StateRefusal → Did S → StateStep
said_of (Ok σ) did = step_of did.answer (length did.reply)
said_of (Err r) did = Err r

-- ---- of a session

module _ (state bytes room : List ℕ) where
  abbrev pub held_in : Bool
  held_in = eqb (number_in (state_in state)) 0

  -- what the record does in the state that the bytes are
  abbrev pub did_in : Did Session
  did_in = did_of (session_in (state_in state)) (length room) (rec_of bytes)

  pub record StateStepped (r : StateStep) (after last : List ℕ) : Type 0 where
    pub said : r ≡ said_of (state_in state) did_in
    pub kept : after ≡ pick held_in (put state 0 (state_bytes did_in.state)) state
    pub written : last ≡ pick held_in (put room 0 did_in.reply) room
    -- the room can be stepped again: it follows, and is said for a caller that goes on
    pub again : number_in (state_in state) ≡ 0 → state_in after ≡ Ok did_in.state

-- ---- of a tray

module _ (state bytes room : List ℕ) where
  abbrev pub tray_held_in : Bool
  tray_held_in = eqb (number_in (tray_state_in state)) 0

  -- what the record does in the tray that the bytes are
  abbrev pub tray_did_in : Did Tray
  tray_did_in = tray_did (tray_in (tray_state_in state)) (length room) (rec_of bytes)

  pub record TrayStateStepped (r : StateStep) (after last : List ℕ) : Type 0 where
    pub said : r ≡ said_of (tray_state_in state) tray_did_in
    pub kept : after ≡ pick tray_held_in (put state 0 (tray_state_bytes tray_did_in.state)) state
    pub written : last ≡ pick tray_held_in (put room 0 tray_did_in.reply) room
    -- the room can be stepped again: it follows, and is said for a caller that goes on
    pub again : number_in (tray_state_in state) ≡ 0 → tray_state_in after ≡ Ok tray_did_in.state
