-- What a program in C is handed back, and what the buffers that it lent hold then, whatever they held before and however long they were.
use Rattle.std.specs.Prelude.{◌≡◌, Bool, true, List, ℕ, eqb, leb, length}
use Rattle.numbers.specs.Choice.{pick, both}
use Rattle.slices.specs.Slices.{put}
use Rattle.gauge.specs.Image.{size_for}
use Rattle.runs.specs.Record.{Rec, rec_of}
use Rattle.runs.specs.Run.{Did}
use Rattle.runs.specs.declared.Session.{Session}
use Rattle.runs.specs.SessionRecord.{did_of}
use Rattle.session_run.specs.SessionRun.{empty_of, take_out_number, take_out_room}
use Rattle.tray_record.specs.declared.Tray.{Tray}
use Rattle.tray_record.specs.Tray.{empty_tray, pack_of, tray_did}
use Rattle.tray_run.specs.TrayRun.{slot_out_number, slot_out_room}
use Rattle.state_bytes.specs.State.{state_size, state_bytes, state_in, number_in, session_in}
use Rattle.state_bytes.specs.TrayState.{tray_state_size, tray_state_bytes, tray_state_in, tray_in}
use Rattle.library.specs.declared.LibraryResult.{LibraryResult}

-- the numbers that are the library's own: a room that is not that of a state; a record too short for its header
abbrev pub room_for_none : ℕ
room_for_none = 53

abbrev pub headless : ℕ
headless = 54

-- ---- what a caller keeps as bytes: how many, what they stand for, and what a record does in it

pub record KeptAs (S : Type 0) : Type 0 where
  pub size : ℕ
  -- before the first record
  pub first : S
  pub bytes_of : S → List ℕ
  -- 0, or the number of bytes that are no state
  pub number_of : List ℕ → ℕ
  pub held : List ℕ → S
  pub did : S → ℕ → Rec → Did S

abbrev pub kept_pack : KeptAs Session
kept_pack = record {
  size = state_size;
  first = empty_of;
  bytes_of = state_bytes;
  number_of = λ b. number_in (state_in b);
  held = λ b. session_in (state_in b);
  did = did_of;
}

abbrev pub kept_tray : KeptAs Tray
kept_tray = record {
  size = tray_state_size;
  first = empty_tray;
  bytes_of = tray_state_bytes;
  number_of = λ b. number_in (tray_state_in b);
  held = λ b. tray_in (tray_state_in b);
  did = tray_did;
}

module _ {S : Type 0} (k : KeptAs S) where
  -- ---- the state before the first record

  pub record Started (room : List ℕ) (answer : ℕ) (after : List ℕ) : Type 0 where
    pub answered : answer ≡ pick (eqb (length room) k.size) 0 room_for_none
    pub kept : after ≡ pick (eqb (length room) k.size) (k.bytes_of k.first) room

  -- ---- one record, in the state that the bytes stand for: its answer, its reply at the front of the room, and the bytes of the state after it;
  -- where nothing is run, every byte is as it was

  abbrev pub is_state : List ℕ → Bool
  is_state state = eqb (k.number_of state) 0

  module _ (state bytes room : List ℕ) where
    abbrev pub headed : Bool
    headed = leb 4 (length bytes)

    abbrev pub is_run : Bool
    is_run = both headed (is_state state)

    abbrev pub doing : Did S
    doing = k.did (k.held state) (length room) (rec_of bytes)

    pub record RecordDone (r : LibraryResult) (after last : List ℕ) : Type 0 where
      pub answered : r.answer ≡ pick headed (pick (is_state state) doing.answer (k.number_of state)) headless
      pub counted : r.count ≡ pick is_run (length doing.reply) 0
      pub kept : after ≡ pick is_run (k.bytes_of doing.state) state
      pub written : last ≡ pick is_run (put room 0 doing.reply) room
      -- the bytes that are left stand for the state after it, so that the next call takes them
      pub again : is_run ≡ true → (k.number_of after ≡ 0) × (k.held after ≡ doing.state)

  -- ---- the image that is taken out of the state that the bytes stand for, by the answer, the room and the size that it has then; the state itself is
  -- only read

  pub record ImageTaken (number : S → List ℕ → ℕ) (filled : S → List ℕ → List ℕ) (size : S → ℕ) (state room : List ℕ) (r : LibraryResult)
      (after : List ℕ) : Type 0 where
    pub answered : r.answer ≡ pick (is_state state) (number (k.held state) room) (k.number_of state)
    pub counted : r.count ≡ pick (both (is_state state) (eqb (number (k.held state) room) 0)) (size (k.held state)) 0
    pub written : after ≡ pick (is_state state) (filled (k.held state) room) room

-- of one pack: 5 before an image was accepted, and 9 for a room that is too small
abbrev pub PackImage : List ℕ → List ℕ → LibraryResult → List ℕ → Type 0
PackImage = ImageTaken kept_pack take_out_number take_out_room (λ σ. size_for σ.gauge)

-- of a slot: 5 where it has no pack
abbrev pub SlotImage : ℕ → List ℕ → List ℕ → LibraryResult → List ℕ → Type 0
SlotImage slot = ImageTaken kept_tray (λ τ. slot_out_number τ slot) (λ τ. slot_out_room τ slot) (λ τ. size_for (pack_of τ slot))
