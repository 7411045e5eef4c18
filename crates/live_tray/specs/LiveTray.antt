-- What the program says: at its start, at the end of the input, and where an image is asked for.
use Rattle.std.specs.Prelude.{◌≡◌, Option, Some, None, Ok, Bool, List, ℕ, ◌-◌, eqb, leb, length, get_or}
use Rattle.numbers.specs.Choice.{pick, both}
use Rattle.digits.specs.Ascii.{ascii}
use Rattle.streams.specs.Streams.{Speech, output, error, unread_text, refused_text}
use Rattle.tray_record.specs.declared.Tray.{Tray}
use Rattle.tray_record.specs.Tray.{empty_tray}
use Rattle.tray_run.specs.TrayRun.{named_held, named_pack}
use Rattle.state_bytes.specs.TrayState.{TrayStateIn, tray_state_in}
use Rattle.text.specs.Text.{header_text, pack_speech}
use Rattle.text.specs.Live.{left_text}

-- what is lent for a turn: 256 bytes of reply room for each of 1,024 records, an answer for each, and 32 bytes of text and two for each byte of reply
pub record TrayLent (room told text : ℕ) : Type 0 where
  pub replies : room ≡ 262144
  pub answers : told ≡ 1024
  pub out : text ≡ 557056

-- the state in a file of such bytes; no bytes are a tray before its first record
unfoldable pub tray_held_of : List ℕ → TrayStateIn
tray_held_of kept = pick (eqb (length kept) 0) (Ok empty_tray) (tray_state_in kept)

-- why bytes are no state
unfoldable pub tray_state_words : ℕ → List ℕ
tray_state_words number =
    pick (eqb number 50) (ascii "STATE is not 1363 bytes")
    (pick (eqb number 51) (ascii "STATE is of another version") (ascii "STATE is no state of a tray"))

-- what is said first, by the number of the state
unfoldable pub tray_start_speech : ℕ → Speech
tray_start_speech number = pick (eqb number 0) (output header_text) (error (refused_text number (tray_state_words number)))

-- what is said last, with so many bytes left; or where a read failed
unfoldable pub tray_end_speech : List ℕ → Bool → ℕ → ℕ → Speech
tray_end_speech program failed number left = pick failed (error (unread_text program)) (output (left_text number left))

-- the slot that a word names: one digit, 0 to 7; any other word names none
unfoldable pub slot_named : List ℕ → Option ℕ
slot_named word =
    pick (eqb (length word) 1) (pick (both (leb 48 (get_or word 0 0)) (leb (get_or word 0 0) 55)) (Some (get_or word 0 0 - 48)) None) None

abbrev pub empty_slot_words : List ℕ
empty_slot_words = ascii "no image was accepted for this slot"

-- the image of a slot at the end
abbrev pub slot_at_end_speech : Tray → Option ℕ → Speech
slot_at_end_speech tray slot = pack_speech (named_held slot tray) (named_pack slot tray) empty_slot_words
