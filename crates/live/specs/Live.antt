-- What the program says: at its start, at the end of the input, and where an image is asked for.
use Rattle.std.specs.Prelude.{◌≡◌, Ok, Bool, List, ℕ, eqb, length}
use Rattle.numbers.specs.Choice.{pick}
use Rattle.digits.specs.Ascii.{ascii}
use Rattle.streams.specs.Streams.{Speech, output, error, unread_text, refused_text}
use Rattle.runs.specs.declared.Session.{Session}
use Rattle.session_run.specs.SessionRun.{empty_of}
use Rattle.state_bytes.specs.State.{StateIn, state_in}
use Rattle.text.specs.Text.{header_text, pack_speech}
use Rattle.text.specs.Live.{left_text}

-- what is lent for a turn: 256 bytes of reply room for each of 1,024 records, an answer for each, and 32 bytes of text and two for each byte of reply
pub record Lent (room told text : ℕ) : Type 0 where
  pub replies : room ≡ 262144
  pub answers : told ≡ 1024
  pub out : text ≡ 557056

-- the state in a file of such bytes; no bytes are a gauge before its first record
unfoldable pub held_of : List ℕ → StateIn
held_of kept = pick (eqb (length kept) 0) (Ok empty_of) (state_in kept)

-- why bytes are no state
unfoldable pub state_words : ℕ → List ℕ
state_words number =
    pick (eqb number 50) (ascii "STATE is not 172 bytes")
    (pick (eqb number 51) (ascii "STATE is of another version") (ascii "STATE is no state of a gauge"))

-- what is said first, by the number of the state
unfoldable pub start_speech : ℕ → Speech
start_speech number = pick (eqb number 0) (output header_text) (error (refused_text number (state_words number)))

-- what is said last, with so many bytes left; or where a read failed
unfoldable pub last_speech : List ℕ → Bool → ℕ → ℕ → Speech
last_speech program failed number left = pick failed (error (unread_text program)) (output (left_text number left))

abbrev pub unloaded_words : List ℕ
unloaded_words = ascii "no image was accepted"

-- the image at the end
abbrev pub at_end_speech : Session → Speech
at_end_speech session = pack_speech session.loaded session.gauge unloaded_words
