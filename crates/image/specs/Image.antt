-- What the program says of a session: the pack image taken out at its end, or why there is none.
use Rattle.std.specs.Prelude.{Bool, List, ◌++◌, ℕ, length}
use Rattle.numbers.specs.Choice.{pick}
use Rattle.digits.specs.Ascii.{ascii}
use Rattle.streams.specs.Streams.{Speech, error, unread_text}
use Rattle.runs.specs.declared.Session.{Session}
use Rattle.runs.specs.Record.{recs_of}
use Rattle.runs.specs.Run.{lines_after, end_after, outcome_of}
use Rattle.runs.specs.SessionRecord.{did_of}
use Rattle.session_run.specs.SessionRun.{empty_of}
use Rattle.text.specs.Text.{ran_speech, pack_speech, first_refused}

abbrev pub image_name : List ℕ
image_name = ascii "image"

-- ---- what the refusals mean

abbrev pub order_words : List ℕ
order_words = ascii "no image was accepted"

-- ---- what is said

-- the state at the end of a session, with 65,536 bytes of reply room
unfoldable pub session_at_end : List ℕ → Session
session_at_end s = end_after did_of empty_of 65536 (recs_of s)

-- the image goes to standard output, 5 where none was accepted to standard error, with the first image that was refused
abbrev pub image_speech : Session → List ℕ → Speech
image_speech session first = pack_speech session.loaded session.gauge (order_words ++ first)

-- and so does the refusal of a session that was not run, with an answer lent for each record that 32,768 bytes can hold
unfoldable pub session_image_speech : List ℕ → Speech
session_image_speech s = ran_speech (outcome_of (length s)) (image_speech (session_at_end s) (first_refused 1 (lines_after did_of empty_of 65536 (recs_of s))))

-- what is said of standard input s, or where a read of it failed
abbrev pub session_image_of : Bool → List ℕ → Speech
session_image_of failed s = pick failed (error (unread_text image_name)) (session_image_speech s)
