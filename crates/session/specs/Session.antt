-- What the program says: the text of the session on standard input.
use Rattle.std.specs.Prelude.{Bool, List, ℕ}
use Rattle.numbers.specs.Choice.{pick}
use Rattle.digits.specs.Ascii.{ascii}
use Rattle.session_run.specs.SessionRun.{session_of}
use Rattle.text.specs.Text.{run_text}
use Rattle.streams.specs.Streams.{Speech, output, error, unread_text}

abbrev pub session_name : List ℕ
session_name = ascii "session"

abbrev pub session_text : List ℕ → List ℕ
session_text s = run_text session_of s

-- what is said of standard input s, or where a read of it failed
abbrev pub session_printed_of : Bool → List ℕ → Speech
session_printed_of failed s = pick failed (error (unread_text session_name)) (output (session_text s))
