-- What the program says: the text of the tray session on standard input.
use Rattle.std.specs.Prelude.{Bool, List, ℕ}
use Rattle.numbers.specs.Choice.{pick}
use Rattle.digits.specs.Ascii.{ascii}
use Rattle.tray_run.specs.TrayRun.{tray_lines}
use Rattle.text.specs.Text.{run_text}
use Rattle.streams.specs.Streams.{Speech, output, error, unread_text}

abbrev pub tray_name : List ℕ
tray_name = ascii "tray"

abbrev pub tray_text : List ℕ → List ℕ
tray_text s = run_text tray_lines s

-- what is said of standard input s, or where a read of it failed
abbrev pub tray_printed_of : Bool → List ℕ → Speech
tray_printed_of failed s = pick failed (error (unread_text tray_name)) (output (tray_text s))
