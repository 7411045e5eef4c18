-- What the program says of a text on standard input: the 48 bytes that it has, or why it is not taken.
use Rattle.std.specs.Prelude.{Option, Some, None, Ok, Err, Bool, List, ◌++◌, ℕ, ltb, length}
use Rattle.numbers.specs.Choice.{pick}
use Rattle.digits.specs.Ascii.{ascii}
use Rattle.digits.specs.Digits.{decimal_text}
use Rattle.streams.specs.Streams.{Speech, output, error, unread_text, refused_text}
use Rattle.intel_hex.specs.declared.Cause.{Cause}
use Rattle.intel_hex.specs.declared.Cause.TheVariants as cause
use Rattle.intel_hex.specs.declared.Flaw.{Flaw}
use Rattle.intel_hex.specs.declared.Gap.{Gap}
use Rattle.intel_hex.specs.declared.Gap.TheVariants as gap
use Rattle.intel_hex.specs.declared.HexRefusal.{HexRefusal}
use Rattle.intel_hex.specs.declared.HexRefusal.TheVariants.{Line, Whole, Image, Room}
use Rattle.intel_hex.specs.Export.{Answer, hex_refusal_number}
use Rattle.intel_hex.specs.Import.{text_lines, imported_of, import_answer}
use Rattle.intel_hex.specs.Flaw.{flaw_from, gap_of}

abbrev pub hex_in_name : List ℕ
hex_in_name = ascii "hex_in"

-- ---- what the refusals mean

-- why a line is bad
abbrev pub cause_words : Cause → List ℕ
cause_words cause.Empty = ascii " is empty"
cause_words cause.Colon = ascii " does not begin with a colon"
cause_words cause.Feed = ascii " has no line feed at its end"
cause_words cause.Return = ascii " ends with a carriage return: take them out, as by tr -d '\\r'"
cause_words cause.Digits = ascii " has a character that is no upper-case digit: if lower case, tr a-f A-F"
cause_words cause.Pairs = ascii " has not the pairs of digits that its count asks"
cause_words cause.Sum = ascii " has a wrong checksum"
cause_words cause.Place = ascii " is neither the end record nor 16 bytes at 0020h, 0060h or 0070h"

-- which line it is
abbrev pub flaw_words : Flaw → List ℕ
flaw_words flaw = ascii "line " ++ (decimal_text flaw.line ++ cause_words flaw.cause)

-- which record is not there once
abbrev pub gap_words : Gap → List ℕ
gap_words gap.Label = ascii "the record at 0020h is missing or repeated"
gap_words gap.Low = ascii "the record at 0060h is missing or repeated"
gap_words gap.High = ascii "the record at 0070h is missing or repeated"
gap_words gap.End = ascii "the end record is missing or repeated"
gap_words gap.Last = ascii "the end record is not last"

abbrev pub hex_in_room_words : List ℕ
hex_in_room_words = ascii "the room for the bytes is too small"

abbrev pub hex_in_other_words : List ℕ
hex_in_other_words = ascii "the text is refused"

-- the first bad line; a text that is refused for a line has one
abbrev pub first_words : Option Flaw → List ℕ
first_words (Some flaw) = flaw_words flaw
first_words None = hex_in_other_words

-- of a text by its lines; an import is never refused for an image
abbrev pub hex_in_refusal_words : HexRefusal → List (List ℕ) → List ℕ
hex_in_refusal_words (Line fault) ls = first_words (flaw_from 1 ls)
hex_in_refusal_words Whole ls = gap_words (gap_of ls)
hex_in_refusal_words Image ls = hex_in_other_words
hex_in_refusal_words Room ls = hex_in_room_words

-- ---- what is said

abbrev pub hex_in_over_text : List ℕ
hex_in_over_text = ascii "hex_in: the text is over 65536 bytes\n"

-- how many bytes of text are taken
abbrev pub most_text : ℕ
most_text = 65536

-- the room of the program, which holds the 48 bytes and every refusal
abbrev pub room_size : ℕ
room_size = 128

-- the bytes go to standard output, a refusal to standard error
abbrev pub hex_in_by : Answer → List (List ℕ) → Speech
hex_in_by (Ok _) ls = output (imported_of ls)
hex_in_by (Err why) ls = error (refused_text (hex_refusal_number why) (hex_in_refusal_words why ls))

unfoldable pub hex_in_speech : List ℕ → Speech
hex_in_speech text = pick (ltb most_text (length text)) (error hex_in_over_text) (hex_in_by (import_answer (text_lines text) room_size) (text_lines text))

-- what is said of standard input, or where a read of it failed
abbrev pub hex_in_of : Bool → List ℕ → Speech
hex_in_of failed text = pick failed (error (unread_text hex_in_name)) (hex_in_speech text)
