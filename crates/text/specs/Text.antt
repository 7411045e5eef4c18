-- What a program prints of a run: a header and a line per record, as bytes of text; and what it says where nothing is run.
use Rattle.std.specs.Prelude.{◌≡◌, Bool, List, [], ◌∷◌, ◌++◌, ℕ, ◌+◌, ◌-◌, ◌*◌, ◌/◌, ◌%◌, ◌≤◌, eqb, leb, ltb, length, take, drop}
use Rattle.numbers.specs.Choice.{pick, both, either}
use Rattle.slices.specs.Slices.{put}
use Rattle.digits.specs.Ascii.{ascii}
use Rattle.digits.specs.Digits.{decimal_text, width_of}
use Rattle.streams.specs.Streams.{Speech, output, error, refused_text}
use Rattle.text.specs.Line.{line_text, end_text}
use Rattle.record.specs.declared.Refusal.TheVariants.{Order}
use Rattle.record.specs.Record.{refusal_number}
use Rattle.gauge.specs.declared.Gauge.{Gauge}
use Rattle.gauge.specs.Image.{bytes_of}
use Rattle.runs.specs.declared.Ended.{Ended}
use Rattle.runs.specs.declared.Outcome.{Outcome}
use Rattle.runs.specs.declared.Outcome.TheVariants.{Done, Over}
use Rattle.runs.specs.Run.{Line, outcome_number, outcome_of}

-- ---- the lines

-- a line per record, numbered from a number on
abbrev pub lines_text : ℕ → List Line → List ℕ
lines_text number [] = []
lines_text number (l ∷ ls) = line_text number l.kind l.answer l.reply ++ lines_text (number + 1) ls

unfoldable pub header_text : List ℕ
header_text = ascii "record kind answer reply\n"

-- 0 ---- 1 -
unfoldable pub over_text : List ℕ
over_text = decimal_text 0 ++ (ascii " ---- " ++ (decimal_text (outcome_number Over) ++ (ascii " " ++ end_text [])))

-- the text of a session: records are numbered from 1; answer 1 is one line numbered 0
abbrev pub text_of : Outcome → List Line → List ℕ
text_of Done lines = header_text ++ lines_text 1 lines
text_of Over lines = header_text ++ over_text

-- the text of a session s, by the lines that it has with so much reply room: with 65,536 bytes of it
unfoldable pub run_text : (List ℕ → ℕ → List Line) → List ℕ → List ℕ
run_text lines s = text_of (outcome_of (length s)) (lines s 65536)

-- ---- the same of lines as `run` hands them back: each a number, and the replies one after the other

abbrev pub code_kind : ℕ → ℕ
code_kind code = code % 65536

abbrev pub code_answer : ℕ → ℕ
code_answer code = code / 65536 % 256

abbrev pub code_replied : ℕ → ℕ
code_replied code = code / 16777216

-- the digits of the longest number of so many lines, five or all 20
unfoldable pub last_width : ℕ → ℕ → ℕ
last_width first lines = width_of (first + lines - 1)

-- a line that asks for more reply than is left has what is left
abbrev pub codes_text : ℕ → List ℕ → List ℕ → List ℕ
codes_text number [] replies = []
codes_text number (c ∷ cs) replies =
    line_text number (code_kind c) (code_answer c) (take (code_replied c) replies)
    ++ codes_text (number + 1) cs (drop (code_replied c) replies)

abbrev pub coded_text : Outcome → List ℕ → List ℕ → List ℕ
coded_text Done codes replies = header_text ++ codes_text 1 codes replies
coded_text Over codes replies = header_text ++ over_text

-- ---- what the code promises

-- the most that lines take that are numbered from a number on, so many, with so many bytes of reply: a number's digits and 12 bytes for each line (4 of its
-- kind, 3 of its answer, 3 spaces, a dash and the end), and 2 for each byte of the replies
abbrev pub codes_most : ℕ → ℕ → ℕ → ℕ
codes_most first lines replied = (last_width first lines + 12) * lines + 2 * replied

-- the most that the text can take: the header and the line of answer 1, 17 bytes for each line (5 digits of its number, 4 of its kind, 3 of its answer,
-- 3 spaces, a dash and the end), and 2 for each byte of the replies
abbrev pub most_of : ℕ → ℕ → ℕ
most_of lines replied = 36 + 17 * lines + 2 * replied

-- so many lines, with so much reply, are numbered by five digits and fit the room
pub record Held (lines replied room : ℕ) : Type 0 where
  pub numbered : lines ≤ 99999
  pub fits : most_of lines replied ≤ room

-- whether they do
unfoldable pub fits_of : ℕ → ℕ → ℕ → Bool
fits_of lines replied room = both (leb lines 99999) (leb (most_of lines replied) room)

-- what is written: the whole text, or nothing
unfoldable pub report_of : Outcome → List ℕ → List ℕ → ℕ → List ℕ
report_of outcome codes replies room = pick (fits_of (length codes) (length replies) room) (coded_text outcome codes replies) []

-- and of a run, by how it ended: as many of the lent answers as it has lines, and as many bytes of the lent replies
abbrev pub ended_text : Ended → List ℕ → List ℕ → ℕ → List ℕ
ended_text ended answers replies room = report_of ended.outcome (take ended.lines answers) (take ended.replied replies) room

-- text stands at the front of the room, and is so many bytes. The last two fields follow, and are said for a caller that takes them out
pub record Reporting (text before : List ℕ) (count : ℕ) (after : List ℕ) : Type 0 where
  pub counted : count ≡ length text
  pub written : after ≡ put before 0 text
  pub within : count ≤ length after
  pub whole : count ≡ length (take count after)

-- ---- why a session is not run, in words

abbrev pub over_words : List ℕ
over_words = ascii "the session is over 32,768 bytes"

-- what is said of a session that was not run, on standard error: its answer number and what that means. Of one that was run nothing is said
abbrev pub unrun_speech : Outcome → Speech
unrun_speech Done = output []
unrun_speech Over = error (refused_text (outcome_number Over) over_words)

-- what a program says of a session that was run, or else why it was not
abbrev pub ran_speech : Outcome → Speech → Speech
ran_speech Done said = said
ran_speech Over said = unrun_speech Over

-- ---- the image taken out of a session, or of a slot of a tray

-- it goes to standard output; where there is none, 5 and what that means go to standard error
abbrev pub pack_speech : Bool → Gauge → List ℕ → Speech
pack_speech held gauge words = pick held (output (bytes_of gauge)) (error (refused_text (refusal_number Order) words))

-- ---- why no image was accepted

-- what the refusal of an image means, by its number
unfoldable pub image_meaning : ℕ → List ℕ
image_meaning answer =
    pick (eqb answer 4) (ascii "it is not 60 bytes (61 in kind 8)")
    (pick (eqb answer 5) (ascii "it comes after an event or after eight images")
    (pick (eqb answer 6) (ascii "its address has another family code or a wrong CRC")
    (pick (eqb answer 7) (ascii "its lock byte is above 3")
    (pick (eqb answer 10) (ascii "its breakpoints are crossed or above 40 degrees")
    (pick (eqb answer 12) (ascii "its address is there already") (ascii "it is refused"))))))

-- whether a line is of an image, kind 1 or 8, that was refused
unfoldable pub refused_image : ℕ → ℕ → Bool
refused_image kind answer = both (either (eqb kind 1) (eqb kind 8)) (ltb 0 answer)

-- such a line by its number, its answer and what that means
abbrev pub refused_image_text : ℕ → ℕ → List ℕ
refused_image_text number answer =
    ascii "; the first that was refused, record " ++ (decimal_text number ++ (ascii ", got " ++ (decimal_text answer ++ (ascii ": " ++ image_meaning answer))))

-- the first such line, of lines that are numbered from a number on; nothing where there is none
abbrev pub first_refused : ℕ → List Line → List ℕ
first_refused number [] = []
first_refused number (l ∷ ls) = pick (refused_image l.kind l.answer) (refused_image_text number l.answer) (first_refused (number + 1) ls)

-- the same of lines as `run` hands them back
abbrev pub first_coded : ℕ → List ℕ → List ℕ
first_coded number [] = []
first_coded number (c ∷ cs) = pick (refused_image (code_kind c) (code_answer c)) (refused_image_text number (code_answer c)) (first_coded (number + 1) cs)
