-- A line of the text, as bytes: number, kind, answer and reply of a record.
use Rattle.std.specs.Prelude.{List, ◌++◌, ℕ, ◌/◌, ◌%◌, eqb, length}
use Rattle.numbers.specs.Choice.{pick}
use Rattle.digits.specs.Ascii.{ascii}
use Rattle.digits.specs.Digits.{lower, pair_text, hex_text, decimal_text}

-- ---- the fields

-- kind as four lower-case hex digits; after answer 2 it is ----
unfoldable pub kind_text : ℕ → ℕ → List ℕ
kind_text kind answer = pick (eqb answer 2) (ascii "----") (pair_text lower (kind / 256) ++ pair_text lower (kind % 256))

-- the reply in lower-case hex without spaces; of a refusal or of an empty reply it is -
unfoldable pub reply_text : List ℕ → List ℕ
reply_text reply = pick (eqb (length reply) 0) (ascii "-") (hex_text lower reply)

-- ---- the line

-- kind and answer, with one space before, between and behind them
abbrev pub fields_text : ℕ → ℕ → List ℕ
fields_text kind answer = ascii " " ++ (kind_text kind answer ++ (ascii " " ++ (decimal_text answer ++ ascii " ")))

-- number, kind and answer, with one space behind each
unfoldable pub start_text : ℕ → ℕ → ℕ → List ℕ
start_text number kind answer = decimal_text number ++ fields_text kind answer

-- the reply, and the end of the line
unfoldable pub end_text : List ℕ → List ℕ
end_text reply = reply_text reply ++ ascii "\n"

abbrev pub line_text : ℕ → ℕ → ℕ → List ℕ → List ℕ
line_text number kind answer reply = start_text number kind answer ++ end_text reply
