-- WHAT IS PRINTED MEANS WHAT THE PAPER SAYS: "number from 1, kind as four lower-case hex digits, answer, reply in lower-case hex without spaces or `-`. ..
-- answer 1 is one line numbered 0."
use Rattle.std.specs.Prelude.{◌≡◌, true, ◌≢◌, List, [], ◌∷◌, ◌++◌, ℕ, ◌+◌, ◌-◌, ◌*◌, ◌/◌, ◌%◌, ◌≤◌, ◌<◌, length, get_or, take}
use Rattle.digits.specs.Ascii.{ascii}
use Rattle.digits.specs.Digits.{lower, hex_text, hex_bytes, hex_digits, decimal_text}
use Rattle.runs.specs.Record.{recs_of}
use Rattle.runs.specs.Run.{lines_after, Result, outcome_of, Runs}
use Rattle.runs.specs.declared.Session.{Session}
use Rattle.runs.specs.SessionRecord.{did_of}
use Rattle.text.specs.Line.{kind_text, reply_text, line_text}
use Rattle.text.specs.Text.{header_text, over_text, text_of, most_of, report_of, Reporting}

-- the number that decimal digits stand for, behind those that were read
abbrev pub decimal_from : ℕ → List ℕ → ℕ
decimal_from n [] = n
decimal_from n (d ∷ ds) = decimal_from (10 * n + (d - 48)) ds

-- nothing but the digits 0 to 9
abbrev pub DecimalDigits : List ℕ → Type 0
DecimalDigits [] = Unit {0}
DecimalDigits (d ∷ ds) = (48 ≤ d) × (d ≤ 57) × DecimalDigits ds

-- a number below 65,536 as four hex digits, its upper byte first
pub record FourHex (n : ℕ) (text : List ℕ) : Type 0 where
  pub four : length text ≡ 4
  pub digits : hex_digits lower text ≡ true
  pub value : hex_bytes lower text ≡ n / 256 ∷ n % 256 ∷ []

-- the fields of a line in their order, with one space between, and its end
abbrev pub LineFields : Type 0
LineFields =
    (number kind answer : ℕ) (reply : List ℕ) → line_text number kind answer reply
    ≡ decimal_text number ++ (ascii " " ++ (kind_text kind answer ++ (ascii " " ++ (decimal_text answer ++ (ascii " " ++ (reply_text reply ++ ascii "\n"))))))

pub record TextMeans : Type 0 where
  -- a number of at most 20 digits is the one that its digits stand for; they are digits all, and the first of them is no 0, but of 0 itself
  pub decimal : (n : ℕ) → n < 100000000000000000000 → decimal_from 0 (decimal_text n) ≡ n
  pub decimal_digits : (n : ℕ) → DecimalDigits (decimal_text n)
  pub decimal_first : (n : ℕ) → 0 < n → n < 100000000000000000000 → 49 ≤ get_or (decimal_text n) 0 0
  pub decimal_zero : decimal_text 0 ≡ ascii "0"
  -- bytes are those that their hex digits stand for; they are lower-case digits all, two for each byte
  pub hex : (bytes : List ℕ) → ((i : ℕ) → get_or bytes i 0 < 256) → hex_bytes lower (hex_text lower bytes) ≡ bytes
  pub hex_digits_lem : (bytes : List ℕ) → ((i : ℕ) → get_or bytes i 0 < 256) → hex_digits lower (hex_text lower bytes) ≡ true
  pub hex_two : (bytes : List ℕ) → length (hex_text lower bytes) ≡ 2 * length bytes
  -- "number from 1, kind as four lower-case hex digits, answer, reply in lower-case hex without spaces or `-`"; "After answer 2 .. the kind is
  -- `----`"; "The reply of a refusal or of an empty reply is `-`"
  pub line : LineFields
  pub kind : (kind answer : ℕ) → kind < 65536 → answer ≢ 2 → FourHex kind (kind_text kind answer)
  pub kind_cut : (kind : ℕ) → kind_text kind 2 ≡ ascii "----"
  pub reply : (reply : List ℕ) → 0 < length reply → reply_text reply ≡ hex_text lower reply
  pub reply_none : reply_text [] ≡ ascii "-"
  -- the header, and the one line of a session that is over
  pub header : header_text ≡ ascii "record kind answer reply\n"
  pub over : over_text ≡ ascii "0 ---- 1 -\n"
  -- "The program lends 65,536 bytes of reply room.": what `report` writes of a run that is lent these, and 8,192 answers, is the text of the session's lines
  pub session : (start : Session) (s room answers : List ℕ) (r : Result Session) (after told before out : List ℕ) (count : ℕ)
      → ((i : ℕ) → get_or s i 0 < 256) → 8192 ≡ length answers → 65536 ≡ length room → Runs did_of start s room answers r after told
      → most_of 8192 65536 ≤ length before
      → Reporting (report_of r.outcome (take r.lines told) (take r.replied after) (length before)) before count out
      → Reporting (text_of (outcome_of (length s)) (lines_after did_of start 65536 (recs_of s))) before count out
