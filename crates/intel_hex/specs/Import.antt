-- "Import reads just this layout, record order free, and gives back the 48 bytes of every export."
use Rattle.std.specs.Prelude.{◌≡◌, Ok, Err, ℕ, ◌+◌, ◌<◌, ◌≤◌, Bool, List, [], ◌∷◌, ◌++◌, length, take, drop, ◌==◌, nat_lt}
use Rattle.numbers.specs.Choice.{pick, both}
use Rattle.intel_hex.specs.declared.TextLines.{TextLines}
use Rattle.intel_hex.specs.Line.{CheckedLine, line_feed, address_in, data_in, checked_line_of}
use Rattle.intel_hex.specs.declared.HexRefusal.TheVariants as why
use Rattle.intel_hex.specs.Export.{Answer, done, answer_number}

-- ---- the lines of a text: each goes up to its line feed, and the last one to the end where it has none

-- a byte in front of the first line
abbrev pub ahead_of_lines : ℕ → List (List ℕ) → List (List ℕ)
ahead_of_lines c [] = (c ∷ []) ∷ []
ahead_of_lines c (l ∷ ls) = (c ∷ l) ∷ ls

abbrev pub text_lines : List ℕ → List (List ℕ)
text_lines [] = []
text_lines (c ∷ cs) = pick (c == line_feed) ((c ∷ []) ∷ text_lines cs) (ahead_of_lines c (text_lines cs))

-- the first line of a text goes up to an index
pub record Cut (text : List ℕ) (end : ℕ) : Type 0 where
  pub onward : 0 < end
  pub within : end ≤ length text
  pub lines : text_lines text ≡ take end text ∷ text_lines (drop end text)

-- the lines that the iterator has left
abbrev pub lines_left : TextLines → List (List ℕ)
lines_left it = text_lines it.rest.now

-- ---- "40 to 42 in that order at the first bad line, 43 only if no line is bad"

abbrev pub after_line : CheckedLine → Answer → Answer
after_line (Ok _) rest = rest
after_line (Err fault) rest = Err (why.Line fault)

abbrev pub lines_answer : List (List ℕ) → Answer
lines_answer [] = done
lines_answer (l ∷ ls) = after_line (checked_line_of l) (lines_answer ls)

-- ---- "43 bytes missing or repeated, or an end record missing or not last". A good line at 0000h is the end record

abbrev pub count_of : ℕ → List (List ℕ) → ℕ
count_of address [] = 0
count_of address (l ∷ ls) = pick (address_in l == address) 1 0 + count_of address ls

abbrev pub once_of : ℕ → List (List ℕ) → Bool
once_of address ls = count_of address ls == 1

-- the address of the last line, or another where there is none
abbrev pub last_address : ℕ → List (List ℕ) → ℕ
last_address address [] = address
last_address address (l ∷ ls) = last_address (address_in l) ls

unfoldable pub whole_text : List (List ℕ) → Bool
whole_text ls =
    both (both (once_of 0x20 ls) (both (once_of 0x60 ls) (once_of 0x70 ls)))
    (both (once_of 0 ls) (last_address 1 ls == 0))

-- ---- the 48 bytes

-- the data of the line at an address
abbrev pub data_at : ℕ → List (List ℕ) → List ℕ
data_at address [] = []
data_at address (l ∷ ls) = pick (address_in l == address) (data_in l) (data_at address ls)

abbrev pub imported_of : List (List ℕ) → List ℕ
imported_of ls = data_at 0x20 ls ++ (data_at 0x60 ls ++ data_at 0x70 ls)

abbrev pub import_size : ℕ
import_size = 48

-- ---- "45 .. (import: under 48, after 40 to 43)". "Nothing is written on a refusal"

abbrev pub after_lines : Answer → Answer → Answer
after_lines (Ok _) rest = rest
after_lines (Err w) rest = Err w

unfoldable pub import_answer : List (List ℕ) → ℕ → Answer
import_answer ls room =
    after_lines (lines_answer ls) (pick (whole_text ls) (pick (nat_lt room import_size) (Err why.Room) done) (Err why.Whole))

abbrev pub import_room : Answer → List (List ℕ) → List ℕ → List ℕ
import_room (Ok _) ls room = imported_of ls ++ drop import_size room
import_room (Err w) ls room = room

pub record Importing (text room : List ℕ) (said : Answer) (after : List ℕ) : Type 0 where
  pub number : answer_number said ≡ answer_number (import_answer (text_lines text) (length room))
  pub answer : said ≡ import_answer (text_lines text) (length room)
  pub written : after ≡ import_room (import_answer (text_lines text) (length room)) (text_lines text) room
