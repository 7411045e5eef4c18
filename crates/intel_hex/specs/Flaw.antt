-- What is wrong with a text that is refused with 40 to 43: the first bad line and why it is bad, or which record is not there once. The paper asks for
-- the number alone; this is for the words beside it, and `FlawNumbers` says that the two agree.
use Rattle.std.specs.Prelude.{◌≡◌, Option, Some, None, Ok, Err, ℕ, ◌+◌, ◌-◌, List, [], ◌∷◌, length, ◌==◌, nat_lt, slice_index}
use Prim.Native.Char.{code}
use Rattle.numbers.specs.Choice.{pick}
use Rattle.digits.specs.Digits.{upper, hex_digits}
use Rattle.intel_hex.specs.declared.Fault.{Fault}
use Rattle.intel_hex.specs.declared.Cause.{Cause}
use Rattle.intel_hex.specs.declared.Cause.TheVariants as cause
use Rattle.intel_hex.specs.declared.Flaw.{Flaw}
use Rattle.intel_hex.specs.declared.Gap.{Gap}
use Rattle.intel_hex.specs.declared.Gap.TheVariants as gap
use Rattle.intel_hex.specs.declared.HexRefusal.TheVariants as why
use Rattle.intel_hex.specs.Line.{CheckedLine, colon, line_feed, digits_in, formed_of, sums_to_zero, checked_line_of, fault_number}
use Rattle.intel_hex.specs.Import.{lines_answer, once_of}

-- ---- why a line is bad

abbrev pub carriage_return : ℕ
carriage_return = code "\r"

-- of a line with a colon, a line feed and ten characters between them: a carriage return before the line feed, other characters than upper-case digits,
-- or another number of pairs than its count asks
unfoldable pub pairs_cause : List ℕ → Cause
pairs_cause l =
    pick (slice_index l (length l - 2) == carriage_return) cause.Return
    (pick (hex_digits upper (digits_in l)) cause.Pairs cause.Digits)

-- of a line with a colon: no line feed, or too short for a record
unfoldable pub begun_cause : List ℕ → Cause
begun_cause l =
    pick (slice_index l (length l - 1) == line_feed) (pick (nat_lt (length l) 12) cause.Pairs (pairs_cause l)) cause.Feed

-- an empty line, one that does not begin with a colon, or one of these
unfoldable pub form_cause : List ℕ → Cause
form_cause l = pick (slice_index l 0 == line_feed) cause.Empty (pick (slice_index l 0 == colon) (begun_cause l) cause.Colon)

-- in the order of 40 to 42
unfoldable pub cause_of : List ℕ → Cause
cause_of l = pick (formed_of l) (pick (sums_to_zero l) cause.Place cause.Sum) (form_cause l)

abbrev pub cause_number : Cause → ℕ
cause_number cause.Empty = 40
cause_number cause.Colon = 40
cause_number cause.Feed = 40
cause_number cause.Return = 40
cause_number cause.Digits = 40
cause_number cause.Pairs = 40
cause_number cause.Sum = 41
cause_number cause.Place = 42

-- ---- the first bad line, of lines that are numbered from a number on

abbrev pub flaw_by : CheckedLine → ℕ → List ℕ → Option Flaw → Option Flaw
flaw_by (Ok _) number l rest = rest
flaw_by (Err fault) number l rest = Some (record { line = number; cause = cause_of l })

abbrev pub flaw_from : ℕ → List (List ℕ) → Option Flaw
flaw_from number [] = None
flaw_from number (l ∷ ls) = flaw_by (checked_line_of l) number l (flaw_from (number + 1) ls)

-- a text that is refused for a line has a bad line, and is refused with the number of its cause
abbrev pub FlawNumbers : Type 0
FlawNumbers =
    (ls : List (List ℕ)) (fault : Fault) → lines_answer ls ≡ Err (why.Line fault)
    → (flaw : Flaw) × (flaw_from 1 ls ≡ Some flaw) × (cause_number flaw.cause ≡ fault_number fault)

-- ---- which record is not there once, or that the end record is not last

unfoldable pub gap_of : List (List ℕ) → Gap
gap_of ls =
    pick (once_of 0x20 ls) (pick (once_of 0x60 ls) (pick (once_of 0x70 ls) (pick (once_of 0 ls) gap.Last gap.End) gap.High) gap.Low) gap.Label
