-- What follows of the definitions of what is wrong with a text: its number is that of the refusal, and the laws of the loop that looks for it.
use Rattle.std.specs.Prelude.{Option, Some, Ok, Err}
use Rattle.std.proofs.Common.{◌≡◌, ℕ, ◌+◌, ◌-◌, ◌≤◌, Bool, true, false, eqb, ltb, List, [], ◌∷◌, length, get_or, sym, refl, ap, ◌∙◌, arith}
use Rattle.numbers.specs.Choice.{pick}
use Rattle.slices.specs.Slices.{part}
use Rattle.digits.specs.Digits.{upper, hex_digits}
use Rattle.intel_hex.specs.declared.Fault.{Fault}
use Rattle.intel_hex.specs.declared.Fault.TheVariants as fault
use Rattle.intel_hex.specs.declared.Cause.TheVariants as cause
use Rattle.intel_hex.specs.declared.Flaw.{Flaw}
use Rattle.intel_hex.specs.declared.HexRefusal.TheVariants as why
use Rattle.intel_hex.specs.Line.{CheckedLine, good, colon, line_feed, digits_in, formed_of, sums_to_zero, expected_of, checked_line_of, fault_number}
use Rattle.intel_hex.specs.Export.{answer_number}
use Rattle.intel_hex.specs.Import.{after_line, lines_answer}
use Rattle.intel_hex.specs.Flaw.{carriage_return, pairs_cause, begun_cause, form_cause, cause_of, cause_number, flaw_by, flaw_from, FlawNumbers}

-- ---- the number of a cause

form_number : (l : List ℕ) → cause_number (form_cause l) ≡ 40
unfolding form_cause begun_cause pairs_cause
form_number l =
    by (eqb (get_or l 0 0) line_feed) (eqb (get_or l 0 0) colon) (eqb (get_or l (length l - 1) 0) line_feed) (ltb (length l) 12)
    (eqb (get_or l (length l - 2) 0) carriage_return) (hex_digits upper (digits_in l))
  where
    by : (empty begun ended short returned alone : Bool)
        → cause_number (pick empty cause.Empty
        (pick begun (pick ended (pick short cause.Pairs (pick returned cause.Return (pick alone cause.Pairs cause.Digits))) cause.Feed) cause.Colon)) ≡ 40
    by true b e s r a = refl
    by false false e s r a = refl
    by false true false s r a = refl
    by false true true true r a = refl
    by false true true false true a = refl
    by false true true false false true = refl
    by false true true false false false = refl

-- 0 where a line is good
abbrev checked_number : CheckedLine → ℕ
checked_number (Ok _) = 0
checked_number (Err fault) = fault_number fault

cause_number_lem : (l : List ℕ) (fault : Fault) → checked_line_of l ≡ Err fault → cause_number (cause_of l) ≡ fault_number fault
unfolding checked_line_of cause_of
cause_number_lem l f e = by (formed_of l) (sums_to_zero l) (expected_of l) (ap checked_number e)
  where
    by : (formed summed expected : Bool)
        → checked_number (pick formed (pick summed (pick expected good (Err fault.Record)) (Err fault.Checksum)) (Err fault.Form)) ≡ fault_number f
        → cause_number (pick formed (pick summed cause.Place cause.Sum) (form_cause l)) ≡ fault_number f
    by true true true h = absurd (above f h)
      where
        above : (g : Fault) → 0 ≡ fault_number g → ⊥
        above fault.Form z = omega (arith, z)
        above fault.Checksum z = omega (arith, z)
        above fault.Record z = omega (arith, z)
    by true true false h = h
    by true false x h = h
    by false x y h = form_number l ∙ h

-- there is a bad line, and its cause has the number of the fault
abbrev Numbered : Option Flaw → Fault → Type 0
Numbered found fault = (flaw : Flaw) × (found ≡ Some flaw) × (cause_number flaw.cause ≡ fault_number fault)

flaw_number : (number : ℕ) (fault : Fault) (ls : List (List ℕ)) → lines_answer ls ≡ Err (why.Line fault) → Numbered (flaw_from number ls) fault
flaw_number number fault [] e = let z : ◌≡◌ {A = ℕ} 0 1 = cc in absurd (omega arith)
flaw_number number fault (l ∷ ls) e = by (checked_line_of l) refl (flaw_number (number + 1) fault ls) e
  where
    by : (c : CheckedLine) → checked_line_of l ≡ c
        → (lines_answer ls ≡ Err (why.Line fault) → Numbered (flaw_from (number + 1) ls) fault)
        → after_line c (lines_answer ls) ≡ Err (why.Line fault) → Numbered (flaw_by c number l (flaw_from (number + 1) ls)) fault
    by (Ok _) is later so = later so
    by (Err f) is later so = (record { line = number; cause = cause_of l }, refl, cause_number_lem l f is ∙ ap answer_number so)

pub flaw_numbers : FlawNumbers
flaw_numbers ls fault e = flaw_number 1 fault ls e

-- what is between the first byte and the last, as the code takes it
pub digits_alone : (l : List ℕ) {told b : Bool} → 2 ≤ length l → told ≡ hex_digits upper (part (length l - 1 - 1) l 1) → told ≡ b
    → hex_digits upper (digits_in l) ≡ b
digits_alone l long is so =
    let back : length l - 2 ≡ length l - 1 - 1 = omega arith in
    ap (λ (k : ℕ). hex_digits upper (part k l 1)) back ∙ sym is ∙ so
