-- The loop of `put_codes`: where it stands after some lines, and how it comes there.
use mathlib.Core.Path.{◌≡◌, refl, sym, ap, ◌∙◌}
use mathlib.Core.Bool.{Bool, true, false}
use mathlib.Core.List.{List, [], ◌∷◌}
use Prim.Native.Nat.{ℕ, ◌+◌, ◌-◌, ◌*◌, ◌/◌, ◌≤◌, ◌<◌, min}
use native.Mathlib.Nat.{add-zero, mul-suc}
use native.Mathlib.Numerals.{add-one}
use native.Mathlib.Omega.{arith}
use lib.ListN.{length, get_or, take, drop, drop_of_length-le}
use lib.Seq.{drop-cons, drop-drop, length-take-le}
use borrow.Author.Tests.{ltb-true, ltb-false}
use lib.Dec.{ltb}
use Rattle.numbers.proofs.Bounds.{times, picked}
use Rattle.slices.specs.Slices.{part}
use Rattle.slices.proofs.Laws.{part_length, part_rest}
use Rattle.text.specs.Text.{code_kind, code_answer, code_replied, last_width, codes_most, codes_text}
use Rattle.digits.specs.declared.Page.{Page}
use Rattle.digits.specs.Digits.{decimal_text, width_of, Appends}
use Rattle.text.specs.Line.{line_text, fields_text, start_text, end_text}
use Rattle.digits.proofs.Laws.{none, then, wider, width_short, width_long, width_least}
use Rattle.text.proofs.Laws.{take_drop_min}

-- i lines are written, with so much of the replies: whatever is written behind them as the rest makes the whole. The lines are numbered from a number on,
-- and take at most so many bytes each, but for their replies
pub record Going (most first : ℕ) (codes replies : List ℕ) (before page : Page) (used i : ℕ) : Type 0 where
  pub within : i ≤ length codes
  pub served : used ≤ length replies
  pub sized : length page.room.now ≡ length before.room.now
  pub short : page.used ≤ before.used + (most * i + 2 * used)
  pub whole : (m : ℕ) (after : Page) → Appends m (codes_text (first + i) (drop i codes) (drop used replies)) page after
      → Appends (most * i + 2 * used + m) (codes_text first codes replies) before after

pub start : (most first : ℕ) (codes replies : List ℕ) (before : Page) → Going most first codes replies before before 0 0
start most first codes replies before = record {
  within = omega arith;
  served = omega arith;
  sized = refl;
  short = omega arith;
  whole = λ m after w. wider (rw (add-zero first) at w) (omega arith);
}

module _ {most first : ℕ} {codes replies : List ℕ} {before page : Page} {used i : ℕ} (g : Going most first codes replies before page used i) where
  abbrev rest : List ℕ
  rest = part (length replies - used) replies used

  rest_length : used + length rest ≡ length replies
  rest_length = omega (arith, g.served, part_length (length replies - used) replies used (omega (arith, g.served)))

  -- a line more
  line_more : most * (i + 1) ≡ most * i + most
  line_more = rw (add-one i) (mul-suc most i)

  -- what is left of the room holds a line more, with all that is left of the replies
  pub roomy : before.used + (most * length codes + 2 * length replies) ≤ length before.room.now → i < length codes
      → page.used + (most + 2 * length rest) ≤ length page.room.now
  roomy fits h = omega (arith, g.short, g.sized, rest_length, line_more, times most (i + 1) most (length codes) (omega arith) (omega arith))

  -- a part of what is left of the replies lies within them
  pub served_more : {count : ℕ} → count ≤ length rest → used + count ≤ length replies
  served_more h = omega (arith, rest_length)

  -- the line with the number first + i, with its part of the replies
  pub more : {digits count : ℕ} {mid low after : Page} → i < length codes → digits + 12 ≤ most
      → count ≡ min (code_replied (get_or codes i 0)) (length rest)
      → Appends digits (decimal_text (first + i)) page mid
      → Appends 10 (fields_text (code_kind (get_or codes i 0)) (code_answer (get_or codes i 0))) mid low
      → Appends (2 + 2 * length (take count rest)) (end_text (take count rest)) low after
      → Going most first codes replies before after (used + count) (i + 1)
  unfolding start_text
  more {count = count} {after = after} h few e w₁ w₂ w₃ =
      let asked = code_replied (get_or codes i 0) in
      let left = drop used replies in
      let w : Appends (most + 2 * length (take count left))
      (line_text (first + i) (code_kind (get_or codes i 0)) (code_answer (get_or codes i 0)) (take count left)) page after
      = wider (then (then w₁ w₂) (rw (part_rest replies used) at w₃)) (omega arith) in
      let n : count ≡ min asked (length left) = rw (part_rest replies used) at e in
      let size : length (take count left) ≡ count = length-take-le count left (omega arith) in
      let cut = take_drop_min asked left count n in
      let behind : drop asked left ≡ drop (used + count) replies = sym cut.1 ∙ drop-drop count used replies in
      let opened : drop i codes ≡ get_or codes i 0 ∷ drop (i + 1) codes = rw (add-one i) (drop-cons codes i 0 h) in
      let number : first + i + 1 ≡ first + (i + 1) = omega arith in
      record {
        within = omega arith;
        served = served_more (omega arith);
        sized = w.size ∙ g.sized;
        short = omega (arith, g.short, w.writing.within, size, line_more);
        whole = λ m a v.
            wider (g.whole (most + 2 * length (take count left) + m) a (rw (opened, ← cut.0, behind, number) (then w v)))
            (omega (arith, size, line_more));
      }

  -- the same without a reply, of a code that shows it
  pub more_bare : {digits : ℕ} {mid low after : Page} → i < length codes → digits + 12 ≤ most → get_or codes i 0 < 16777216
      → Appends digits (decimal_text (first + i)) page mid
      → Appends 10 (fields_text (code_kind (get_or codes i 0)) (get_or codes i 0 / 65536)) mid low
      → Appends 2 (end_text []) low after → Going most first codes replies before after used (i + 1)
  more_bare h few bare w₁ w₂ w₃ =
      let answer : get_or codes i 0 / 65536 ≡ code_answer (get_or codes i 0) = omega arith in
      rw (add-zero used) at (more {count = 0} h few (omega arith) w₁ (rw answer at w₂) (wider w₃ (omega arith)))

  pub more_done : {digits : ℕ} {mid low after : Page} → i < length codes → digits + 12 ≤ most → get_or codes i 0 < 256
      → Appends digits (decimal_text (first + i)) page mid
      → Appends 8 (fields_text (get_or codes i 0) 0) mid low → Appends 2 (end_text []) low after
      → Going most first codes replies before after used (i + 1)
  more_done h few below w₁ w₂ w₃ =
      let kind : code_kind (get_or codes i 0) ≡ get_or codes i 0 = omega (arith, below) in
      let answer : get_or codes i 0 / 65536 ≡ 0 = omega (arith, below) in
      more_bare h few (omega (arith, below)) w₁ (rw (kind, answer) (wider w₂ (omega arith))) w₃

  pub ended : length codes ≤ i → Appends (most * length codes + 2 * length replies) (codes_text first codes replies) before page
  ended h =
      let all : i ≡ length codes = omega (arith, g.within) in
      wider (g.whole 0 page (rw (drop_of_length-le codes h) (none page))) (omega (arith, g.served, ap (λ (k : ℕ). most * k) all))

-- ---- the digits of a number among the lines

-- those of the last number are the most
pub digits_few : (first lines i : ℕ) → i < lines → width_of (first + i) ≤ last_width first lines
unfolding last_width
digits_few first lines i h = by (ltb (first + i) 100000) refl
  where
    by : (b : Bool) → ltb (first + i) 100000 ≡ b → width_of (first + i) ≤ width_of (first + lines - 1)
    by true e = omega (arith, width_short (first + i) (ltb-true (first + i) 100000 e), width_least (first + lines - 1))
    by false e =
        let long : 100000 ≤ first + i = ltb-false (first + i) 100000 e in
        omega (arith, width_long (first + i) long, width_long (first + lines - 1) (omega arith))

width_most : (n : ℕ) → width_of n ≤ 20
unfolding width_of
width_most n = picked (λ (w : ℕ). w ≤ 20) (ltb n 100000) 5 20 (λ e. omega arith) (λ e. omega arith)

-- below 100,000 each line takes 17 bytes at most
pub most_short : (lines replied : ℕ) → lines ≤ 99999 → codes_most 1 lines replied ≡ 17 * lines + 2 * replied
unfolding last_width
most_short lines replied h = rw (width_short (1 + lines - 1) (omega arith)) refl

-- and else 32
pub most_long : (first lines replied : ℕ) → codes_most first lines replied ≤ 32 * lines + 2 * replied
unfolding last_width
most_long first lines replied =
    omega (arith, times (width_of (first + lines - 1) + 12) lines 32 lines (omega (arith, width_most (first + lines - 1))) (omega arith))
