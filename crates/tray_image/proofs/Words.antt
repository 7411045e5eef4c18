-- SLOT, digit by digit.
use mathlib.Core.Path.{◌≡◌, refl, ◌∙◌}
use mathlib.Core.Bool.{Bool, true, false}
use mathlib.Core.List.{List, [], ◌∷◌}
use Prim.Native.Nat.{ℕ, ◌+◌, ◌-◌, ◌*◌, ◌≤◌, ◌<◌, min}
use native.Mathlib.Omega.{arith}
use native.Mathlib.Numerals.{add-one}
use borrow.Author.Tests.{leb-true, leb-false, lt-ltb, le-ltb}
use lib.Dec.{ltb, leb}
use lib.ListN.{length, get_or, drop}
use lib.Seq.{drop-cons}
use Rattle.std.specs.Prelude.{◌&&◌, Some, None}
use Rattle.std.specs.Char.{is_ascii_digit}
use Rattle.numbers.specs.Choice.{both}
use Rattle.tray_image.specs.TrayImage.{is_digit, all_digits, is_number, value_from, slot_of}

-- the library's digits are these
pub digit_same : (c : ℕ) → is_ascii_digit c ≡ is_digit c
unfolding is_digit
digit_same c = by (leb 48 c)
  where
    by : (b : Bool) → (b && leb c 57) ≡ both b (leb c 57)
    by true = refl
    by false = refl

-- a digit at the front goes, and what the others tell stays; a byte that is none tells all
pub digit_more : (l : List ℕ) (i : ℕ) → i < length l → is_digit (get_or l i 0) ≡ true → all_digits (drop (i + 1) l) ≡ all_digits (drop i l)
digit_more l i h e = rw (add-one, drop-cons l i 0, e)

pub no_digit : (l : List ℕ) (i : ℕ) → i < length l → is_digit (get_or l i 0) ≡ false → all_digits (drop i l) ≡ false
no_digit l i h e = rw (drop-cons l i 0, e)

-- bytes that are all digits are a number, but where there is none
pub number_told : (word : List ℕ) → all_digits word ≡ true → ltb 0 (length word) ≡ is_number word
unfolding is_number
number_told word e = rw e (by (ltb 0 (length word)))
  where
    by : (b : Bool) → b ≡ both b true
    by true = refl
    by false = refl

pub no_number : (word : List ℕ) → all_digits word ≡ false → false ≡ is_number word
unfolding is_number
no_number word e = rw e (by (ltb 0 (length word)))
  where
    by : (b : Bool) → false ≡ both b false
    by true = refl
    by false = refl

-- the number grows with what came before
value_grows : (l : List ℕ) (n : ℕ) → n ≤ value_from n l
value_grows [] n = omega arith
value_grows (c ∷ l) n = omega (arith, value_grows l (10 * n + (c - 48)))

-- so that a number that is above 8 already may be taken for 8
pub value_capped : (l : List ℕ) (n : ℕ) → min (value_from (min n 8) l) 8 ≡ min (value_from n l) 8
value_capped l n = by (leb n 8) refl
  where
    by : (b : Bool) → leb n 8 ≡ b → min (value_from (min n 8) l) 8 ≡ min (value_from n l) 8
    by true e = let same : min n 8 ≡ n = omega (arith, leb-true n 8 e) in rw same refl
    by false e = omega (arith, leb-false n 8 e, value_grows l n, value_grows l (min n 8))

pub value_more : (l : List ℕ) (i n : ℕ) → i < length l
    → min (value_from (min (10 * n + (get_or l i 0 - 48)) 8) (drop (i + 1) l)) 8 ≡ min (value_from n (drop i l)) 8
value_more l i n h = value_capped (drop (i + 1) l) (10 * n + (get_or l i 0 - 48)) ∙ rw (add-one, drop-cons l i 0)

-- ---- the slot of a number that was read up to 8

pub slot_told : (word : List ℕ) (n : ℕ) → n < 8 → min n 8 ≡ min (value_from 0 word) 8 → slot_of word ≡ Some n
unfolding slot_of
slot_told word n few told = let value : value_from 0 word ≡ n = omega arith in rw (value, lt-ltb n 8 few)

pub no_slot : (word : List ℕ) (n : ℕ) → 8 ≤ n → min n 8 ≡ min (value_from 0 word) 8 → slot_of word ≡ None
unfolding slot_of
no_slot word n many told = let over : 8 ≤ value_from 0 word = omega arith in rw (le-ltb (value_from 0 word) 8 over)
