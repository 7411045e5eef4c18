-- What is printed means what the paper says, proved.
use mathlib.Core.Path.{◌≡◌, refl, ap, ◌∙◌}
use mathlib.Core.Logic.{◌≢◌}
use mathlib.Core.List.{List, [], ◌∷◌, ◌++◌}
use Prim.Native.Nat.{ℕ, zero, suc, ◌+◌, ◌-◌, ◌*◌, ◌/◌, ◌%◌, ◌≤◌, ◌<◌}
use native.Mathlib.Omega.{arith}
use borrow.Author.Tests.{ne_eqb, ltb-true, ltb-false}
use lib.Dec.{ltb}
use lib.ListN.{length, get_or}
use Rattle.numbers.proofs.Bounds.{picked}
use Rattle.digits.specs.Ascii.{ascii}
use Rattle.digits.specs.Digits.{lower, hex_text, hex_bytes, hex_digits, digit_of, shown_text, place_text, places_of, short_text, fives_text, decimal_text}
use Rattle.digits.proofs.Meaning.{value_from, decimal_value}
use Rattle.digits.proofs.Read.{Bytes, hex_length, bytes_back, digits_written}
use Rattle.runs.specs.SessionRecord.{did_of}
use Rattle.runs.proofs.AnyRecord.{did_fits}
use Rattle.text.specs.Line.{kind_text, reply_text, start_text, end_text}
use Rattle.text.specs.Text.{header_text, over_text}
use Rattle.text.specs.Meaning.{decimal_from, DecimalDigits, FourHex, LineFields, TextMeans}
use Rattle.text.proofs.Printed.{session_text_lem}

same_value : (n : ℕ) (ds : List ℕ) → decimal_from n ds ≡ value_from n ds
same_value n [] = refl
same_value n (d ∷ ds) = same_value (10 * n + (d - 48)) ds

-- two bytes
pair_bytes : (a b : ℕ) → a < 256 → b < 256 → Bytes (a ∷ b ∷ [])
pair_bytes a b h k zero = h
pair_bytes a b h k (suc zero) = k
pair_bytes a b h k (suc (suc i)) = omega arith

-- ---- decimal digits, and none but those

digit_of_lem : (n : ℕ) → (48 ≤ digit_of n) × (digit_of n ≤ 57)
digit_of_lem n = (omega arith, omega arith)

digits_append : (xs ys : List ℕ) → DecimalDigits xs → DecimalDigits ys → DecimalDigits (xs ++ ys)
digits_append [] ys h k = k
digits_append (x ∷ xs) ys h k = (h.0, h.1, digits_append xs ys h.2 k)

one_digit : (n : ℕ) → DecimalDigits (digit_of n ∷ [])
one_digit n = ((digit_of_lem n).0, (digit_of_lem n).1, tt)

place_digits : (place n : ℕ) → DecimalDigits (place_text place n)
unfolding shown_text
place_digits place n = picked DecimalDigits (ltb n place) [] (digit_of (n / place) ∷ []) (λ e. tt) (λ e. one_digit (n / place))

short_digits : (n : ℕ) → DecimalDigits (short_text n)
unfolding short_text
short_digits n =
    digits_append (place_text 10000 n) _ (place_digits 10000 n)
    (digits_append (place_text 1000 n) _ (place_digits 1000 n)
    (digits_append (place_text 100 n) _ (place_digits 100 n)
    (digits_append (place_text 10 n) _ (place_digits 10 n) (one_digit n))))

places_digits : (n : ℕ) → DecimalDigits (places_of n)
places_digits n =
    let five = digit_of_lem (n / 10000) in
    let four = digit_of_lem (n / 1000) in
    let three = digit_of_lem (n / 100) in
    let two = digit_of_lem (n / 10) in
    (five.0, five.1, (four.0, four.1, (three.0, three.1, (two.0, two.1, one_digit n))))

fives_digits : (k n : ℕ) → DecimalDigits (fives_text k n)
fives_digits zero n = short_digits n
fives_digits (suc k) n =
    picked DecimalDigits (ltb n 100000) _ _ (λ e. short_digits n)
    (λ e. digits_append (fives_text k (n / 100000)) (places_of n) (fives_digits k (n / 100000)) (places_digits n))

all_digits_lem : (n : ℕ) → DecimalDigits (decimal_text n)
unfolding decimal_text
all_digits_lem n = fives_digits 3 n

-- ---- the first of them

first_shown : (place n : ℕ) (rest : List ℕ) → (n < place → 49 ≤ get_or rest 0 0) → (place ≤ n → 49 ≤ digit_of (n / place))
    → 49 ≤ get_or (place_text place n ++ rest) 0 0
unfolding shown_text
first_shown place n rest low high =
    picked (λ (s : List ℕ). 49 ≤ get_or (s ++ rest) 0 0) (ltb n place) [] (digit_of (n / place) ∷ [])
    (λ e. low (ltb-true n place e)) (λ e. high (ltb-false n place e))

short_first : (n : ℕ) → 0 < n → n < 100000 → 49 ≤ get_or (short_text n) 0 0
unfolding short_text
short_first n some few =
    first_shown 10000 n _
    (λ a. first_shown 1000 n _
    (λ b. first_shown 100 n _
    (λ c. first_shown 10 n _ (λ d. omega arith) (λ d. omega arith))
    (λ c. omega arith))
    (λ b. omega arith))
    (λ a. omega arith)

first_append : (xs ys : List ℕ) → 49 ≤ get_or xs 0 0 → 49 ≤ get_or (xs ++ ys) 0 0
first_append [] ys h = absurd (omega (arith, h))
first_append (x ∷ xs) ys h = h

-- how far so many times five digits more reach
abbrev reach : ℕ → ℕ
reach zero = 100000
reach (suc k) = 100000 * reach k

fives_first : (k n : ℕ) → 0 < n → n < reach k → 49 ≤ get_or (fives_text k n) 0 0
fives_first zero n some few = short_first n some few
fives_first (suc k) n some few =
    picked (λ (s : List ℕ). 49 ≤ get_or s 0 0) (ltb n 100000) _ _ (λ e. short_first n some (ltb-true n 100000 e))
    (λ e. let long = ltb-false n 100000 e in first_append (fives_text k (n / 100000)) (places_of n) (fives_first k (n / 100000) (omega arith) (omega arith)))

no_zero_first : (n : ℕ) → 0 < n → n < 100000000000000000000 → 49 ≤ get_or (decimal_text n) 0 0
unfolding decimal_text
no_zero_first n some few = fives_first 3 n some few

zero_is : decimal_text 0 ≡ ascii "0"
unfolding decimal_text short_text shown_text
zero_is = refl

-- ---- the fields of a line

four_hex : (kind answer : ℕ) → kind < 65536 → answer ≢ 2 → FourHex kind (kind_text kind answer)
unfolding kind_text
four_hex kind answer few done =
    let is : kind_text kind answer ≡ hex_text lower (kind / 256 ∷ kind % 256 ∷ []) = rw (ne_eqb answer 2 done) refl in
    let bytes : Bytes (kind / 256 ∷ kind % 256 ∷ []) = pair_bytes (kind / 256) (kind % 256) (omega arith) (omega arith) in
    record {
      four = ap length is;
      digits = ap (hex_digits lower) is ∙ digits_written lower (omega arith) (kind / 256 ∷ kind % 256 ∷ []) bytes;
      value = ap (hex_bytes lower) is ∙ bytes_back lower (omega arith) (kind / 256 ∷ kind % 256 ∷ []) bytes;
    }

cut_is : (kind : ℕ) → kind_text kind 2 ≡ ascii "----"
unfolding kind_text
cut_is kind = refl

shown_reply : (reply : List ℕ) → 0 < length reply → reply_text reply ≡ hex_text lower reply
unfolding reply_text
shown_reply reply some = rw (ne_eqb (length reply) 0 (λ e. omega arith)) refl

no_reply : reply_text [] ≡ ascii "-"
unfolding reply_text
no_reply = refl

append_assoc : (xs ys zs : List ℕ) → (xs ++ ys) ++ zs ≡ xs ++ (ys ++ zs)
append_assoc [] ys zs = refl
append_assoc (x ∷ xs) ys zs = ap (λ (s : List ℕ). x ∷ s) (append_assoc xs ys zs)

line_is : LineFields
unfolding start_text end_text
line_is number kind answer reply = simp append_assoc

header_is : header_text ≡ ascii "record kind answer reply\n"
unfolding header_text
header_is = refl

over_is : over_text ≡ ascii "0 ---- 1 -\n"
unfolding over_text shown_text short_text decimal_text end_text reply_text
over_is = refl

pub text_means : TextMeans
text_means = record {
  decimal = λ n h. same_value 0 (decimal_text n) ∙ decimal_value n h;
  decimal_digits = all_digits_lem;
  decimal_first = no_zero_first;
  decimal_zero = zero_is;
  hex = bytes_back lower (omega arith);
  hex_digits_lem = digits_written lower (omega arith);
  hex_two = hex_length lower;
  line = line_is;
  kind = four_hex;
  kind_cut = cut_is;
  reply = shown_reply;
  reply_none = no_reply;
  header = header_is;
  over = over_is;
  session = λ start s room answers r after told before out count bytes lent room_is runs fits written.
      session_text_lem did_of start did_fits s room answers r after told bytes lent room_is runs fits written;
}
