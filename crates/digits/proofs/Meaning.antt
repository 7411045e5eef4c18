-- The digits mean the number that they are written for.
use mathlib.Core.Path.{◌≡◌, refl, ap, ◌∙◌}
use mathlib.Core.Bool.{Bool, true, false}
use mathlib.Core.List.{List, [], ◌∷◌, ◌++◌}
use Prim.Native.Nat.{ℕ, zero, suc, ◌+◌, ◌-◌, ◌*◌, ◌/◌, ◌%◌, ◌<◌}
use native.Mathlib.Omega.{arith}
use borrow.Author.Tests.{ltb-true}
use lib.Dec.{ltb}
use Rattle.numbers.specs.Choice.{pick}
use Rattle.digits.specs.Digits.{digit_of, shown_text, place_text, places_of, short_text, fives_text, decimal_text}

-- the number that decimal digits stand for, behind those that were read
abbrev pub value_from : ℕ → List ℕ → ℕ
value_from n [] = n
value_from n (d ∷ ds) = value_from (10 * n + (d - 48)) ds

-- a digit that is shown, or a leading zero that is not, leads from the places above it to its own
shown_value : (place above n : ℕ) (rest : List ℕ) → (n < place → n / above ≡ n / place) → 10 * (n / above) + n / place % 10 ≡ n / place
    → value_from (n / above) (place_text place n ++ rest) ≡ value_from (n / place) rest
unfolding shown_text
shown_value place above n rest nought next = by (ltb n place) refl
  where
    by : (b : Bool) → ltb n place ≡ b → value_from (n / above) (pick b [] (digit_of (n / place) ∷ []) ++ rest) ≡ value_from (n / place) rest
    by true h = ap (λ (k : ℕ). value_from k rest) (nought (ltb-true n place h))
    by false h =
        let e : 10 * (n / above) + (digit_of (n / place) - 48) ≡ n / place = omega (arith, next) in
        ap (λ (k : ℕ). value_from k rest) e

short_value : (n : ℕ) → n < 100000 → value_from 0 (short_text n) ≡ n
unfolding short_text
short_value n h =
    let none : 0 ≡ n / 100000 = omega arith in
    let last : 10 * (n / 10) + (digit_of n - 48) ≡ n = omega arith in
    ap (λ (k : ℕ). value_from k (short_text n)) none
    ∙ shown_value 10000 100000 n _ (λ l. omega arith) (omega arith)
    ∙ shown_value 1000 10000 n _ (λ l. omega arith) (omega arith)
    ∙ shown_value 100 1000 n _ (λ l. omega arith) (omega arith)
    ∙ shown_value 10 100 n _ (λ l. omega arith) (omega arith)
    ∙ last

-- digits, and those behind them
value_append : (k : ℕ) (xs ys : List ℕ) → value_from k (xs ++ ys) ≡ value_from (value_from k xs) ys
value_append k [] ys = refl
value_append k (x ∷ xs) ys = value_append (10 * k + (x - 48)) xs ys

-- a digit more
next_value : (place above n : ℕ) → 10 * (n / above) + n / place % 10 ≡ n / place → 10 * (n / above) + (digit_of (n / place) - 48) ≡ n / place
next_value place above n next = omega (arith, next)

-- the last five behind what is above them
places_value : (n : ℕ) → value_from (n / 100000) (places_of n) ≡ n
places_value n =
    let last : 10 * (n / 10) + (digit_of n - 48) ≡ n = omega arith in
    rw (
      next_value 10000 100000 n (omega arith),
      next_value 1000 10000 n (omega arith),
      next_value 100 1000 n (omega arith),
      next_value 10 100 n (omega arith),
    ) last

-- how far so many times five digits more reach
abbrev reach : ℕ → ℕ
reach zero = 100000
reach (suc k) = 100000 * reach k

fives_value : (k n : ℕ) → n < reach k → value_from 0 (fives_text k n) ≡ n
fives_value zero n h = short_value n h
fives_value (suc k) n h = by (ltb n 100000) refl (fives_value k (n / 100000) (omega arith))
  where
    by : (b : Bool) → ltb n 100000 ≡ b → value_from 0 (fives_text k (n / 100000)) ≡ n / 100000
        → value_from 0 (pick b (short_text n) (fives_text k (n / 100000) ++ places_of n)) ≡ n
    by true e above = short_value n (ltb-true n 100000 e)
    by false e above =
        value_append 0 (fives_text k (n / 100000)) (places_of n) ∙ ap (λ (m : ℕ). value_from m (places_of n)) above ∙ places_value n

-- a number of at most 20 digits
pub decimal_value : (n : ℕ) → n < 100000000000000000000 → value_from 0 (decimal_text n) ≡ n
unfolding decimal_text
decimal_value n h = fives_value 3 n h
