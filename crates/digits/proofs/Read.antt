-- Hexadecimal digits, read: reading undoes writing, and writing undoes reading.
use mathlib.Core.Path.{◌≡◌, refl, sym, ap, ◌∙◌}
use mathlib.Core.Bool.{Bool, true, false}
use mathlib.Core.Logic.{◌⊎◌, inl, inr, ⊎_elim}
use mathlib.Core.List.{List, [], ◌∷◌}
use Prim.Native.Nat.{ℕ, zero, suc, ◌+◌, ◌-◌, ◌*◌, ◌/◌, ◌%◌, ◌≤◌, ◌<◌}
use native.Mathlib.Numerals.{add-one}
use native.Mathlib.Omega.{arith}
use borrow.Author.Tests.{lt-ltb, le-ltb, le-leb, ltb-true, ltb-false, leb-true}
use lib.Dec.{ltb, leb}
use lib.ListN.{length, get_or, drop}
use lib.Seq.{drop-cons}
use Rattle.numbers.specs.Choice.{both, either}
use Rattle.numbers.proofs.Bounds.{both_true}
use Rattle.digits.specs.Digits.{hex_of, hex_text, hex_digit, hex_value, pair_value, hex_bytes, hex_digits}

-- where one of two tests holds, it is the first or the second
pub either_true : (s t : Bool) → either s t ≡ true → (s ≡ true) ⊎ (t ≡ true)
either_true true t e = inl refl
either_true false t e = inr e

-- ---- one digit

module _ (letter c : ℕ) where
  ranges : hex_digit letter c ≡ true → ((48 ≤ c) × (c < 58)) ⊎ ((letter ≤ c) × (c < letter + 6))
  unfolding hex_digit
  ranges e =
      ⊎_elim
      (λ s. inl (leb-true 48 c (both_true (leb 48 c) (ltb c 58) s).0, ltb-true c 58 (both_true (leb 48 c) (ltb c 58) s).1))
      (λ t. inr (
        leb-true letter c (both_true (leb letter c) (ltb c (letter + 6)) t).0,
        ltb-true c (letter + 6) (both_true (leb letter c) (ltb c (letter + 6)) t).1,
      ))
      (either_true (both (leb 48 c) (ltb c 58)) (both (leb letter c) (ltb c (letter + 6))) e)

  module _ (digit : hex_digit letter c ≡ true) (above : 58 ≤ letter) where
    pub value_number : c < 58 → (48 ≤ c) × (c - 48 ≡ hex_value letter c)
    unfolding hex_value
    value_number h =
        let low : 48 ≤ c = ⊎_elim (λ s. s.0) (λ t. omega (arith, t.0)) (ranges digit) in
        (low, rw (digit, lt-ltb c 58 h) refl)

    pub value_letter : 58 ≤ c → (letter ≤ c) × (c < letter + 6) × (c - letter + 10 ≡ hex_value letter c)
    unfolding hex_value
    value_letter h =
        let within : (letter ≤ c) × (c < letter + 6) = ⊎_elim (λ s. absurd (omega (arith, s.1))) (λ t. t) (ranges digit) in
        (within.0, within.1, rw (digit, le-ltb c 58 h) refl)

    -- writing undoes reading
    pub digit_back : hex_of letter (hex_value letter c) ≡ c
    unfolding hex_of
    digit_back = by (ltb c 58) refl
      where
        by : (b : Bool) → ltb c 58 ≡ b → hex_of letter (hex_value letter c) ≡ c
        by true e =
            let v = value_number (ltb-true c 58 e) in
            let small : c - 48 < 10 = omega (arith, ltb-true c 58 e) in
            rw (← v.1, lt-ltb (c - 48) 10 small) (omega (arith, v.0))
        by false e =
            let v = value_letter (ltb-false c 58 e) in
            let large : 10 ≤ c - letter + 10 = omega arith in
            rw (← v.2, le-ltb (c - letter + 10) 10 large) (omega (arith, v.0))

  pub value_none : hex_digit letter c ≡ false → 0 ≡ hex_value letter c
  unfolding hex_value
  value_none e = rw e refl

  pub value_small : 58 ≤ letter → hex_value letter c < 16
  value_small above = by (hex_digit letter c) refl (ltb c 58) refl
    where
      by : (b : Bool) → hex_digit letter c ≡ b → (n : Bool) → ltb c 58 ≡ n → hex_value letter c < 16
      by true e true f = rw (← (value_number e above (ltb-true c 58 f)).1) (omega (arith, ltb-true c 58 f))
      by true e false f = let v = value_letter e above (ltb-false c 58 f) in rw (← v.2) (omega (arith, v.1))
      by false e n f = rw (← value_none e) (omega arith)

-- what is written of a number below 16 is a digit, and reading undoes writing
module _ (letter d : ℕ) (above : 58 ≤ letter) (small : d < 16) where
  pub written_digit : hex_digit letter (hex_of letter d) ≡ true
  unfolding hex_of hex_digit
  written_digit = by (ltb d 10) refl
    where
      by : (b : Bool) → ltb d 10 ≡ b → hex_digit letter (hex_of letter d) ≡ true
      by true e =
          let l : 48 + d < 58 = omega (arith, ltb-true d 10 e) in
          let k : 48 ≤ 48 + d = omega arith in
          rw (e, le-leb 48 (48 + d) k, lt-ltb (48 + d) 58 l) refl
      by false e =
          let l : 58 ≤ letter - 10 + d = omega (arith, ltb-false d 10 e) in
          let k : letter ≤ letter - 10 + d = omega (arith, ltb-false d 10 e) in
          let m : letter - 10 + d < letter + 6 = omega arith in
          let n : 48 ≤ letter - 10 + d = omega arith in
          rw (e, le-ltb (letter - 10 + d) 58 l, le-leb letter (letter - 10 + d) k, lt-ltb (letter - 10 + d) (letter + 6) m, le-leb 48 (letter - 10 + d) n) refl

  pub hex_value_lem : hex_value letter (hex_of letter d) ≡ d
  unfolding hex_of
  hex_value_lem = by (ltb d 10) refl
    where
      by : (b : Bool) → ltb d 10 ≡ b → hex_value letter (hex_of letter d) ≡ d
      by true e =
          let is : hex_of letter d ≡ 48 + d = rw e refl in
          let h : hex_of letter d < 58 = rw is (omega (arith, ltb-true d 10 e)) in
          sym (value_number letter (hex_of letter d) written_digit above h).1 ∙ ap (λ (x : ℕ). x - 48) is ∙ omega arith
      by false e =
          let is : hex_of letter d ≡ letter - 10 + d = rw e refl in
          let h : 58 ≤ hex_of letter d = rw is (omega (arith, ltb-false d 10 e)) in
          sym (value_letter letter (hex_of letter d) written_digit above h).2 ∙ ap (λ (x : ℕ). x - letter + 10) is ∙ omega (arith, ltb-false d 10 e)

-- ---- many

abbrev pub Bytes : List ℕ → Type 0
Bytes s = (i : ℕ) → get_or s i 0 < 256

pub hex_length : (letter : ℕ) (bs : List ℕ) → length (hex_text letter bs) ≡ 2 * length bs
hex_length letter [] = refl
hex_length letter (b ∷ bs) = omega (arith, hex_length letter bs)

module _ (letter : ℕ) (above : 58 ≤ letter) where
  -- reading undoes writing
  pub bytes_back : (bs : List ℕ) → Bytes bs → hex_bytes letter (hex_text letter bs) ≡ bs
  bytes_back [] h = refl
  bytes_back (b ∷ bs) h =
      let high : b / 16 < 16 = omega (arith, h 0) in
      let low : b % 16 < 16 = omega arith in
      let whole : 16 * (b / 16) + b % 16 ≡ b = omega arith in
      rw (hex_value_lem letter (b / 16) above high, hex_value_lem letter (b % 16) above low, whole, bytes_back bs (λ i. h (suc i))) refl

  pub digits_written : (bs : List ℕ) → Bytes bs → hex_digits letter (hex_text letter bs) ≡ true
  digits_written [] h = refl
  digits_written (b ∷ bs) h =
      let high : b / 16 < 16 = omega (arith, h 0) in
      let low : b % 16 < 16 = omega arith in
      rw (written_digit letter (b / 16) above high, written_digit letter (b % 16) above low) (digits_written bs (λ i. h (suc i)))

  -- and writing undoes reading, of an even number of digits
  pub digits_back : (s : List ℕ) (n : ℕ) → hex_digits letter s ≡ true → length s ≡ 2 * n → hex_text letter (hex_bytes letter s) ≡ s
  digits_back [] n all even = refl
  digits_back (a ∷ []) n all even = absurd (omega arith)
  digits_back (a ∷ b ∷ cs) n all even =
      let one = both_true (hex_digit letter a) (both (hex_digit letter b) (hex_digits letter cs)) all in
      let two = both_true (hex_digit letter b) (hex_digits letter cs) one.1 in
      let x = hex_value letter a in
      let y = hex_value letter b in
      let small = value_small letter b above in
      let high : (16 * x + y) / 16 ≡ x = omega arith in
      let low : (16 * x + y) % 16 ≡ y = omega arith in
      rw (high, low, digit_back letter a one.0 above, digit_back letter b two.0 above, digits_back cs (n - 1) two.1 (omega arith)) refl

  pub bytes_small : (s : List ℕ) → Bytes (hex_bytes letter s)
  bytes_small [] i = omega arith
  bytes_small (a ∷ []) i = omega arith
  bytes_small (a ∷ b ∷ cs) zero = omega (arith, value_small letter a above, value_small letter b above)
  bytes_small (a ∷ b ∷ cs) (suc i) = bytes_small cs i

pub bytes_length : (letter : ℕ) (s : List ℕ) → length (hex_bytes letter s) ≡ length s / 2
bytes_length letter [] = refl
bytes_length letter (a ∷ []) = refl
bytes_length letter (a ∷ b ∷ cs) = omega (arith, bytes_length letter cs)

-- the byte at an index
pub byte_there : (letter : ℕ) (s : List ℕ) (k : ℕ) → 2 * k + 1 < length s
    → pair_value letter (get_or s (2 * k) 0) (get_or s (2 * k + 1) 0) ≡ get_or (hex_bytes letter s) k 0
byte_there letter [] k h = absurd (omega arith)
byte_there letter (a ∷ []) k h = absurd (omega arith)
byte_there letter (a ∷ b ∷ cs) zero h = refl
byte_there letter (a ∷ b ∷ cs) (suc k) h =
    let first : 2 * suc k ≡ suc (suc (2 * k)) = omega arith in
    let second : 2 * suc k + 1 ≡ suc (suc (2 * k + 1)) = omega arith in
    rw (second, first) (byte_there letter cs k (omega arith))

-- ---- all are digits, from a place on

pub digits_more : (letter : ℕ) (s : List ℕ) (i : ℕ) → i < length s →
    both (hex_digit letter (get_or s i 0)) (hex_digits letter (drop (i + 1) s)) ≡ hex_digits letter (drop i s)
digits_more letter s i h = rw (add-one, drop-cons s i 0) refl
