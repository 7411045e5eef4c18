-- Layouts: how a value stands in bytes, put together from a few parts. What a layout of the state needs besides is one line for each field.
use Rattle.std.specs.Prelude.{Bool, true, List, [], ◌∷◌, ◌++◌, ℕ, zero, suc, ◌+◌, ◌*◌, ◌/◌, ◌%◌, eqb, ltb, get_or}
use Rattle.numbers.specs.Choice.{pick, both}
use Rattle.slices.specs.Slices.{part, pair_at, quad_at}

pub record Layout (A : Type 0) : Type 0 where
  -- how many bytes it takes
  pub size : ℕ
  -- the value of the bytes from an index on
  pub at : List ℕ → ℕ → A
  -- the bytes of a value
  pub out : A → List ℕ
  -- where its flags stand, from an index on: bytes that are 0 or 1
  pub flags_from : ℕ → List ℕ

-- ---- numbers of one, two and four bytes, the low byte first

abbrev pub number1 : Layout ℕ
number1 = record { size = 1; at = λ s i. get_or s i 0; out = λ n. n ∷ []; flags_from = λ i. [] }

abbrev pub number2 : Layout ℕ
number2 = record { size = 2; at = pair_at; out = λ n. n % 256 ∷ n / 256 ∷ []; flags_from = λ i. [] }

abbrev pub number4 : Layout ℕ
number4 = record {
  size = 4;
  at = quad_at;
  out = λ n. n % 256 ∷ n / 256 % 256 ∷ n / 65536 % 256 ∷ n / 16777216 ∷ [];
  flags_from = λ i. [];
}

-- ---- 0 or 1

abbrev pub flag_byte : Bool → ℕ
flag_byte b = pick b 1 0

abbrev pub flag_in : ℕ → Bool
flag_in n = eqb n 1

abbrev pub flag : Layout Bool
flag = record { size = 1; at = λ s i. flag_in (get_or s i 0); out = λ b. flag_byte b ∷ []; flags_from = λ i. i ∷ [] }

-- whether the bytes at some places are 0 or 1
abbrev pub plain_at : List ℕ → List ℕ → Bool
plain_at s [] = true
plain_at s (p ∷ ps) = both (ltb (get_or s p 0) 2) (plain_at s ps)

-- ---- so many bytes

abbrev pub bytes : ℕ → Layout (List ℕ)
bytes n = record { size = n; at = λ s i. part n s i; out = λ l. l; flags_from = λ i. [] }

-- ---- one value, and another behind it

infixr 5 ◌then◌
abbrev pub ◌then◌ : {A B : Type 0} → Layout A → Layout B → Layout (A × B)
a then b = record {
  size = a.size + b.size;
  at = λ s i. (a.at s i, b.at s (i + a.size));
  out = λ v. a.out v.0 ++ b.out v.1;
  flags_from = λ i. a.flags_from i ++ b.flags_from (i + a.size);
}

-- ---- so many values of one layout, each behind the one before it

-- what stands at an index, of so many indices from i on
abbrev pub indexed : {A : Type 0} → (ℕ → A) → ℕ → ℕ → List A
indexed f i zero = []
indexed f i (suc n) = f i ∷ indexed f (i + 1) n

abbrev pub chained : List (List ℕ) → List ℕ
chained [] = []
chained (x ∷ xs) = x ++ chained xs

abbrev pub out_each : {A : Type 0} → Layout A → List A → List ℕ
out_each l [] = []
out_each l (v ∷ vs) = l.out v ++ out_each l vs

abbrev pub repeated : {A : Type 0} → ℕ → Layout A → Layout (List A)
repeated n l = record {
  size = n * l.size;
  at = λ s i. indexed (λ j. l.at s (i + j * l.size)) 0 n;
  out = out_each l;
  flags_from = λ i. chained (indexed (λ j. l.flags_from (i + j * l.size)) 0 n);
}

-- ---- a struct by its fields

pub record Fields (A B : Type 0) : Type 0 where
  pub to : A → B
  pub from : B → A

abbrev pub formed : {A B : Type 0} → Fields A B → Layout A → Layout B
formed form l = record { size = l.size; at = λ s i. form.to (l.at s i); out = λ v. l.out (form.from v); flags_from = l.flags_from }
