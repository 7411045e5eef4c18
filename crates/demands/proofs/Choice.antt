-- Laws of tests and of choosing by a test.
use mathlib.Core.Path.{◌≡◌, refl, sym, subst}
use mathlib.Core.Bool.{Bool, true, false}
use mathlib.Core.List.{List, [], ◌∷◌}
use Prim.Native.Nat.{ℕ}
use borrow.Author.Tests.{eqb-true}
use lib.Dec.{eqb}
use native.Mathlib.Omega.{arith}
use Rattle.numbers.specs.Choice.{pick, both, either}

-- anything follows where two constructors are equal: `contrary cc`
pub contrary : {A : Type 0} → ◌≡◌ {A = ℕ} 0 1 → A
contrary z = absurd (omega arith)

pub both_false : (t : Bool) → both t false ≡ false
both_false true = refl
both_false false = refl

pub pick_of : {A : Type 0} (P : A → Type 0) (t : Bool) (x y : A) → P x → P y → P (pick t x y)
pick_of P true x y h k = h
pick_of P false x y h k = k

-- a test that is asked twice
pub pick_twice : {A : Type 0} (t : Bool) (x y : A) → pick t (pick t x y) y ≡ pick t x y
pick_twice true x y = refl
pick_twice false x y = refl

pub pick_ap : {A B : Type 0} (f : A → B) (t : Bool) (x y : A) → pick t (f x) (f y) ≡ f (pick t x y)
pick_ap f true x y = refl
pick_ap f false x y = refl

-- by whether a number is m
pub by_number : (P : ℕ → Type 0) (n m : ℕ) → P m → (eqb n m ≡ false → P n) → P n
by_number P n m here other = go (eqb n m) refl
  where
    go : (t : Bool) → eqb n m ≡ t → P n
    go true e = subst P (sym (eqb-true n m e)) here
    go false e = other e

pub either_none : (t : Bool) → either t false ≡ t
either_none true = refl
either_none false = refl

pub either_true : (t : Bool) → either t true ≡ true
either_true true = refl
either_true false = refl

pub either_assoc : (s t u : Bool) → either (either s t) u ≡ either s (either t u)
either_assoc true t u = refl
either_assoc false t u = refl

-- A number is one of a list, or none of it

abbrev pub Each : (ℕ → Type 0) → List ℕ → Type 0
Each P [] = Unit
Each P (k ∷ ks) = P k × Each P ks

abbrev pub NoneOf : List ℕ → ℕ → Type 0
NoneOf [] n = Unit
NoneOf (k ∷ ks) n = (eqb n k ≡ false) × NoneOf ks n

pub among : (P : ℕ → Type 0) (n : ℕ) (ks : List ℕ) → Each P ks → (NoneOf ks n → P n) → P n
among P n [] each none = none tt
among P n (k ∷ ks) each none = by (eqb n k) refl (among P n ks each.1)
  where
    by : (t : Bool) → eqb n k ≡ t → ((NoneOf ks n → P n) → P n) → P n
    by true e later = subst P (sym (eqb-true n k e)) each.0
    by false e later = later (λ z. none (e, z))
