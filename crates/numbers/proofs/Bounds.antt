-- Bounds of products, what holds of the one that a test picks, and tests that hold together.
use mathlib.Core.Path.{◌≡◌, refl, sym, subst}
use mathlib.Core.Bool.{Bool, true, false}
use Prim.Native.Nat.{ℕ, ◌*◌, ◌≤◌}
use native.Mathlib.Nat.{mul-le-mul}
use Rattle.numbers.specs.Choice.{pick, both}

pub times : (a b m n : ℕ) → a ≤ m → b ≤ n → a * b ≤ m * n
times a b m n p q = mul-le-mul p q

-- a contract's two clauses: the result is b, and what holds of b holds of it
pub also : {A : Type 0} (P : A → Type 0) {a b : A} → a ≡ b → P b → (a ≡ b) × P a
also P e h = (e, subst P (sym e) h)

-- what holds of each of the two, where it is the one that is picked, holds of the one picked
pub picked : {A : Type 0} (P : A → Type 0) (t : Bool) (a b : A) → (t ≡ true → P a) → (t ≡ false → P b) → P (pick t a b)
picked P true a b f g = f refl
picked P false a b f g = g refl

-- what is done to the one picked may be done to both before
pub through : {A B : Type 0} (f : A → B) (t : Bool) (a b : A) → f (pick t a b) ≡ pick t (f a) (f b)
through f true a b = refl
through f false a b = refl

-- where both tests hold, each does
pub both_true : (s t : Bool) → both s t ≡ true → (s ≡ true) × (t ≡ true)
both_true true t e = (refl, e)
both_true false t e = (e, cc)
