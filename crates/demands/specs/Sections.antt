-- Events of three classes, and lists that hold the same events, between fences mixed differently.
use Rattle.std.specs.Prelude.{◌≡◌, Bool, true, false, List, [], ◌∷◌, ◌++◌}
use Rattle.numbers.specs.Choice.{pick}

pub data Class : Type 0 where
  labelling gauging fence : Class

abbrev pub same : Class → Class → Bool
same labelling labelling = true
same labelling gauging = false
same labelling fence = false
same gauging labelling = false
same gauging gauging = true
same gauging fence = false
same fence labelling = false
same fence gauging = false
same fence fence = true

module _ {A : Type 0} (class : A → Class) where
  -- the elements of a class, in their order
  abbrev pub only : Class → List A → List A
  only k [] = []
  only k (x ∷ xs) = pick (same k (class x)) (x ∷ only k xs) (only k xs)

  -- no fences, "the same label events in the same order, the same gauge events in the same order, mixed differently"
  pub record Section (xs ys : List A) : Type 0 where
    pub one : only fence xs ≡ []
    pub other : only fence ys ≡ []
    pub labels : only labelling xs ≡ only labelling ys
    pub gauges : only gauging xs ≡ only gauging ys

  -- "the same fences in the same order", and such a section between neighbouring fences and after the last
  pub data Sections : List A → List A → Type 0 where
    last : {xs ys : List A} → Section xs ys → Sections xs ys
    more : {xs ys us vs : List A} {f : A} → Section xs ys → class f ≡ fence → Sections us vs → Sections (xs ++ (f ∷ us)) (ys ++ (f ∷ vs))
