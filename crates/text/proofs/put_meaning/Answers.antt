-- `text::put_meaning` meets its contract: an answer that is known has one meaning, and one that is none of the six is refused without one.
use mathlib.Core.Path.{◌≡◌}
use mathlib.Core.Bool.{true}
use Prim.Native.Nat.{ℕ}
use native.Mathlib.Omega.{arith}
use lib.Dec.{leb}
use borrow.Author.Tests.{ne_eqb, leb-true}
use Rattle.digits.specs.Ascii.{ascii}
use Rattle.digits.specs.declared.Page.{Page}
use Rattle.digits.specs.Digits.{Appends}
use Rattle.digits.proofs.Laws.{wider}
use Rattle.text.specs.Text.{image_meaning}
use Rattle.text.proofs.put_meaning.Goals as goal

-- the words of an answer that is known
told : {answer known most : ℕ} {p q : Page} → answer ≡ known → Appends most (image_meaning known) p q →
    leb most 50 ≡ true → Appends 50 (image_meaning answer) p q
told is words few = rw is (wider words (leb-true _ _ few))

-- and of any other
told_else : {answer : ℕ} {p q : Page} → (answer ≡ 4 → ⊥) → (answer ≡ 5 → ⊥) → (answer ≡ 6 → ⊥) → (answer ≡ 7 → ⊥) → (answer ≡ 10 → ⊥)
    → (answer ≡ 12 → ⊥) → Appends 13 (ascii "it is refused") p q → Appends 50 (image_meaning answer) p q
unfolding image_meaning
told_else a b c d e f words = rw (ne_eqb _ _ a, ne_eqb _ _ b, ne_eqb _ _ c, ne_eqb _ _ d, ne_eqb _ _ e, ne_eqb _ _ f) (wider words (omega arith))

pub returns-in-4 : goal.returns-in-4
unfolding image_meaning
returns-in-4 c = search told

pub returns-in-5 : goal.returns-in-5
unfolding image_meaning
returns-in-5 c = search told

pub returns-in-6 : goal.returns-in-6
unfolding image_meaning
returns-in-6 c = search told

pub returns-in-7 : goal.returns-in-7
unfolding image_meaning
returns-in-7 c = search told

pub returns-in-10 : goal.returns-in-10
unfolding image_meaning
returns-in-10 c = search told

pub returns-in-12 : goal.returns-in-12
unfolding image_meaning
returns-in-12 c = search told

pub returns-in_default : goal.returns-in_default
returns-in_default c = search told_else
