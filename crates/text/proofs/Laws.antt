-- When a text fits the room, what is said of it then, and lists that are asked for more than they have.
use mathlib.Core.Path.{◌≡◌, refl, sym, ap, ◌∙◌}
use mathlib.Core.Bool.{Bool, true, false}
use mathlib.Core.List.{List, []}
use Prim.Native.Nat.{ℕ, ◌+◌, ◌*◌, ◌-◌, ◌/◌, ◌≤◌, min}
use native.Mathlib.Nat.{zero-add}
use native.Mathlib.Omega.{arith}
use borrow.Author.Tests.{le-leb, lt-leb, leb-true, leb-false}
use lib.Dec.{leb}
use lib.ListN.{length, take, drop, drop_of_length-le}
use lib.Seq.{length-take-le, take_all}
use Rattle.numbers.specs.Choice.{pick, both}
use Rattle.digits.specs.Digits.{Writing}
use Rattle.digits.proofs.Laws.{kept}
use Rattle.runs.specs.declared.Outcome.{Outcome}
use Rattle.text.specs.Text.{coded_text, most_of, Held, fits_of, report_of, Reporting}

-- asking for more than a list has is asking for all of it
pub take_drop_min : (k : ℕ) (l : List ℕ) (n : ℕ) → n ≡ min k (length l) → (take n l ≡ take k l) × (drop n l ≡ drop k l)
take_drop_min k l n e = by (leb k (length l)) refl
  where
    by : (b : Bool) → leb k (length l) ≡ b → (take n l ≡ take k l) × (drop n l ≡ drop k l)
    by true h =
        let same : n ≡ k = omega (arith, leb-true k (length l) h) in
        (ap (λ (m : ℕ). take m l) same, ap (λ (m : ℕ). drop m l) same)
    by false h =
        let over : length l ≤ k = omega (arith, leb-false k (length l) h) in
        let all : length l ≤ n = omega (arith, leb-false k (length l) h) in
        (take_all n l all ∙ sym (take_all k l over), drop_of_length-le l all ∙ sym (drop_of_length-le l over))

-- whether twice r fits behind a, tested without a product that could wrap
pub half_test : (a r room : ℕ) → a ≤ room → leb r ((room - a) / 2) ≡ leb (a + 2 * r) room
half_test a r room h = by (leb r ((room - a) / 2)) refl
  where
    by : (b : Bool) → leb r ((room - a) / 2) ≡ b → b ≡ leb (a + 2 * r) room
    by true e = sym (le-leb (a + 2 * r) room (omega (arith, leb-true r ((room - a) / 2) e)))
    by false e = sym (lt-leb (a + 2 * r) room (omega (arith, leb-false r ((room - a) / 2) e)))

-- what the test says where it holds
pub fits_room : (lines replied room : ℕ) → fits_of lines replied room ≡ true → Held lines replied room
unfolding fits_of
fits_room lines replied room = by (leb lines 99999) refl
  where
    by : (b : Bool) → leb lines 99999 ≡ b → both b (leb (most_of lines replied) room) ≡ true → Held lines replied room
    by true h e = record { numbered = leb-true lines 99999 h; fits = leb-true (most_of lines replied) room e }
    by false h e = let z : ◌≡◌ {A = ℕ} 0 1 = cc in absurd (omega arith)

-- text written at the front is a report
pub reported : {m r : ℕ} {text l l' : List ℕ} → Writing m text l 0 r l' → m ≤ length l → Reporting text l r l'
reported {m} {r} {text} {l} {l'} w h =
    let fits : r ≤ length l' = omega (arith, kept w, w.within) in
    record { counted = w.onward ∙ zero-add (length text); written = w.written; within = fits; whole = sym (length-take-le r l' fits) }

-- the first k of a list, as n of them that are there
pub record Cut (k : ℕ) (l : List ℕ) (n : ℕ) : Type 0 where
  pub same : take k l ≡ take n l
  pub count : length (take n l) ≡ n

pub cut : (k : ℕ) (l : List ℕ) (n : ℕ) → n ≡ min k (length l) → Cut k l n
cut k l n e = record { same = sym (take_drop_min k l n e).0; count = length-take-le n l (omega arith) }

-- a report of answers and replies that are cut: their counts tell whether it fits
pub report_cut : (o : Outcome) {answers replies : List ℕ} {lines replied n m : ℕ} → Cut lines answers n → Cut replied replies m → (room : ℕ)
    → report_of o (take lines answers) (take replied replies) room ≡ pick (fits_of n m room) (coded_text o (take n answers) (take m replies)) []
unfolding report_of
report_cut o x y room = rw (x.same, y.same, x.count, y.count) refl
