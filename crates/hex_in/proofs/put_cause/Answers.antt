-- `hex_in::put_cause` meets its contract.
use mathlib.Core.Path.{◌≡◌}
use mathlib.Core.Bool.{true}
use Prim.Native.Nat.{ℕ}
use lib.Dec.{leb}
use borrow.Author.Tests.{leb-true}
use Rattle.digits.specs.declared.Page.{Page}
use Rattle.digits.specs.Digits.{Appends}
use Rattle.digits.proofs.Laws.{wider}
use Rattle.intel_hex.specs.declared.Cause.{Cause}
use Rattle.hex_in.specs.HexIn.{cause_words}
use Rattle.hex_in.proofs.put_cause.Goals as goal

told : {most : ℕ} {cause known : Cause} {p q : Page} → cause ≡ known → Appends most (cause_words known) p q → leb most 72 ≡ true
    → Appends 72 (cause_words cause) p q
told is words few = rw is (wider words (leb-true _ _ few))

pub returns-in-Colon : goal.returns-in-Colon
returns-in-Colon c = search told

pub returns-in-Digits : goal.returns-in-Digits
returns-in-Digits c = search told

pub returns-in-Sum : goal.returns-in-Sum
returns-in-Sum c = search told

pub returns-in-Place : goal.returns-in-Place
returns-in-Place c = search told
