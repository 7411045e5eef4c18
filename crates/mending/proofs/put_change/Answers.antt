-- `mending::put_change` meets its contract.
use mathlib.Core.Path.{◌≡◌, refl}
use mathlib.Core.Bool.{true}
use mathlib.Core.List.{[]}
use Prim.Native.Nat.{ℕ}
use lib.Dec.{eqb}
use borrow.Author.Tests.{eq-eqb, ne_eqb}
use Rattle.digits.proofs.Laws.{none, wider}
use native.Mathlib.Omega.{arith}
use Rattle.mending.specs.Mending.{change_text}
use Rattle.mending.proofs.put_change.Goals as goal

no_line : (offset old new : ℕ) → eqb old new ≡ true → change_text offset old new ≡ []
unfolding change_text
no_line offset old new same = rw same refl

pub returns-then-old-new : goal.returns-then-old-new
returns-then-old-new c = let as_it_was : eqb c.args.old c.args.new ≡ true = eq-eqb _ _ c.if-old-new.true in
    let a = c.args in
    rw (no_line a.offset a.old a.new as_it_was) (wider (none a.page.now) (omega arith))

pub returns : goal.returns
unfolding change_text
returns c = rw (ne_eqb _ _ c.if-old-new.false) c.put_line.ensures
