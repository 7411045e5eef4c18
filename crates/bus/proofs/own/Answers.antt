-- `bus::own` meets its contract: fewer than 9 bytes hold no address, and of more the 8 after the first are compared.
use native.Mathlib.Omega.{arith}
use mathlib.Core.Path.{◌∙◌, refl}
use Prim.Native.Nat.{◌<◌}
use lib.ListN.{length, take, drop, length-drop}
use Rattle.std.proofs.lemmas.List.{take_rest}
use Rattle.bus.proofs.Laws.{own_given}
use borrow.Author.Tests.{lt-ltb}
use Rattle.bus.specs.Ask.{own_of}
use Rattle.bus.proofs.own.Goals as goal

pub returns-in-empty : goal.returns-in-empty
unfolding own_of
returns-in-empty c = let short : length c.args.master.now < 9 = omega arith in
    simp (lt-ltb _ _ short)

pub returns-in-Some : goal.returns-in-Some
returns-in-Some c =
    own_given c.args.address c.args.master.now c.in-Some.named.now _ _ c.number-in-Some.ensures.eight c.number-in-Some.ensures.bounded
    c.number.ensures.bounded c.in-Some.ensures.cases c.number.ensures.value c.number-in-Some.ensures.value

pub returns-in-None : goal.returns-in-None
unfolding own_of
returns-in-None c =
    let short : length c.args.master.now < 9 = omega (arith, c.in-None.ensures.cases, length-drop 1 c.args.master.now) in
    simp (lt-ltb _ _ short)
