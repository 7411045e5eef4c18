use mathlib.Core.Path.{refl, sym, ◌∙◌}
use Prim.Native.Nat.{◌+◌}
use native.Mathlib.Nat.{add-zero}
use native.Mathlib.Omega.{arith}
use lib.ListN.{get_or, length-set, drop_of_length-le}
use Rattle.slices.proofs.Laws.{put_more}
use Rattle.slices.proofs.store.Goals as goal

pub loop-i-init : goal.loop-i-init
loop-i-init c = (refl, rw add-zero refl)

pub loop-i-preserved : goal.loop-i-preserved
loop-i-preserved c = let s = c.args.src.now in
    let at = c.args.at in
    let l = c.loop-i.dst in
    let i = c.loop-i.i in (
      length-set l (at + i) (get_or s i 0) ∙ c.loop-i.invariant.0,
      sym (put_more l s at i (omega arith)) ∙ c.loop-i.invariant.1,
    )

pub shape_of-dst : goal.shape_of-dst
shape_of-dst c = c.loop-i.invariant.0

pub returns : goal.returns
returns c = let none = drop_of_length-le c.args.src.now c.loop-i-test.false in
    rw none at c.loop-i.invariant.1
