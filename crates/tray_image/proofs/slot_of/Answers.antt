use mathlib.Core.Path.{sym, ◌∙◌}
use native.Mathlib.Omega.{arith}
use lib.ListN.{drop_of_length-le}
use Rattle.tray_image.proofs.Words.{value_more, slot_told, no_slot}
use Rattle.tray_image.proofs.slot_of.Goals as goal

pub loop-c-preserved : goal.loop-c-preserved
loop-c-preserved c = let word = c.args.word.now in (
  omega (arith, c.min-n.ensures),
  rw (c.min-n.ensures, c.from.ensures, c.saturating_sub.ensures)
      (value_more word c.loop-c.c-index c.loop-c.n c.loop-c-test.true ∙ c.loop-c.invariant.1),
)

pub returns-then-n-lt8 : goal.returns-then-n-lt8
returns-then-n-lt8 c = let none = drop_of_length-le c.args.word.now c.loop-c-test.false in
    let last = rw none at c.loop-c.invariant.1 in
    sym (slot_told c.args.word.now c.loop-c.n c.if-n-lt8.true last)

pub returns-else-n-lt8 : goal.returns-else-n-lt8
returns-else-n-lt8 c = let none = drop_of_length-le c.args.word.now c.loop-c-test.false in
    let last = rw none at c.loop-c.invariant.1 in
    sym (no_slot c.args.word.now c.loop-c.n c.if-n-lt8.false last)
