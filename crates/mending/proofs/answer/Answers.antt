-- `mending::answer` meets its contract.
use mathlib.Core.Path.{◌≡◌}
use mathlib.Core.Bool.{true}
use native.Mathlib.Omega.{arith}
use borrow.Author.Tests.{eq-eqb, le-ltb}
use lib.Dec.{eqb}
use lib.ListN.{get_or}
use Rattle.std.proofs.lemmas.Grind.{common_steps}
use Rattle.record.specs.Image.{address_at}
use Rattle.mending.specs.Mending.{mending_answer}
use Rattle.mending.proofs.answer.Goals as goal

pub returns-then-image-ne-IMAGE_SIZE : goal.returns-then-image-ne-IMAGE_SIZE
unfolding mending_answer
returns-then-image-ne-IMAGE_SIZE c = grind (arith, common_steps)

pub returns-then-room-lt-IMAGE_SIZE : goal.returns-then-room-lt-IMAGE_SIZE
unfolding mending_answer
returns-then-room-lt-IMAGE_SIZE c = grind (arith, common_steps)

pub returns-then-image-ne61 : goal.returns-then-image-ne61
unfolding mending_answer
returns-then-image-ne61 c = grind (arith, common_steps)

pub returns : goal.returns
unfolding mending_answer
returns c = let right : eqb (get_or c.args.image.now address_at 0) 0x3d ≡ true = eq-eqb _ _ c.if-image-ne61.false in
    simp (eq-eqb _ _ c.if-image-ne-IMAGE_SIZE.false, le-ltb _ _ c.if-room-lt-IMAGE_SIZE.false, right)
