-- `mending::changes` meets its contract.
use mathlib.Core.Path.{sym, ap, ◌∙◌}
use lib.ListN.{length}
use native.Mathlib.Omega.{arith}
use Rattle.record.specs.Image.{image_size}
use Rattle.mending.proofs.Laws.{granted, mended_length, listed}
use Rattle.mending.proofs.changes.Goals as goal

pub mended_image-mended-requires : goal.mended_image-mended-requires
mended_image-mended-requires c = (granted c.args.image.now image_size (sym c.answer.ensures ∙ c.in_ok-answer.was)).sized

pub put_changes-requires : goal.put_changes-requires
put_changes-requires c = let image = c.args.image.now in
    let size = (granted image image_size (sym c.answer.ensures ∙ c.in_ok-answer.was)).sized in
    record { old_len = size; new_len = ap length c.mended_image-mended.ensures ∙ mended_length image ∙ size; changes_size_in_bounds = omega arith }

pub returns : goal.returns
returns c = listed _ (sym c.answer.ensures ∙ c.in_ok-answer.was) c.mended_image-mended.ensures c.put_changes.ensures
