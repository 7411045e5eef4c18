-- `mending::mend` meets its contract.
use mathlib.Core.Path.{sym, ◌∙◌}
use lib.ListN.{length}
use Rattle.mending.proofs.Laws.{granted}
use Rattle.mending.proofs.mend.Goals as goal

pub put_mended-requires : goal.put_mended-requires
put_mended-requires c = let g = granted c.args.image.now (length c.args.room.now) (sym c.answer.ensures ∙ c.in_ok-answer.was) in
    record { image_len = g.sized; in_bounds = g.fits }
