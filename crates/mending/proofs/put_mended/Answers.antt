-- `mending::put_mended` meets its contract.
use Rattle.mending.proofs.Laws.{mended_put}
use Rattle.mending.proofs.put_mended.Goals as goal

pub returns : goal.returns
returns c = mended_put _ _ c.requires.image_len c.requires.in_bounds c.mended_image.ensures c.store_array.ensures.written
