-- `mending::mended_image` meets its contract: six bytes over a copy of the image.
use Rattle.mending.proofs.Laws.{mended_laid}
use Rattle.mending.proofs.mended_image.Goals as goal

pub returns : goal.returns
returns c = mended_laid c.args.image.now c.requires c.array_at-mended.ensures c.crc.ensures c.mended_breaks-breaks.ensures
    c.offset8.ensures c.offset8-2.ensures c.offset8-3.ensures c.aged.ensures
