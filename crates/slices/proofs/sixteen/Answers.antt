use mathlib.Core.Path.{refl, ◌∙◌}
use Rattle.slices.proofs.Laws.{put_both}
use Rattle.slices.proofs.sixteen.Goals as goal

pub returns : goal.returns
returns c = c.store_array-2.ensures.written
    ∙ rw (c.store_array.ensures.written, c.array_at-high.ensures, c.array_at-low.ensures)
    (put_both _ c.args.bytes.now c.args.at 8 8 refl c.requires)
