-- `slices::array_at` meets its contract, by the law of a part that is put over a whole list.
use mathlib.Core.Path.{◌∙◌, refl}
use lib.ListN.{length-replicate}
use Rattle.slices.proofs.Laws.{put_copy}
use Rattle.slices.proofs.array_at.Goals as goal

pub returns : goal.returns
returns g c = c.store.ensures ∙ put_copy _ c.args.bytes.now c.args.at g.row.N (length-replicate g.row.N 0) c.requires
