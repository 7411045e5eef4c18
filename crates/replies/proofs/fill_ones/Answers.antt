use mathlib.Core.Path.{◌∙◌}
use lib.ListN.{length}
use Rattle.replies.proofs.Listed.{replicated}
use Rattle.replies.proofs.fill_ones.Goals as goal

pub returns : goal.returns
returns c = c.fill.ensures.after (λ y e. e) ∙ replicated 0xff 0 (length c.args.room.now)
