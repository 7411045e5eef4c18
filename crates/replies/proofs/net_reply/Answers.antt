use mathlib.Core.Path.{ap, ◌∙◌}
use lib.ListN.{length}
use Rattle.replies.specs.Reply.{over_of}
use Rattle.replies.proofs.Listed.{net_listed, net_short}
use borrow.Author.Rules.{rules}
use Rattle.replies.proofs.net_reply.Goals as goal
use Rattle.replies.proofs.net_reply.Goals.{then-room-gt8, else-room-gt8}

pub returns : goal.returns
returns c =
    let a = c.args in
    elim c.if-room-gt8.branch [
      | then-room-gt8 w ↦ net_listed a.address (length a.room.now) _ (search rules) (w.room-is ∙ w.fill_ones.ensures) c.laid.ensures
      | else-room-gt8 w ↦ net_short a.address a.room.now (search rules) w.if-room-gt8.false (c.laid.ensures ∙ ap (over_of 0 a.address 0) w.room-is)
    ]
