use Rattle.state_bytes.proofs.Places.{act_became, idle_became, unchosen_became, reply_is}
use Rattle.state_bytes.proofs.transacted_in.Goals as goal
use Rattle.state_bytes.proofs.transacted_in.Goals.{else-chosen-via-then-chosen+else-can_change, else-chosen-via-else-chosen}

pub returns-then-can_change : goal.returns-then-can_change
returns-then-can_change c = record { became = search act_became; replied = search reply_is }

pub returns-else-chosen : goal.returns-else-chosen
returns-else-chosen c = record {
  became = elim c.else-chosen.branch [
    | else-chosen-via-then-chosen+else-can_change w ↦
        idle_became _ _ _ c.array_at-address.ensures c.selected-chosen.ensures w.can_change.ensures w.if-chosen.true w.if-can_change.false c.requires.placed
    | else-chosen-via-else-chosen w ↦
        unchosen_became _ _ _ c.array_at-address.ensures c.selected-chosen.ensures w.if-chosen.false c.requires.placed
  ];
  replied = search reply_is;
}
