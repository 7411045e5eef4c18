use mathlib.Core.Path.{◌∙◌, ap}
use lib.ListN.{length}
use Rattle.registers.specs.Registers.{registers_of}
use Rattle.replies.specs.Reply.{over_of}
use Rattle.replies.proofs.Listed.{register_listed, read_listed, low_listed}
use Rattle.replies.proofs.read_reply.Goals as goal
use Rattle.replies.proofs.read_reply.Goals.{then-a-room-gt32, else-a-room-gt32}

pub returns-then-a-room-le2 : goal.returns-then-a-room-le2
returns-then-a-room-le2 c = let a = c.args in
    c.register_reply.ensures
    ∙ register_listed a.common a.label a.meter a.a (length a.room.now) c.if-a-lt32.true c.if-a-room-le2.true

pub returns : goal.returns
returns c =
    let a = c.args in
    elim c.if-a-room-gt32.branch [
      | then-a-room-gt32 w ↦
          read_listed a.common a.label a.meter a.a (length a.room.now) _ _ _ _ w.block_laid.ensures.sized w.label_laid.ensures.sized w.fill_ones.ensures
          w.block_laid.ensures.room_after (w.room-is ∙ w.label_laid.ensures.room_after) c.registers_laid.ensures
      | else-a-room-gt32 w ↦
          low_listed a.common a.label a.meter a.a a.room.now w.if-a-room-gt32.false
          (c.registers_laid.ensures ∙ ap (over_of 0x00 (registers_of a.common a.meter) a.a) w.room-is)
    ]
