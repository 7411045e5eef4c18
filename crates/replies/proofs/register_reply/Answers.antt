-- `replies::register_reply` meets its contract: it fills the room with the bytes of a pair.
use mathlib.Core.Path.{◌≡◌, ◌∙◌}
use Prim.Native.Nat.{◌+◌}
use native.Mathlib.Omega.{arith}
use lib.ListN.{get_or, length-set}
use Rattle.registers.specs.Registers.{registers_of}
use Rattle.replies.proofs.Listed.{filling_start, filling_more, filling_end, high_byte, low_byte}
use Rattle.replies.proofs.register_reply.Goals.{then-a-eq0, else-a-eq0}
use Rattle.replies.proofs.register_reply.Goals as goal

pub register-pair-requires : goal.register-pair-requires
register-pair-requires c = record { meter_wf = c.requires.meter_wf; at_bound = (omega (arith, c.requires.a_bound), omega arith) }

pub bounds-room-1 : goal.bounds-room-1
bounds-room-1 c = omega (arith, c.if-room-eq2.true, length-set c.args.room.now 0 c.register-pair.result.high)

pub returns-then-room-eq2 : goal.returns-then-room-eq2
returns-then-room-eq2 c = let a = c.args in
    let room = a.room.now in
    let p = c.register-pair.ensures in
    filling_end _ room _ 2
    (filling_more _ room _ 1 _
    (filling_more _ room room 0 _ (filling_start _ room) (omega (arith, c.if-room-eq2.true))
    (high_byte a.common a.meter a.a _ p 0 (omega (arith, c.if-room-eq2.true, c.requires.a_bound.1))))
    (omega (arith, c.if-room-eq2.true))
    (low_byte a.common a.meter a.a _ p 1 (omega (arith, c.if-room-eq2.true, c.requires.a_bound.1))))
    (omega (arith, c.if-room-eq2.true))

pub returns-after-a-eq0 : goal.returns-after-a-eq0
returns-after-a-eq0 c = let a = c.args in
    let room = a.room.now in
    let p = c.register-pair.ensures in
    let byte : c.if-a-eq0.room ≡ get_or (registers_of a.common a.meter) (a.a + 0) 0 = elim c.if-a-eq0.branch [
      | then-a-eq0 w ↦ w.room-is ∙ high_byte a.common a.meter a.a _ p 0 (omega (arith, w.if-a-eq0))
      | else-a-eq0 w ↦ w.room-is ∙ low_byte a.common a.meter a.a _ p 0 (omega (arith, w.if-a-eq0))
    ] in
    filling_end _ room _ 1 (filling_more _ room room 0 _ (filling_start _ room) (omega (arith, c.if-room-eq1.true)) byte) (omega (arith, c.if-room-eq1.true))

pub returns-else-room-eq1 : goal.returns-else-room-eq1
returns-else-room-eq1 c = let room = c.args.room.now in
    filling_end _ room _ 0 (filling_start _ room) (omega (arith, c.if-room-eq1.false, c.if-room-eq2.false, c.requires.a_bound.1))
