use native.Mathlib.Omega.{arith}
use Rattle.tray_record.proofs.Answering.{heard_first, heard_further}
use Rattle.state_bytes.specs.Places.{gauge_at}
use borrow.Author.Rules.{rules}
use Rattle.state_bytes.proofs.heard_at.Goals as goal

pub returns-then-first : goal.returns-then-first
returns-then-first c = let a = c.args in
    let g = gauge_at a.state.now a.at in
    let heard = heard_first a.transaction g.common g.label g.meter c.selecting-chosen.ensures a.scratch.now a.room.now
    c.if-first.true c.replied_at.ensures (λ j. omega (arith, c.type_inv.room j)) in
    record { room_after = heard.0; bytes = heard.1.1 }

pub returns-else-first : goal.returns-else-first
returns-else-first c = let a = c.args in
    let g = gauge_at a.state.now a.at in
    let heard = heard_further a.transaction g.common g.label g.meter c.selecting-chosen.ensures a.scratch.now a.room.now
    c.if-first.false c.replied_at-else-first.ensures (λ j. search rules) c.wire.ensures in
    record { room_after = heard.0; bytes = heard.1.1 }
