use mathlib.Core.Path.{◌∙◌}
use native.Mathlib.Omega.{arith}
use native.Mathlib.Numerals.{add-one}
use lib.ListN.{length-set}
use Rattle.tray_record.proofs.Anded.{and_more}
use Rattle.tray_record.proofs.wire.Goals as goal

pub loop-i-preserved : goal.loop-i-preserved
loop-i-preserved c = let l = c.loop-i in
    let reply = c.args.reply.now in
    let same = length-set l.room l.i _ ∙ l.invariant.0 in
    (same, rw (add-one l.i) (and_more l.i l.room reply (omega arith) (omega (arith, l.invariant.0))) ∙ l.invariant.1)
