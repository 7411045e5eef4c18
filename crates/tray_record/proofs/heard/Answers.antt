use native.Mathlib.Omega.{arith}
use borrow.Author.Rules.{rules}
use lib.ListN.{drop}
use Rattle.tray_record.proofs.Answering.{in_bytes}
use Rattle.tray_record.proofs.heard.Goals as goal

pub returns-then-first-clause-bytes : goal.returns-then-first-clause-bytes
returns-then-first-clause-bytes c = let a = c.args in
    in_bytes a.transaction a.common a.label a.meter c.selecting-chosen.ensures (drop a.transaction.count a.room.now) c.replied.ensures
    (λ j. omega (arith, c.type_inv.room j))

pub returns-else-first-clause-bytes : goal.returns-else-first-clause-bytes
returns-else-first-clause-bytes c = let a = c.args in
    in_bytes a.transaction a.common a.label a.meter c.selecting-chosen.ensures (drop a.transaction.count a.scratch.now)
    c.replied-else-first.ensures (search rules)
