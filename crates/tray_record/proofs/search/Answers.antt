-- `tray_record::search` meets its contract: the bytes of an address are compared one by one, and the first that differs goes on to the next slot.
use mathlib.Core.Path.{◌∙◌}
use borrow.Author.Rules.{rules}
use Rattle.bus.proofs.Laws.{differs, agrees, ended}
use Rattle.tray_record.proofs.Laws.{search_more}
use Rattle.tray_record.proofs.search.Goals as goal

pub slots-preserved : goal.slots-preserved
slots-preserved c = let a = c.args in
    let s = c.slots in
    let l = c.loop-j in (
      l.invariant.0,
      search_more a.commons a.address.now s.slot a.count c.slots-test.true _ (search rules) c.from.ensures
          (differs _ _ l.j (search rules) l.invariant.1 (search rules) c.if-own-j.true) ∙ s.invariant.1,
    )

pub loop-j-preserved : goal.loop-j-preserved
loop-j-preserved c = let l = c.loop-j in
    (l.invariant.0, agrees _ _ l.j (search rules) l.invariant.1 (search rules) c.if-own-j.false)

pub returns-after-loop-j : goal.returns-after-loop-j
returns-after-loop-j c = let a = c.args in
    let s = c.slots in
    let l = c.loop-j in
    search_more a.commons a.address.now s.slot a.count c.slots-test.true _ (search rules) c.from.ensures
    (ended _ _ l.j (search rules) l.invariant.1 (search rules)) ∙ s.invariant.1
