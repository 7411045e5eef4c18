use Rattle.std.proofs.Common.{sym, arith}
use Rattle.gauge.proofs.Acting.{act_idle}
use Rattle.std.proofs.lemmas.Grind.{common_steps}
use Rattle.gauge.specs.Act.{act_of, reply_of}
use Rattle.gauge.proofs.Gauge.transact.Goals as goal

pub returns-then-can_change-clause-value : goal.returns-then-can_change-clause-value
unfolding act_of reply_of
returns-then-can_change-clause-value c = grind (arith, common_steps)

pub returns-then-can_change-clause-replied : goal.returns-then-can_change-clause-replied
unfolding act_of reply_of
returns-then-can_change-clause-replied c = grind (arith, common_steps)

pub returns-else-chosen-clause-value : goal.returns-else-chosen-clause-value
returns-else-chosen-clause-value c = let a = c.args in
    sym (act_idle a.self a.transaction a.master.now (grind (arith, common_steps)))

pub returns-else-chosen-clause-replied : goal.returns-else-chosen-clause-replied
unfolding act_of reply_of
returns-else-chosen-clause-replied c = grind (arith, common_steps)
