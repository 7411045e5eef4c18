use Rattle.std.proofs.Common.{ap, ◌∙◌, arith}
use Rattle.bus.specs.declared.Command.TheVariants.{Write}
use Rattle.gauge.specs.Gauge.{written_of}
use Rattle.gauge.proofs.Acting.{ran_by_lem, bytes_after}
use Rattle.std.proofs.lemmas.Grind.{common_steps}
use Rattle.gauge.specs.Act.{ran_of}
use Rattle.gauge.proofs.Gauge.ran.Goals as goal

pub returns-in-Write-clause-value : goal.returns-in-Write-clause-value
returns-in-Write-clause-value c = let a = c.args in
    ran_by_lem Write a.self _ a.transaction a.master.now _ c.in-Write.is c.from-a.ensures
    (c.written.ensures.value ∙ ap (written_of a.self _) (bytes_after a.master.now _ a.transaction.from _ c.from.ensures c.min-from.ensures))

pub returns-in-Copy-clause-value : goal.returns-in-Copy-clause-value
unfolding ran_of
returns-in-Copy-clause-value c = grind (arith, common_steps)

pub returns-in-Recall-clause-value : goal.returns-in-Recall-clause-value
unfolding ran_of
returns-in-Recall-clause-value c = grind (arith, common_steps)

pub returns-in-Lock-clause-value : goal.returns-in-Lock-clause-value
unfolding ran_of
returns-in-Lock-clause-value c = grind (arith, common_steps)

pub returns-in-Read-clause-value : goal.returns-in-Read-clause-value
unfolding ran_of
returns-in-Read-clause-value c = grind (arith, common_steps)
