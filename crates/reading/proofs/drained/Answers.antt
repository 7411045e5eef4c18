use Rattle.std.proofs.Common.{sym, subst, arith}
use borrow.Author.Rules.{rules}
use Rattle.state.specs.State.{ChargeWf}
use Rattle.reading.proofs.Laws.{drained_wf}
use Rattle.std.proofs.lemmas.Grind.{common_steps}
use Rattle.reading.specs.Reading.{drained_of}
use Rattle.reading.proofs.drained.Goals as goal

pub returns-clause-value : goal.returns-clause-value
unfolding drained_of
returns-clause-value c = grind (arith, common_steps)

pub returns-clause-kept : goal.returns-clause-kept
returns-clause-kept c =
    subst ChargeWf (sym (returns-clause-value c))
    (drained_wf c.args.meter c.args.limits c.args.full40 c.args.seen (search rules) c.requires.seen_wf c.requires.charge_wf)
