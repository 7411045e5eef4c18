use Rattle.std.proofs.Common.{sym, subst, arith}
use Rattle.std.proofs.lemmas.Grind.{common_steps}
use Rattle.samples.specs.Stretch.{flowed_over, flow_over}
use Rattle.conversion.specs.Conversion.{renewed_of, settled_of}
use Rattle.state.specs.State.{MeterWf}
use Rattle.samples.proofs.Laws.{flowed_over_wf}
use borrow.Author.Rules.{rules}
use Rattle.samples.proofs.flowed_over.Goals as goal

pub returns-clause-value : goal.returns-clause-value
unfolding flowed_over flow_over renewed_of settled_of
returns-clause-value c = grind (arith, common_steps)

pub returns-clause-kept : goal.returns-clause-kept
returns-clause-kept c =
    let a = c.args in
    subst MeterWf (sym (returns-clause-value c)) (flowed_over_wf a.meter a.limits a.full40 a.c a.k (search rules) (search rules) c.requires)
