use Rattle.std.proofs.Common.{sym, subst, arith}
use Rattle.std.proofs.lemmas.Grind.{common_steps}
use Rattle.conversion.specs.Conversion.{flowed_of, renewed_of, settled_of}
use Rattle.state.specs.State.{MeterWf}
use Rattle.conversion.proofs.Laws.{flowed_wf}
use borrow.Author.Rules.{rules}
use Rattle.conversion.proofs.flowed.Goals as goal

pub returns-clause-value : goal.returns-clause-value
unfolding flowed_of renewed_of settled_of
returns-clause-value c = grind (arith, common_steps)

pub returns-clause-kept : goal.returns-clause-kept
returns-clause-kept c =
    let a = c.args in
    subst MeterWf (sym (returns-clause-value c)) (flowed_wf a.meter _ _ a.c (λ e. grind (arith, common_steps)) (search rules) c.requires)
