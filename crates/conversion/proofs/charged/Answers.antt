use Rattle.std.proofs.Common.{sym, ◌∙◌}
use Rattle.conversion.proofs.Laws.{charged_counts, charged_stays}
use Rattle.conversion.proofs.charged.Goals as goal

pub returns-then-counts_cycles-clause-value : goal.returns-then-counts_cycles-clause-value
returns-then-counts_cycles-clause-value c =
    simp (c.advanced-cycles.ensures, c.of-capacity.ensures, c.requires.fall_value)
    (charged_counts c.args.meter _ c.args.stepped.charge (sym c.counts_cycles.ensures ∙ c.if-counts_cycles.true))

pub returns-else-counts_cycles-clause-value : goal.returns-else-counts_cycles-clause-value
returns-else-counts_cycles-clause-value c = charged_stays c.args.meter _ c.args.stepped.charge (sym c.counts_cycles.ensures ∙ c.if-counts_cycles.false)
