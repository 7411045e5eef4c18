use mathlib.Core.Path.{◌≡◌, refl, sym, ◌∙◌}
use mathlib.Core.Bool.{false}
use mathlib.Core.Logic.{⊎_elim}
use borrow.Author.Tests.{eq-eqb, ne_eqb}
use lib.Dec.{eqb}
use Rattle.state_bytes.specs.State.{uncounted_by}
use Rattle.state_bytes.proofs.uncounted.Goals as goal
use Rattle.state_bytes.proofs.uncounted.Goals.{then-cycles-eq0, else-cycles-eq0}

pub returns-then-counts_cycles : goal.returns-then-counts_cycles
unfolding uncounted_by
returns-then-counts_cycles c = rw (sym c.counts_cycles.ensures ∙ c.if-counts_cycles.true) refl

pub returns-then-cycles-eq0-2 : goal.returns-then-cycles-eq0-2
unfolding uncounted_by
returns-then-cycles-eq0-2 c =
    rw (
      sym c.counts_cycles.ensures ∙ c.if-counts_cycles.false,
      eq-eqb c.args.cycles.count 0 c.if-cycles-eq0-2.true.0,
      eq-eqb c.args.cycles.rest 0 c.if-cycles-eq0-2.true.1,
    )
    refl

pub returns-else-cycles-eq0-2 : goal.returns-else-cycles-eq0-2
unfolding uncounted_by
returns-else-cycles-eq0-2 c =
    let counts_none = sym c.counts_cycles.ensures ∙ c.if-counts_cycles.false in
    elim c.if-cycles-eq0.branch [
      | then-cycles-eq0 w ↦
          let rest : eqb c.args.cycles.rest 0 ≡ false =
          ⊎_elim (λ h. ne_eqb c.args.cycles.rest 0 h.1) (λ h. absurd (h w.if-cycles-eq0.true)) c.if-cycles-eq0-2.either in
          w.t-6-is ∙ rw (counts_none, eq-eqb c.args.cycles.count 0 w.if-cycles-eq0.true, rest) refl
      | else-cycles-eq0 w ↦ w.t-6-is ∙ rw (counts_none, ne_eqb c.args.cycles.count 0 w.if-cycles-eq0.false) refl
    ]
