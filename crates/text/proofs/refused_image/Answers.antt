-- `text::refused_image` meets its contract.
use mathlib.Core.Path.{refl}
use mathlib.Core.Logic.{⊎_elim}
use borrow.Author.Tests.{eq-eqb, ne_eqb}
use Rattle.text.specs.Text.{refused_image}
use Rattle.text.proofs.refused_image.Goals as goal
use Rattle.text.proofs.refused_image.Goals.{then-kind-eq1, else-kind-eq1}

pub returns-then-kind-eq8 : goal.returns-then-kind-eq8
unfolding refused_image
returns-then-kind-eq8 c =
    ⊎_elim (λ e. rw (eq-eqb c.args.kind 1 e) refl) (λ e. rw (ne_eqb c.args.kind 1 e.0, eq-eqb c.args.kind 8 e.1) refl) c.if-kind-eq8.either

pub returns-else-kind-eq8 : goal.returns-else-kind-eq8
unfolding refused_image
returns-else-kind-eq8 c = elim c.if-kind-eq1.branch [
  | then-kind-eq1 w ↦ absurd (c.if-kind-eq8.false.0 w.if-kind-eq1.true)
  | else-kind-eq1 w ↦ rw (w.t-4-is, ne_eqb c.args.kind 1 c.if-kind-eq8.false.0, ne_eqb c.args.kind 8 c.if-kind-eq8.false.1) refl
]
