-- `hex_out::put_image_refused` meets its contract.
use mathlib.Core.Path.{sym, ap, ◌∙◌}
use borrow.Author.Tests.{eq-eqb, ne_eqb}
use Rattle.record.specs.Record.{taken_number}
use Rattle.hex_out.specs.HexOut.{refused_side_words}
use Rattle.hex_out.proofs.put_image_refused.Goals as goal

pub returns-then-first-eq0 : goal.returns-then-first-eq0
unfolding refused_side_words
returns-then-first-eq0 c = rw (
  eq-eqb _ _ (sym (c.taken_number-first.ensures ∙ ap taken_number c.judged.ensures)
      ∙ c.if-first-eq0.true),
  sym (c.taken_number-second.ensures ∙ ap taken_number c.judged-then-first-eq0.ensures),
)
    c.put_side.ensures

pub returns : goal.returns
unfolding refused_side_words
returns c = rw (
  ne_eqb _ _ (λ e. c.if-first-eq0.false
      (c.taken_number-first.ensures ∙ ap taken_number c.judged.ensures ∙ e)),
  sym (c.taken_number-first.ensures ∙ ap taken_number c.judged.ensures),
)
    c.put_side-2.ensures
