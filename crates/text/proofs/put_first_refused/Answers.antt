use mathlib.Core.Path.{sym, ◌∙◌}
use native.Mathlib.Omega.{arith}
use Rattle.text.proofs.Refused.{first_later, first_found, first_none}
use borrow.Author.Rules.{rules}
use Rattle.text.proofs.put_first_refused.Goals as goal

pub put_refused_image-requires : goal.put_refused_image-requires
put_refused_image-requires c = record { number_bound = omega arith; used_in_bounds = rw c.loop-i.invariant.0 (search rules) }

pub returns-then-refused_image : goal.returns-then-refused_image
returns-then-refused_image c = first_found c.args.codes.now c.loop-i.i c.loop-i.invariant.0
    c.loop-i.invariant.1 c.loop-i-test.true
    (sym c.refused_image.ensures ∙ c.if-refused_image.true)
    c.put_refused_image.ensures

pub loop-i-preserved : goal.loop-i-preserved
loop-i-preserved c = (
  c.loop-i.invariant.0,
  sym (first_later c.args.codes.now c.loop-i.i c.loop-i-test.true
      (sym c.refused_image.ensures ∙ c.if-refused_image.false)) ∙ c.loop-i.invariant.1,
)

pub returns : goal.returns
returns c = let l = c.loop-i in
    first_none c.args.codes.now l.i l.invariant.0 l.invariant.1 c.loop-i-test.false
