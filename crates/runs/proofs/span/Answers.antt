use mathlib.Core.Path.{sym, ◌∙◌}
use native.Mathlib.Omega.{arith}
use Rattle.runs.proofs.Records.{whole_end}
use Rattle.runs.proofs.Wholes.{spanning, span_more, span_cut, span_full}
use Rattle.runs.proofs.span.Goals as goal

pub loop-init : goal.loop-init
loop-init c = spanning c.args.most c.args.bytes.now

pub returns-then-not-whole : goal.returns-then-not-whole
returns-then-not-whole c = span_cut c.loop.invariant c.loop-test.true (sym c.whole.ensures ∙ c.if-not-whole.true)

pub pair-requires : goal.pair-requires
pair-requires c = omega (arith, whole_end _ (sym c.whole.ensures ∙ c.if-not-whole.false))

pub overflow_add-at-in-loop : goal.overflow_add-at-in-loop
overflow_add-at-in-loop c = let next = span_more c.loop.invariant c.loop-test.true (sym c.whole.ensures ∙ c.if-not-whole.false) c.pair.ensures in
    omega (arith, next.within)

pub loop-preserved : goal.loop-preserved
loop-preserved c =
    span_more c.loop.invariant c.loop-test.true (sym c.whole.ensures ∙ c.if-not-whole.false) c.pair.ensures

pub returns : goal.returns
returns c = span_full c.loop.invariant c.loop-test.false
