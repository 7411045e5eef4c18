use Rattle.std.proofs.Common.{◌≡◌, ap, ◌∙◌, arith}
use Rattle.samples.specs.Samples.{sampled_of}
use Rattle.samples.proofs.Laws.{reached_more}
use Rattle.samples.proofs.quick.Goals as goal

pub loop-left-preserved : goal.loop-left-preserved
loop-left-preserved c =
    let l = c.loop-left in
    let k = c.reach-k in
    let e =
    reached_more l.meter c.stretch-meter.result c.args.raw l.left k.result l.invariant.kept k.ensures.value k.ensures.some k.ensures.fits
    c.stretch-meter.ensures.value in
    record { rest = e ∙ l.invariant.rest; kept = c.stretch-meter.ensures.kept }

pub returns-clause-value : goal.returns-clause-value
unfolding sampled_of
returns-clause-value c = let l = c.loop-left in
    let none : 0 ≡ l.left = omega arith in
    ap (sampled_of l.meter c.args.raw) none ∙ l.invariant.rest
