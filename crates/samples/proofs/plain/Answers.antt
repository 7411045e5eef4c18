use Rattle.std.proofs.Common.{refl, sym, ap, ◌∙◌, arith}
use Rattle.state.specs.declared.Meter.{Meter}
use Rattle.conversion.specs.Conversion.{convert_of}
use Rattle.samples.specs.Samples.{sampled_of}
use Rattle.samples.proofs.Laws.{sampled_more}
use Rattle.samples.proofs.plain.Goals as goal

pub loop-init : goal.loop-init
unfolding sampled_of
loop-init c = record { reached = refl; kept = c.requires }

pub loop-preserved : goal.loop-preserved
loop-preserved c = let a = c.args in
    let e = c.convert-meter.ensures.value ∙ ap (λ (x : Meter). convert_of x a.raw) c.loop.invariant.reached in
    record { reached = e ∙ sym (sampled_more a.meter a.raw c.loop.counter); kept = c.convert-meter.ensures.kept }

pub returns-clause-value : goal.returns-clause-value
returns-clause-value c = let a = c.args in
    c.loop.invariant.reached ∙ ap (sampled_of a.meter a.raw) (omega arith)
