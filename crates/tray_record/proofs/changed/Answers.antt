use mathlib.Core.Path.{ap, ◌∙◌}
use native.Mathlib.Omega.{arith}
use Rattle.tray_record.specs.declared.Span.{Span}
use Rattle.tray_record.proofs.Acting.{changing_pack, changing_more, changing_end}
use Rattle.tray_record.proofs.changed.Goals as goal

pub loop-i-preserved : goal.loop-i-preserved
loop-i-preserved c = let l = c.loop-i in
    let x = c.ran-after.ensures in
    let stops = c.from-i-end.ensures ∙ ap (λ (p : Span). p.stop) c.reached-span.ensures.value in
    changing_more _ _ l.invariant c.requires.transaction_value (omega (arith, stops, c.loop-i-test.true))
    (changing_pack _ _ l.invariant _ _ _ (omega (arith, c.loop-i-test.true, c.from-i-end.ensures, c.reached-span.ensures.inside.1, c.requires.tray_wf.few)))
    x.value x.kept

pub returns-clause-value : goal.returns-clause-value
returns-clause-value c = changing_end _ _ _ c.loop-i.invariant
    (omega (arith, c.from-i-end.ensures, ap (λ (p : Span). p.stop) c.reached-span.ensures.value, c.loop-i-test.false))
