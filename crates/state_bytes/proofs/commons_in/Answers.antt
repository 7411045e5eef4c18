use mathlib.Core.Path.{◌≡◌, ap, ◌∙◌}
use native.Mathlib.Omega.{arith}
use Rattle.state_bytes.proofs.TrayPlaces.{with_first, first_one, first_more, first_all}
use Rattle.state_bytes.proofs.commons_in.Goals as goal

pub loop-i-init : goal.loop-i-init
loop-i-init c = first_one 7 c.common_at-first.ensures

pub loop-i-preserved : goal.loop-i-preserved
loop-i-preserved c = first_more _ _ c.loop-i.i c.loop-i.invariant c.common_at.ensures

pub returns : goal.returns
returns c = let e : c.loop-i.i ≡ 8 = omega (arith, c.loop-i.auto.i-end, c.loop-i-test.false) in
    c.loop-i.invariant ∙ ap (with_first _ _) e ∙ first_all _ c.common_at-first.result
