use mathlib.Core.Path.{◌≡◌, refl, ap, ◌∙◌}
use Prim.Native.Nat.{◌+◌, ◌*◌}
use native.Mathlib.Omega.{arith}
use lib.ListN.{get_or}
use Rattle.state_bytes.specs.State.{gauge_layout}
use Rattle.state_bytes.specs.TrayState.{tray_at}
use Rattle.state_bytes.proofs.TrayLaws.{filled, filled_more, filled_all}
use Rattle.state_bytes.proofs.tray_at.Goals as goal

pub loop-i-init : goal.loop-i-init
unfolding filled
loop-i-init c = refl

pub loop-i-preserved : goal.loop-i-preserved
loop-i-preserved c = filled_more _ _ c.loop-i.i c.loop-i.invariant c.gauge_at-gauge.ensures

pub returns : goal.returns
unfolding tray_at
returns c = let b = c.args.bytes.now in
    let e : c.loop-i.i ≡ 8 = omega (arith, c.loop-i.auto.i-end, c.loop-i-test.false) in
    c.loop-i.invariant ∙ ap (filled _ _) e
    ∙ filled_all (get_or b 1 0) (λ j. gauge_layout.at b (3 + j * 170)) c.empty-tray.ensures.value c.flag_at.ensures
