use mathlib.Core.Path.{refl}
use native.Mathlib.Omega.{arith}
use Rattle.state_bytes.proofs.TrayLaws.{out_all, out_more}
use Rattle.state_bytes.proofs.places_out.Goals as goal

pub loop-i-init : goal.loop-i-init
loop-i-init c = record { few = omega arith; stored = record { sized = refl; written = refl } }

pub loop-i-preserved : goal.loop-i-preserved
loop-i-preserved c = out_more c.loop-i.invariant c.loop-i-test.true c.eight_places.ensures _ _ _ c.gauge_out.ensures

pub returns : goal.returns
returns c = out_all c.loop-i.invariant c.loop-i-test.false
