use mathlib.Core.Path.{sym, ◌∙◌}
use Rattle.state_bytes.proofs.TrayLaws.{sound_starts, sound_more, sound_fails, sound_ends}
use Rattle.state_bytes.proofs.sound_places.Goals as goal

pub loop-i-init : goal.loop-i-init
loop-i-init c = sound_starts c.args.bytes.now c.args.from c.args.n

pub loop-i-preserved : goal.loop-i-preserved
loop-i-preserved c = sound_more _ _ _ _ c.loop-i-test.true c.loop-i.invariant (sym c.sound_gauge.ensures ∙ c.if-not-sound_gauge.false)

pub returns-then-not-sound_gauge : goal.returns-then-not-sound_gauge
returns-then-not-sound_gauge c = sound_fails _ _ _ _ c.loop-i-test.true c.loop-i.invariant (sym c.sound_gauge.ensures ∙ c.if-not-sound_gauge.true)

pub returns : goal.returns
returns c = let last = c.loop-i in
    sound_ends _ _ _ last.i c.loop-i-test.false last.invariant
