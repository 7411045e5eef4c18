use mathlib.Core.Path.{◌≡◌, ap, ◌∙◌}
use Prim.Native.Nat.{ℕ}
use native.Mathlib.Omega.{arith}
use lib.ListN.{length}
use Rattle.tray_record.specs.Tray.{pack_of}
use Rattle.tray_record.proofs.Fronts.{front_read}
use Rattle.state_bytes.specs.TrayState.{tray_at}
use Rattle.state_bytes.proofs.TrayPlaces.{held_good, held_long, held_tick}
use Rattle.state_bytes.proofs.tray_asked_in.Goals as goal

pub tick_at-last-requires : goal.tick_at-last-requires
tick_at-last-requires c = let long : length c.args.state.now ≡ 1363 = held_long c.args.state.now c.requires.state_value in
    omega (arith, long, c.requires.slot_value.1)

pub bounds-state-2 : goal.bounds-state-2
bounds-state-2 c = let long : length c.args.state.now ≡ 1363 = held_long c.args.state.now c.requires.state_value in
    omega (arith, long)

pub bounds-state-1 : goal.bounds-state-1
bounds-state-1 c = omega (arith, held_long c.args.state.now c.requires.state_value)

pub returns : goal.returns
unfolding tray_at
returns c = let state = c.args.state.now in
    let slot = c.requires.slot_value in
    let tick = c.tick_at-last.ensures ∙ held_tick state c.requires.state_value c.args.slot slot.1
    ∙ ap (λ (i : ℕ). (pack_of (tray_at state) i).meter.flow.tick) slot.0 in
    front_read (tray_at state) (held_good state c.requires.state_value).wf c.args.room c.args.bytes.now c.again_in-again.ensures
    tick c.front.ensures
