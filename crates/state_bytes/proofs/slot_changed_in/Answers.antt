use native.Mathlib.Omega.{arith}
use Rattle.state_bytes.proofs.TrayPlaces.{held_long, held_placed}
use Rattle.state_bytes.proofs.TrayActing.{slot_changes}
use Rattle.state_bytes.proofs.slot_changed_in.Goals as goal

pub changed_at-requires : goal.changed_at-requires
changed_at-requires c = held_placed c.args.state.now c.requires.state_value c.args.slot c.requires.slot_bound

pub bounds-state-2 : goal.bounds-state-2
bounds-state-2 c = omega (arith, held_long c.args.state.now c.requires.state_value, c.changed_at.auto.state)

pub returns : goal.returns
returns c = slot_changes c.args.state.now c.requires.state_value c.args.slot c.requires.slot_bound c.args.change c.changed_at.ensures
