use mathlib.Core.Path.{◌≡◌, ◌∙◌}
use Prim.Native.Nat.{◌<◌}
use native.Mathlib.Omega.{arith}
use lib.ListN.{length, get_or}
use Rattle.state_bytes.proofs.TrayPlaces.{held_long, count_read}
use Rattle.state_bytes.proofs.TrayActing.{joins_count, joins}
use Rattle.state_bytes.proofs.joined_in.Goals as goal

pub bounds-state-1 : goal.bounds-state-1
bounds-state-1 c = let long : length c.args.state.now ≡ 1363 = held_long c.args.state.now c.requires.state_value in
    omega (arith, long)

pub gauge_out-requires : goal.gauge_out-requires
gauge_out-requires c = let long : length c.args.state.now ≡ 1363 = held_long c.args.state.now c.requires.state_value in
    omega (arith, long, c.from-n.ensures, count_read c.args.state.now, c.requires.state_bound.0)

pub bounds-state-1-2 : goal.bounds-state-1-2
bounds-state-1-2 c = let long : length c.args.state.now ≡ 1363 = held_long c.args.state.now c.requires.state_value in
    omega (arith, long, c.gauge_out.auto.room)

pub overflow_add-state : goal.overflow_add-state
overflow_add-state c = let few : get_or c.gauge_out.new.room 1 0 < 8 = let state = c.args.state.now in
    omega (
      arith,
      c.requires.state_bound.0,
      joins_count state c.requires.state_value c.args.profile c.args.image.now
          (c.from-n.ensures ∙ count_read state) c.requires.state_bound.0 c.requires.state_bound.1 c.image_in-gauge.ensures.value
          c.gauge_out.ensures,
    ) in
    omega (arith, few)

pub bounds-state-1-3 : goal.bounds-state-1-3
bounds-state-1-3 c = let long : length c.args.state.now ≡ 1363 = held_long c.args.state.now c.requires.state_value in
    omega (arith, long, c.gauge_out.auto.room)

pub returns : goal.returns
returns c = let state = c.args.state.now in
    joins state c.requires.state_value c.args.profile c.args.image.now (c.from-n.ensures ∙ count_read state) c.requires.state_bound.0
    c.requires.state_bound.1 c.image_in-gauge.ensures.value c.gauge_out.ensures c.image_in-gauge.ensures.kept
