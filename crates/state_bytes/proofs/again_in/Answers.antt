use mathlib.Core.Path.{◌≡◌, refl, sym, ap, ◌∙◌}
use mathlib.Core.List.{List}
use Prim.Native.Nat.{◌≤◌}
use native.Mathlib.Omega.{arith}
use lib.ListN.{length, drop, length-drop}
use lib.Seq.{length-take-le}
use Rattle.slices.specs.Slices.{part}
use Rattle.state.specs.declared.Common.{Common}
use Rattle.std.specs.Prelude.{is_some}
use Rattle.tray_record.specs.Tray.{search_of}
use Rattle.tray_record.proofs.Fronts.{again_known, again_none, image_long}
use Rattle.state_bytes.specs.TrayState.{tray_at}
use Rattle.state_bytes.proofs.TrayPlaces.{held_good, held_long, count_read}
use Rattle.state_bytes.proofs.again_in.Goals as goal

pub commons_in-commons-requires : goal.commons_in-commons-requires
commons_in-commons-requires c = let long : length c.args.state.now ≡ 1363 = held_long c.args.state.now c.requires in
    long

pub bounds-state-1 : goal.bounds-state-1
bounds-state-1 c = let long : length c.args.state.now ≡ 1363 = held_long c.args.state.now c.requires in
    omega (arith, long)

pub slice_bounds-known-end : goal.slice_bounds-known-end
slice_bounds-known-end c = let address : 12 ≤ length c.args.bytes.now =
    omega (arith, image_long c.args.bytes.now (sym c.image_at.ensures ∙ c.if-image_at.true)) in
    address

pub known-requires : goal.known-requires
known-requires c = let bytes = c.args.bytes.now in
    let state = c.args.state.now in (
      omega (arith, count_read state, (held_good state c.requires).wf.few),
      length-take-le 8 (drop 4 bytes) (omega (arith, length-drop 4 bytes, image_long bytes (sym c.image_at.ensures ∙ c.if-image_at.true))),
    )

pub returns-then-image_at : goal.returns-then-image_at
unfolding tray_at
returns-then-image_at c = let state = c.args.state.now in
    let bytes = c.args.bytes.now in
    again_known (tray_at state) (held_good state c.requires).wf 0 bytes (sym c.image_at.ensures ∙ c.if-image_at.true)
    (c.known.ensures ∙ ap (λ (cs : List Common). is_some (search_of cs (tray_at state).count (part 8 bytes 4))) c.commons_in-commons.ensures)

pub returns : goal.returns
returns c = let state = c.args.state.now in
    again_none (tray_at state) (held_good state c.requires).wf 0 c.args.bytes.now (sym c.image_at.ensures ∙ c.if-image_at.false) refl
