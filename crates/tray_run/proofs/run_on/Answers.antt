use mathlib.Core.Path.{◌≡◌, refl, sym, ap, ◌∙◌}
use Prim.Native.Nat.{◌+◌, ◌-◌, ◌<◌}
use native.Mathlib.Omega.{arith}
use lib.Dec.{eqb}
use lib.ListN.{length}
use Rattle.std.specs.Prelude.{Some}
use Rattle.slices.specs.Slices.{part}
use Rattle.slices.proofs.Laws.{part_rest}
use Rattle.record.specs.declared.Event.TheVariants.{Change}
use Rattle.runs.proofs.Going.{going_held, going_more}
use Rattle.runs.proofs.Fronts.{Front, front, ran}
use Rattle.runs.proofs.Turns.{master_starts, room_left, front_fits, front_within, whole_more, ended_cut}
use Rattle.tray_record.specs.Tray.{no_gauge, of_tray, tray_did, TrayWf}
use Rattle.tray_record.proofs.Laws.{pack_is, pack_wf}
use Rattle.tray_record.proofs.Answering.{answering_more}
use Rattle.tray_record.proofs.Hearing.{tray_replying}
use Rattle.tray_record.proofs.Fronts.{again_at, again_known, again_none, tick_read, front_read, image_long}
use Rattle.tray_record.proofs.Taking.{did_same, ran_taking}
use Rattle.tray_run.proofs.Turns.{did_fits, Turn, reading_by, conversion_by, sample_by}
use Rattle.tray_run.proofs.Turns.{turn_idle, turn_image, turn_meter, turn_powered, Transacted, transacted_changed, transacted_read, turn_transact}
use Rattle.tray_run.proofs.run_on.Goals as goal
use Rattle.tray_run.proofs.run_on.Goals.{In-loop-scratch, After-front-first}
use Rattle.tray_run.proofs.run_on.Goals.{then-image_at, else-image_at}
use Rattle.tray_run.proofs.run_on.Goals.{in-None, in-Some+in-Image, in-Some+in-Change+in-Reading, in-Some+in-Change+in-Conversion}
use Rattle.tray_run.proofs.run_on.Goals.{in-Some+in-Change+in-Sample, in-Some+in-Change+in-PowerOn, in-Some+in-Transact}
use Rattle.tray_run.proofs.run_on.Goals.{then-changing, else-changing+else-loop-i-test}

-- some bytes are left where the loop goes on
more : (c : In-loop-scratch) → c.loop-scratch.at < length c.args.bytes.now
more c = whole_more c.args.bytes.now c.loop-scratch.at (sym c.whole.ensures ∙ c.loop-scratch-test.true)

-- what was read of the record at the front
at_front : (c : After-front-first) → let l = c.loop-scratch in let s = c.args.bytes.now in
    Front of_tray l.tray (length l.room - l.used) (part (length s - l.at) s l.at) c.front-first.result
at_front c =
    let l = c.loop-scratch in
    let s = c.args.bytes.now in
    let n = length l.room - l.used in
    let rest = part (length s - l.at) s l.at in
    let wf = l.invariant.0.wf in
    let image = sym c.image_at.ensures in
    let again : c.if-image_at.again ≡ again_at l.tray wf n rest =
    elim c.if-image_at.branch [
      | then-image_at w ↦ again_known l.tray wf n rest (image ∙ w.if-image_at.true) (w.again-is ∙ w.known-again.ensures)
      | else-image_at w ↦ again_none l.tray wf n rest (image ∙ w.if-image_at.false) w.again-is
    ] in
    front of_tray tray_replying _ _ _
    (front_read l.tray wf n rest again (tick_read l.tray wf n rest _ c.slot-slot.ensures.value c.slot-slot.ensures.small) c.front-first.ensures)

pub slice_bounds-known-end : goal.slice_bounds-known-end
slice_bounds-known-end c = omega (
  arith,
  image_long (part (length c.args.bytes.now - c.loop-scratch.at) c.args.bytes.now c.loop-scratch.at)
      (sym c.image_at.ensures ∙ c.if-image_at.true),
)

pub overflow_add-at : goal.overflow_add-at
overflow_add-at c = omega (
  arith,
  (front_within of_tray tray_did did_same TrayWf c.loop-scratch.invariant.0 (more (goal.at.overflow_add-at c).In-loop-scratch)
      (at_front (goal.at.overflow_add-at c).After-front-first)).0,
  c.loop-scratch.invariant.0.going.at_fits,
  c.requires.bytes_len_bound,
)

pub slice_bounds-pack_joined-count : goal.slice_bounds-pack_joined-count
slice_bounds-pack_joined-count c =
    omega (arith, (ran of_tray (at_front (goal.at.slice_bounds-pack_joined-count c).After-front-first) (c.in-Some.is ∙ ap Some c.in-Image.is)).head)

pub slice_bounds-pack_joined-start : goal.slice_bounds-pack_joined-start
slice_bounds-pack_joined-start c =
    omega (arith, (ran of_tray (at_front (goal.at.slice_bounds-pack_joined-start c).After-front-first) (c.in-Some.is ∙ ap Some c.in-Image.is)).head)

pub slice_bounds-pack_joined-end : goal.slice_bounds-pack_joined-end
slice_bounds-pack_joined-end c =
    omega (
      arith,
      front_fits of_tray tray_did did_same TrayWf c.loop-scratch.invariant.0 (more (goal.at.slice_bounds-pack_joined-end c).In-loop-scratch)
          (at_front (goal.at.slice_bounds-pack_joined-end c).After-front-first),
    )

pub pack_joined-tray-requires : goal.pack_joined-tray-requires
pack_joined-tray-requires c = let x = ran of_tray (at_front (goal.at.pack_joined-tray-requires c).After-front-first) (c.in-Some.is ∙ ap Some c.in-Image.is) in
    (c.loop-scratch.invariant.0.wf, (ran_taking x).1, (ran_taking x).2)

pub slice_bounds-master-count : goal.slice_bounds-master-count
slice_bounds-master-count c = let x =
    (ran of_tray (at_front (goal.at.slice_bounds-master-count c).After-front-first) (c.in-Some.is ∙ ap Some c.in-Transact.is)) in
    omega (arith, master_starts of_tray x (ran_taking x).1)

pub slice_bounds-master-start : goal.slice_bounds-master-start
slice_bounds-master-start c = let x =
    (ran of_tray (at_front (goal.at.slice_bounds-master-start c).After-front-first) (c.in-Some.is ∙ ap Some c.in-Transact.is)) in
    omega (arith, master_starts of_tray x (ran_taking x).1)

pub slice_bounds-master-end : goal.slice_bounds-master-end
slice_bounds-master-end c =
    omega (
      arith,
      front_fits of_tray tray_did did_same TrayWf c.loop-scratch.invariant.0 (more (goal.at.slice_bounds-master-end c).In-loop-scratch)
          (at_front (goal.at.slice_bounds-master-end c).After-front-first),
    )

pub unheard-requires : goal.unheard-requires
unheard-requires c = omega (
  arith,
  (ran of_tray (at_front (goal.at.unheard-requires c).After-front-first) (c.in-Some.is ∙ ap Some c.in-Transact.is)).held,
  room_left c.loop-scratch.room c.loop-scratch.used,
)

pub heard-requires : goal.heard-requires
heard-requires c = let l = c.loop-scratch in
    let k = c.loop-i in
    let x = (ran of_tray (at_front (goal.at.heard-requires c).After-front-first) (c.in-Some.is ∙ ap Some c.in-Transact.is)) in
    record {
      meter_wf = (pack_wf l.tray k.i no_gauge.common no_gauge.label _ l.invariant.0.wf (omega (
        arith,
        c.loop-i-test.true,
        c.from-stop.ensures,
        c.reached-span.ensures.inside.1,
        c.loop-scratch.invariant.0.wf.few,
      ))).meter;
      count_in_scratch = omega (arith, (ran_taking x).1.few, k.invariant.0);
      count_in_room = omega (arith, x.held, room_left l.room l.used, k.invariant.1);
    }

pub loop-i-preserved : goal.loop-i-preserved
loop-i-preserved c = let l = c.loop-scratch in
    let k = c.loop-i in
    let x = c.heard in (
      x.auto.scratch ∙ k.invariant.0,
      x.auto.room ∙ k.invariant.1,
      answering_more _ l.tray k.invariant.2 (omega (arith, c.loop-i-test.true, c.from-stop.ensures))
          (pack_is l.tray k.i _ _ _ l.invariant.0.wf (omega (
            arith,
            c.loop-i-test.true,
            c.from-stop.ensures,
            c.reached-span.ensures.inside.1,
            c.loop-scratch.invariant.0.wf.few,
          )))
          (ap (eqb k.i) c.from.ensures) x.ensures.room_after x.ensures.bytes,
    )

pub unheard-requires-else-changing : goal.unheard-requires-else-changing
unheard-requires-else-changing c =
    omega (
      arith,
      (ran of_tray (at_front (goal.at.unheard-requires-else-changing c).After-front-first) (c.in-Some.is ∙ ap Some c.in-Transact.is)).held,
      room_left c.loop-scratch.room c.loop-scratch.used,
      c.loop-i.invariant.1,
    )

pub offset_bounds-answers-lines : goal.offset_bounds-answers-lines
offset_bounds-answers-lines c = omega (
  arith,
  c.loop-scratch.invariant.0.going.slots (more (goal.at.offset_bounds-answers-lines c).In-loop-scratch),
  c.loop-scratch.invariant.0.going.at_fits,
  c.requires.bytes_len_bound,
)

pub overflow_add-lines : goal.overflow_add-lines
overflow_add-lines c = omega (
  arith,
  c.loop-scratch.invariant.0.going.slots (more (goal.at.overflow_add-lines c).In-loop-scratch),
  c.loop-scratch.invariant.0.going.at_fits,
  c.requires.bytes_len_bound,
)

pub bounds-answers-lines : goal.bounds-answers-lines
bounds-answers-lines c =
    going_held tray_did _ c.loop-scratch.invariant.0.going (more (goal.at.bounds-answers-lines c).In-loop-scratch) c.requires.bytes_in_bounds

pub loop-scratch-smaller : goal.loop-scratch-smaller
loop-scratch-smaller c = omega (
  arith,
  front_within of_tray tray_did did_same TrayWf c.loop-scratch.invariant.0 (more (goal.at.loop-scratch-smaller c).In-loop-scratch)
      (at_front (goal.at.loop-scratch-smaller c).After-front-first),
  c.loop-scratch.invariant.0.going.at_fits,
)

pub loop-scratch-preserved : goal.loop-scratch-preserved
loop-scratch-preserved c =
    let l = c.loop-scratch in
    let s = c.args.bytes.now in
    let m = c.match-first in
    let g = l.invariant.0 in
    let sized = l.invariant.1 in
    let f = at_front (goal.at.loop-scratch-preserved c).After-front-first in
    let rest = part (length s - l.at) s l.at in
    let slot = c.slot-slot.ensures.value in
    let code = c.code-line.ensures in
    let turned : Turn l.tray l.room l.used rest m.tray m.room m.used m.line =
    elim m.branch [
      | in-None w ↦ turn_idle f g.wf w.in-None.is w.tray-is w.room-is w.used-is (w.line-is ∙ code)
      | in-Some+in-Image w ↦
          turn_image f g.wf (ran of_tray f (w.in-Some.is ∙ ap Some w.in-Image.is)) w.pack_joined-tray.ensures.kept w.pack_joined-tray.ensures.value
          w.tray-is w.room-is w.used-is (w.line-is ∙ code)
      | in-Some+in-Change+in-Reading w ↦
          turn_meter f g.wf (ran of_tray f (w.in-Some.is ∙ ap Some (w.in-Change.is ∙ ap Change w.in-Reading.is)))
          slot _ (reading_by _ _) _ w.read-next.ensures.kept w.read-next.ensures.value w.tray-is w.room-is w.used-is (w.line-is ∙ code)
      | in-Some+in-Change+in-Conversion w ↦
          turn_meter f g.wf (ran of_tray f (w.in-Some.is ∙ ap Some (w.in-Change.is ∙ ap Change w.in-Conversion.is)))
          slot _ (conversion_by _) _ w.convert-next.ensures.kept w.convert-next.ensures.value w.tray-is w.room-is w.used-is (w.line-is ∙ code)
      | in-Some+in-Change+in-Sample w ↦
          turn_meter f g.wf (ran of_tray f (w.in-Some.is ∙ ap Some (w.in-Change.is ∙ ap Change w.in-Sample.is)))
          slot _ (sample_by _ _) _ w.sample-next.ensures.kept w.sample-next.ensures.value w.tray-is w.room-is w.used-is (w.line-is ∙ code)
      | in-Some+in-Change+in-PowerOn w ↦
          turn_powered f g.wf (ran of_tray f (w.in-Some.is ∙ ap Some (w.in-Change.is ∙ ap Change w.in-PowerOn.is)))
          slot refl _ _ w.restarted-next.ensures.kept w.powered-label.ensures w.restarted-next.ensures.value w.tray-is w.room-is w.used-is (w.line-is ∙ code)
      | in-Some+in-Transact w ↦
          let t = w.in-Transact.transaction in
          let end = c.front-first.result.used in
          let left : Transacted l.tray l.room l.used t (part (end - (4 + t.start)) rest (4 + t.start)) w.if-changing.tray w.if-changing.room =
          elim w.if-changing.branch [
            | then-changing o ↦
                transacted_changed (sym w.changing.ensures ∙ o.if-changing.true) o.changed-tray.ensures.kept o.changed-tray.ensures.value o.unheard.ensures
                o.tray-is o.room-is
            | else-changing+else-loop-i-test o ↦
                transacted_read g.wf (sym w.changing.ensures ∙ o.if-changing.false) o.reached-span.ensures.value o.from-stop.ensures
                o.loop-i.invariant.2 o.loop-i-test.false o.unheard-else-changing.ensures o.tray-is o.room-is
          ] in
          turn_transact f g.wf (ran of_tray f (w.in-Some.is ∙ ap Some w.in-Transact.is)) (omega (arith, g.going.used_fits, g.going.same_room))
          left w.tray-is w.room-is w.used-is (w.line-is ∙ w.code-line-in-Transact.ensures)
    ] in
    let kept : length m.scratch ≡ 256 =
    elim m.branch [
      | in-None w ↦ ap length w.scratch-is ∙ sized
      | in-Some+in-Image w ↦ ap length w.scratch-is ∙ sized
      | in-Some+in-Change+in-Reading w ↦ ap length w.scratch-is ∙ sized
      | in-Some+in-Change+in-Conversion w ↦ ap length w.scratch-is ∙ sized
      | in-Some+in-Change+in-Sample w ↦ ap length w.scratch-is ∙ sized
      | in-Some+in-Change+in-PowerOn w ↦ ap length w.scratch-is ∙ sized
      | in-Some+in-Transact w ↦
          let left : length w.if-changing.scratch ≡ 256 =
          elim w.if-changing.branch [
            | then-changing o ↦ ap length o.scratch-is ∙ sized
            | else-changing+else-loop-i-test o ↦ ap length o.scratch-is ∙ o.loop-i.invariant.0
          ] in
          ap length w.scratch-is ∙ left
    ] in (
      record {
        going = going_more tray_did _ g.going (more (goal.at.loop-scratch-preserved c).In-loop-scratch) did_fits (part_rest s l.at) f.used turned.left;
        wf = turned.kept;
      },
      kept,
    )

pub bounds-answers-lines-then-at-bytes : goal.bounds-answers-lines-then-at-bytes
bounds-answers-lines-then-at-bytes c = going_held tray_did _ c.loop-scratch.invariant.0.going c.if-at-bytes.true c.requires.bytes_in_bounds

pub returns-then-at-bytes : goal.returns-then-at-bytes
returns-then-at-bytes c = record {
  running = ended_cut of_tray tray_did did_same TrayWf did_fits tray_replying c.loop-scratch.invariant.0 c.if-at-bytes.true
      (sym c.whole.ensures ∙ c.loop-scratch-test.false) c.code.ensures;
  kept = c.loop-scratch.invariant.0.wf;
}
