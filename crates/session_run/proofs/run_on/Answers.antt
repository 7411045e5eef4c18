use mathlib.Core.Path.{refl, sym, ap, ◌∙◌}
use Prim.Native.Nat.{◌-◌}
use native.Mathlib.Omega.{arith}
use lib.ListN.{length, length-set}
use Rattle.std.specs.Prelude.{Some}
use Rattle.slices.specs.Slices.{part}
use Rattle.slices.proofs.Laws.{part_rest}
use Rattle.record.specs.declared.Event.TheVariants.{Change}
use Rattle.runs.proofs.Going.{going_start, going_end, going_held, going_more}
use Rattle.runs.specs.declared.Session.{Session}
use Rattle.runs.specs.SessionRecord.{SessionWf, of_session, did_of}
use Rattle.runs.proofs.AnyRecord.{did_fits, session_replying}
use Rattle.runs.proofs.Fronts.{Front, front, ran}
use Rattle.runs.proofs.Turns.{master_starts, room_left, front_fits, front_within, whole_more, ended_cut}
use Rattle.session_run.proofs.Turns.{did_same, Turn, ran_taking, turn_idle, turn_silent, turn_reply}
use Rattle.session_run.proofs.run_on.Goals as goal
use Rattle.session_run.proofs.run_on.Goals.{in-None, in-Some+in-Image, in-Some+in-Change+in-Reading, in-Some+in-Change+in-Conversion}
use Rattle.session_run.proofs.run_on.Goals.{in-Some+in-Change+in-Sample, in-Some+in-Change+in-PowerOn, in-Some+in-Transact}

pub loop-rest-init : goal.loop-rest-init
loop-rest-init c = record { going = going_start did_of _ _ _ _; wf = record { gauge = c.requires.session_wf.gauge } }

pub slice_bounds-whole-count : goal.slice_bounds-whole-count
slice_bounds-whole-count c = omega (arith, c.loop-rest.invariant.going.at_fits)

pub slice_bounds-whole-start : goal.slice_bounds-whole-start
slice_bounds-whole-start c = omega (arith, c.loop-rest.invariant.going.at_fits)

pub slice_bounds-whole-end : goal.slice_bounds-whole-end
slice_bounds-whole-end c = omega (arith, c.loop-rest.invariant.going.at_fits)

pub slice_bounds-rest-count : goal.slice_bounds-rest-count
slice_bounds-rest-count c = omega (arith, c.loop-rest.invariant.going.at_fits)

pub slice_bounds-rest-start : goal.slice_bounds-rest-start
slice_bounds-rest-start c = omega (arith, c.loop-rest.invariant.going.at_fits)

pub slice_bounds-rest-end : goal.slice_bounds-rest-end
slice_bounds-rest-end c = omega (arith, c.loop-rest.invariant.going.at_fits)

pub overflow_sub-room : goal.overflow_sub-room
overflow_sub-room c = omega (arith, c.loop-rest.invariant.going.used_fits, c.loop-rest.invariant.going.same_room)

pub overflow_add-at : goal.overflow_add-at
overflow_add-at c = omega (
  arith,
  (front_within of_session did_of did_same SessionWf c.loop-rest.invariant (whole_more c.args.bytes.now c.loop-rest.at (sym c.whole.ensures ∙
      c.loop-rest-test.true)) (front of_session session_replying (record {
        loaded = c.loop-rest.loaded;
        gauge =
            c.loop-rest.gauge;
      }) _ _ c.front-first.ensures)).0,
  c.loop-rest.invariant.going.at_fits,
  c.requires.bytes_len_bound,
)

pub slice_bounds-image_in-count : goal.slice_bounds-image_in-count
slice_bounds-image_in-count c =
    omega (
      arith,
      (ran of_session (front of_session session_replying (record {
        loaded = c.loop-rest.loaded;
        gauge =
            c.loop-rest.gauge;
      }) _ _ c.front-first.ensures) c.in-Some.is).head,
    )

pub slice_bounds-image_in-start : goal.slice_bounds-image_in-start
slice_bounds-image_in-start c =
    omega (
      arith,
      (ran of_session (front of_session session_replying (record {
        loaded = c.loop-rest.loaded;
        gauge =
            c.loop-rest.gauge;
      }) _ _ c.front-first.ensures) c.in-Some.is).head,
    )

pub slice_bounds-image_in-end : goal.slice_bounds-image_in-end
slice_bounds-image_in-end c = omega (
  arith,
  front_fits of_session did_of did_same SessionWf c.loop-rest.invariant (whole_more c.args.bytes.now c.loop-rest.at (sym c.whole.ensures ∙
      c.loop-rest-test.true))
      (front of_session session_replying (record { loaded = c.loop-rest.loaded; gauge = c.loop-rest.gauge }) _ _ c.front-first.ensures),
)

pub image_in-gauge-requires : goal.image_in-gauge-requires
image_in-gauge-requires c =
    (ran_taking (ran of_session (front of_session session_replying (record {
      loaded = c.loop-rest.loaded;
      gauge =
          c.loop-rest.gauge;
    }) _ _ c.front-first.ensures)
    (c.in-Some.is ∙ ap Some c.in-Image.is))).2

pub read-gauge-requires : goal.read-gauge-requires
read-gauge-requires c = c.loop-rest.invariant.wf.gauge

pub convert-gauge-requires : goal.convert-gauge-requires
convert-gauge-requires c = c.loop-rest.invariant.wf.gauge

pub sample-gauge-requires : goal.sample-gauge-requires
sample-gauge-requires c = c.loop-rest.invariant.wf.gauge

pub overflow_add-from : goal.overflow_add-from
overflow_add-from c = omega (
  arith,
  (ran_taking
      (ran of_session (front of_session session_replying (record { loaded = c.loop-rest.loaded; gauge = c.loop-rest.gauge }) _ _ c.front-first.ensures)
      (c.in-Some.is ∙ ap Some c.in-Transact.is))).1.near,
)

pub slice_bounds-transact-count : goal.slice_bounds-transact-count
slice_bounds-transact-count c = let x =
    ran of_session (front of_session session_replying (record { loaded = c.loop-rest.loaded; gauge = c.loop-rest.gauge }) _ _ c.front-first.ensures)
    (c.in-Some.is ∙ ap Some c.in-Transact.is) in
    omega (arith, master_starts of_session x (ran_taking x).1)

pub slice_bounds-transact-start : goal.slice_bounds-transact-start
slice_bounds-transact-start c = let x =
    ran of_session (front of_session session_replying (record { loaded = c.loop-rest.loaded; gauge = c.loop-rest.gauge }) _ _ c.front-first.ensures)
    (c.in-Some.is ∙ ap Some c.in-Transact.is) in
    omega (arith, master_starts of_session x (ran_taking x).1)

pub slice_bounds-transact-end : goal.slice_bounds-transact-end
slice_bounds-transact-end c = omega (
  arith,
  front_fits of_session did_of did_same SessionWf c.loop-rest.invariant (whole_more c.args.bytes.now c.loop-rest.at (sym c.whole.ensures ∙
      c.loop-rest-test.true))
      (front of_session session_replying (record { loaded = c.loop-rest.loaded; gauge = c.loop-rest.gauge }) _ _ c.front-first.ensures),
)

pub slice_bounds-transact-count-in-Transact : goal.slice_bounds-transact-count-in-Transact
slice_bounds-transact-count-in-Transact c = omega (arith, c.loop-rest.invariant.going.used_fits, c.loop-rest.invariant.going.same_room)

pub slice_bounds-transact-start-in-Transact : goal.slice_bounds-transact-start-in-Transact
slice_bounds-transact-start-in-Transact c = omega (arith, c.loop-rest.invariant.going.used_fits, c.loop-rest.invariant.going.same_room)

pub slice_bounds-transact-end-in-Transact : goal.slice_bounds-transact-end-in-Transact
slice_bounds-transact-end-in-Transact c = omega (arith, c.loop-rest.invariant.going.used_fits, c.loop-rest.invariant.going.same_room)

pub transact-gauge-requires : goal.transact-gauge-requires
transact-gauge-requires c =
    let l = c.loop-rest in
    let x = ran of_session (front of_session session_replying (record { loaded = c.loop-rest.loaded; gauge = c.loop-rest.gauge }) _ _ c.front-first.ensures)
    (c.in-Some.is ∙ ap Some c.in-Transact.is) in
    record { gauge_wf = l.invariant.wf.gauge; count_in_bounds = omega (arith, x.held, room_left l.room l.used) }

pub overflow_add-used : goal.overflow_add-used
overflow_add-used c = omega (
  arith,
  (ran of_session (front of_session session_replying (record { loaded = c.loop-rest.loaded; gauge = c.loop-rest.gauge }) _ _ c.front-first.ensures)
      (c.in-Some.is ∙ ap Some c.in-Transact.is)).held,
  c.loop-rest.invariant.going.used_fits,
  c.loop-rest.invariant.going.same_room,
  c.well_formed,
)

pub offset_bounds-answers-lines : goal.offset_bounds-answers-lines
offset_bounds-answers-lines c = omega (
  arith,
  c.loop-rest.invariant.going.slots (whole_more c.args.bytes.now c.loop-rest.at (sym c.whole.ensures ∙ c.loop-rest-test.true)),
  c.loop-rest.invariant.going.at_fits,
  c.requires.bytes_len_bound,
)

pub bounds-answers-lines : goal.bounds-answers-lines
bounds-answers-lines c =
    going_held did_of _ c.loop-rest.invariant.going (whole_more c.args.bytes.now c.loop-rest.at (sym c.whole.ensures ∙
    c.loop-rest-test.true)) c.requires.bytes_in_bounds

pub overflow_add-lines : goal.overflow_add-lines
overflow_add-lines c = omega (
  arith,
  c.loop-rest.invariant.going.slots (whole_more c.args.bytes.now c.loop-rest.at (sym c.whole.ensures ∙ c.loop-rest-test.true)),
  c.loop-rest.invariant.going.at_fits,
  c.requires.bytes_len_bound,
)

pub loop-rest-smaller : goal.loop-rest-smaller
loop-rest-smaller c = omega (
  arith,
  front_within of_session did_of did_same SessionWf c.loop-rest.invariant (whole_more c.args.bytes.now c.loop-rest.at (sym c.whole.ensures ∙
      c.loop-rest-test.true))
      (front of_session session_replying (record { loaded = c.loop-rest.loaded; gauge = c.loop-rest.gauge }) _ _ c.front-first.ensures),
  c.loop-rest.invariant.going.at_fits,
)

pub loop-rest-preserved : goal.loop-rest-preserved
loop-rest-preserved c =
    let l = c.loop-rest in
    let s = c.args.bytes.now in
    let g = l.invariant in
    let m = c.match-first in
    let before : Session = record { loaded = c.loop-rest.loaded; gauge = c.loop-rest.gauge } in
    let f : Front of_session before (length l.room - l.used) (part (length s - l.at) s l.at) c.front-first.result =
    front of_session session_replying before _ _ c.front-first.ensures in
    let code = c.code-line.ensures in
    let t : Turn before l.room l.used (part (length s - l.at) s l.at) m.loaded m.gauge m.room m.used m.line =
    elim m.branch [
      | in-None w ↦ turn_idle f w.in-None.is g.wf.gauge w.loaded-is w.gauge-is w.room-is w.used-is (w.line-is ∙ code)
      | in-Some+in-Image w ↦
          turn_silent f w.image_in-gauge.ensures.kept w.loaded-is w.gauge-is (ran of_session f (w.in-Some.is ∙ ap Some w.in-Image.is))
          w.image_in-gauge.ensures.value refl w.room-is w.used-is (w.line-is ∙ code)
      | in-Some+in-Change+in-Reading w ↦
          turn_silent f w.read-gauge.ensures.kept w.loaded-is w.gauge-is
          (ran of_session f (w.in-Some.is ∙ ap Some (w.in-Change.is ∙ ap Change w.in-Reading.is)))
          w.read-gauge.ensures.value refl w.room-is w.used-is (w.line-is ∙ code)
      | in-Some+in-Change+in-Conversion w ↦
          turn_silent f w.convert-gauge.ensures.kept w.loaded-is w.gauge-is
          (ran of_session f (w.in-Some.is ∙ ap Some (w.in-Change.is ∙ ap Change w.in-Conversion.is)))
          w.convert-gauge.ensures.value refl w.room-is w.used-is (w.line-is ∙ code)
      | in-Some+in-Change+in-Sample w ↦
          turn_silent f w.sample-gauge.ensures.kept w.loaded-is w.gauge-is
          (ran of_session f (w.in-Some.is ∙ ap Some (w.in-Change.is ∙ ap Change w.in-Sample.is)))
          w.sample-gauge.ensures.value refl w.room-is w.used-is (w.line-is ∙ code)
      | in-Some+in-Change+in-PowerOn w ↦
          turn_silent f w.power_on-gauge.ensures.kept w.loaded-is w.gauge-is
          (ran of_session f (w.in-Some.is ∙ ap Some (w.in-Change.is ∙ ap Change w.in-PowerOn.is)))
          w.power_on-gauge.ensures.value refl w.room-is w.used-is (w.line-is ∙ code)
      | in-Some+in-Transact w ↦
          turn_reply f w.transact-gauge.ensures.kept w.loaded-is w.gauge-is (ran of_session f (w.in-Some.is ∙ ap Some w.in-Transact.is))
          (omega (arith, g.going.used_fits, g.going.same_room)) w.transact-gauge.ensures.value w.transact-gauge.ensures.replied
          w.room-is w.used-is (w.line-is ∙ w.code-line-in-Transact.ensures)
    ] in
    record {
      going = going_more did_of _ g.going (whole_more s l.at (sym c.whole.ensures ∙ c.loop-rest-test.true)) did_fits
          (part_rest s l.at) f.used t.left;
      wf = t.kept;
    }

pub offset_bounds-answers-lines-then-at-bytes : goal.offset_bounds-answers-lines-then-at-bytes
offset_bounds-answers-lines-then-at-bytes c = let l = c.loop-rest in
    omega (arith, l.invariant.going.slots c.if-at-bytes.true, l.invariant.going.at_fits, c.requires.bytes_len_bound)

pub bounds-answers-lines-then-at-bytes : goal.bounds-answers-lines-then-at-bytes
bounds-answers-lines-then-at-bytes c = going_held did_of _ c.loop-rest.invariant.going c.if-at-bytes.true c.requires.bytes_in_bounds

pub overflow_add-lines-then-at-bytes : goal.overflow_add-lines-then-at-bytes
overflow_add-lines-then-at-bytes c = let l = c.loop-rest in
    omega (arith, l.invariant.going.slots c.if-at-bytes.true, l.invariant.going.at_fits, c.requires.bytes_len_bound)

pub shape_of-room-then-at-bytes : goal.shape_of-room-then-at-bytes
shape_of-room-then-at-bytes c = c.loop-rest.invariant.going.same_room

pub shape_of-answers-then-at-bytes : goal.shape_of-answers-then-at-bytes
shape_of-answers-then-at-bytes c = let l = c.loop-rest in
    length-set l.answers l.lines c.code.result ∙ l.invariant.going.same_answers

pub returns-then-at-bytes : goal.returns-then-at-bytes
returns-then-at-bytes c = record {
  running = ended_cut of_session did_of did_same SessionWf did_fits session_replying c.loop-rest.invariant c.if-at-bytes.true
      (sym c.whole.ensures ∙ c.loop-rest-test.false) c.code.ensures;
  kept = c.loop-rest.invariant.wf;
}

pub shape_of-room-else-at-bytes : goal.shape_of-room-else-at-bytes
shape_of-room-else-at-bytes c = c.loop-rest.invariant.going.same_room

pub shape_of-answers-else-at-bytes : goal.shape_of-answers-else-at-bytes
shape_of-answers-else-at-bytes c = c.loop-rest.invariant.going.same_answers

pub returns-else-at-bytes : goal.returns-else-at-bytes
returns-else-at-bytes c = record { running = going_end did_of _ c.loop-rest.invariant.going c.if-at-bytes.false; kept = c.loop-rest.invariant.wf }
