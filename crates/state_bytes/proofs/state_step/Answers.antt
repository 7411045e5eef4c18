use mathlib.Core.Path.{◌≡◌, refl, sym, ap, ◌∙◌}
use native.Mathlib.Omega.{arith}
use lib.ListN.{length}
use Rattle.std.specs.Prelude.{Some}
use Rattle.gauge.specs.declared.Gauge.{Gauge}
use Rattle.runs.specs.Run.{silently}
use Rattle.runs.specs.SessionRecord.{loaded_with, of_session}
use Rattle.runs.proofs.AnyRecord.{session_replying}
use Rattle.runs.proofs.Fronts.{Front, front, ran}
use Rattle.runs.proofs.Turns.{master_starts}
use Rattle.session_run.proofs.Turns.{ran_taking}
use Rattle.state_bytes.specs.State.{session_at, state_in, number_in}
use Rattle.state_bytes.specs.Places.{gauge_at}
use Rattle.state_bytes.proofs.Undoing.{in_size}
use Rattle.state_bytes.proofs.Stepping.{checked_held, size_fits_lem, pack_placed, loaded_became, step_idle, step_silent, step_reply}
use Rattle.state_bytes.proofs.state_step.Goals as goal

pub asked_in-first-requires : goal.asked_in-first-requires
asked_in-first-requires c = let is_state : number_in (state_in c.args.state.now) ≡ 0 =
    checked_held (state_in c.args.state.now) (sym c.in_ok-check_state.was ∙ c.check_state.ensures) in
    in_size c.args.state.now is_state

pub slice_bounds-image_in-count : goal.slice_bounds-image_in-count
slice_bounds-image_in-count c = let at_front : Front of_session (session_at c.args.state.now) (length c.args.room.now)
    c.args.bytes.now c.asked_in-first.result = front of_session session_replying _ _ _ c.asked_in-first.ensures in
    omega (arith, (ran of_session at_front c.in-Some.is).head)

pub slice_bounds-image_in-start : goal.slice_bounds-image_in-start
slice_bounds-image_in-start c = let at_front : Front of_session (session_at c.args.state.now) (length c.args.room.now)
    c.args.bytes.now c.asked_in-first.result = front of_session session_replying _ _ _ c.asked_in-first.ensures in
    omega (arith, (ran of_session at_front c.in-Some.is).head)

pub slice_bounds-image_in-end : goal.slice_bounds-image_in-end
slice_bounds-image_in-end c = let at_front : Front of_session (session_at c.args.state.now) (length c.args.room.now)
    c.args.bytes.now c.asked_in-first.result = front of_session session_replying _ _ _ c.asked_in-first.ensures in
    omega (arith, at_front.used, size_fits_lem c.args.bytes.now)

pub image_in-gauge-requires : goal.image_in-gauge-requires
image_in-gauge-requires c = let at_front : Front of_session (session_at c.args.state.now) (length c.args.room.now)
    c.args.bytes.now c.asked_in-first.result = front of_session session_replying _ _ _ c.asked_in-first.ensures in
    (ran_taking (ran of_session at_front (c.in-Some.is ∙ ap Some c.in-Image.is))).2

pub changed_at-requires : goal.changed_at-requires
changed_at-requires c = pack_placed _ ((checked_held (state_in c.args.state.now) (sym c.in_ok-check_state.was ∙ c.check_state.ensures)))

pub overflow_add-from : goal.overflow_add-from
overflow_add-from c = let at_front : Front of_session (session_at c.args.state.now) (length c.args.room.now)
    c.args.bytes.now c.asked_in-first.result = front of_session session_replying _ _ _ c.asked_in-first.ensures in
    let x = ran of_session at_front (c.in-Some.is ∙ ap Some c.in-Transact.is) in
    omega (arith, (ran_taking x).1.near)

pub slice_bounds-transacted_in-count : goal.slice_bounds-transacted_in-count
slice_bounds-transacted_in-count c = let at_front : Front of_session (session_at c.args.state.now) (length c.args.room.now)
    c.args.bytes.now c.asked_in-first.result = front of_session session_replying _ _ _ c.asked_in-first.ensures in
    let x = ran of_session at_front (c.in-Some.is ∙ ap Some c.in-Transact.is) in
    omega (arith, master_starts of_session x (ran_taking x).1)

pub slice_bounds-transacted_in-start : goal.slice_bounds-transacted_in-start
slice_bounds-transacted_in-start c = let at_front : Front of_session (session_at c.args.state.now) (length c.args.room.now)
    c.args.bytes.now c.asked_in-first.result = front of_session session_replying _ _ _ c.asked_in-first.ensures in
    let x = ran of_session at_front (c.in-Some.is ∙ ap Some c.in-Transact.is) in
    omega (arith, master_starts of_session x (ran_taking x).1)

pub slice_bounds-transacted_in-end : goal.slice_bounds-transacted_in-end
slice_bounds-transacted_in-end c = let at_front : Front of_session (session_at c.args.state.now) (length c.args.room.now)
    c.args.bytes.now c.asked_in-first.result = front of_session session_replying _ _ _ c.asked_in-first.ensures in
    omega (arith, at_front.used, size_fits_lem c.args.bytes.now)

pub transacted_in-requires : goal.transacted_in-requires
transacted_in-requires c = let is_state : number_in (state_in c.args.state.now) ≡ 0 =
    checked_held (state_in c.args.state.now) (sym c.in_ok-check_state.was ∙ c.check_state.ensures) in
    let at_front : Front of_session (session_at c.args.state.now) (length c.args.room.now)
    c.args.bytes.now c.asked_in-first.result = front of_session session_replying _ _ _ c.asked_in-first.ensures in
    let x = ran of_session at_front (c.in-Some.is ∙ ap Some c.in-Transact.is) in
    record { placed = pack_placed _ is_state; count_in_bounds = x.held }

pub returns-in-None : goal.returns-in-None
returns-in-None c = let is_state : number_in (state_in c.args.state.now) ≡ 0 =
    checked_held (state_in c.args.state.now) (sym c.in_ok-check_state.was ∙ c.check_state.ensures) in
    let at_front : Front of_session (session_at c.args.state.now) (length c.args.room.now)
    c.args.bytes.now c.asked_in-first.result = front of_session session_replying _ _ _ c.asked_in-first.ensures in
    rw c.stepped.ensures (step_idle _ is_state _ _ at_front c.in-None.is)

pub put_state-requires : goal.put_state-requires
put_state-requires c = let is_state : number_in (state_in c.args.state.now) ≡ 0 =
    checked_held (state_in c.args.state.now) (sym c.in_ok-check_state.was ∙ c.check_state.ensures) in
    omega (arith, in_size c.args.state.now is_state)

pub returns-in-Image : goal.returns-in-Image
returns-in-Image c = let is_state : number_in (state_in c.args.state.now) ≡ 0 =
    checked_held (state_in c.args.state.now) (sym c.in_ok-check_state.was ∙ c.check_state.ensures) in
    let size : length c.args.state.now ≡ 172 = in_size c.args.state.now (is_state) in
    let at_front : Front of_session (session_at c.args.state.now) (length c.args.room.now)
    c.args.bytes.now c.asked_in-first.result = front of_session session_replying _ _ _ c.asked_in-first.ensures in
    let x = ran of_session at_front (c.in-Some.is ∙ ap Some c.in-Image.is) in
    rw c.stepped-in-Image.ensures
    (step_silent _ is_state _ _ at_front x
    (ap (λ (g : Gauge). silently (loaded_with g) 0) (sym c.image_in-gauge.ensures.value)) c.image_in-gauge.ensures.kept
    c.put_state.ensures.written)

pub returns-in-Change : goal.returns-in-Change
unfolding gauge_at session_at
returns-in-Change c = let is_state : number_in (state_in c.args.state.now) ≡ 0 =
    checked_held (state_in c.args.state.now) (sym c.in_ok-check_state.was ∙ c.check_state.ensures) in
    let at_front : Front of_session (session_at c.args.state.now) (length c.args.room.now)
    c.args.bytes.now c.asked_in-first.result = front of_session session_replying _ _ _ c.asked_in-first.ensures in
    let x = ran of_session at_front (c.in-Some.is ∙ ap Some c.in-Change.is) in
    let now-is = c.changed_at.ensures in
    rw c.stepped-in-Change.ensures
    (step_silent _ is_state _ _ at_front x refl now-is.wf (loaded_became _ is_state (ran_taking x) now-is))

pub returns-in-Transact : goal.returns-in-Transact
unfolding gauge_at session_at
returns-in-Transact c = let is_state : number_in (state_in c.args.state.now) ≡ 0 =
    checked_held (state_in c.args.state.now) (sym c.in_ok-check_state.was ∙ c.check_state.ensures) in
    let at_front : Front of_session (session_at c.args.state.now) (length c.args.room.now)
    c.args.bytes.now c.asked_in-first.result = front of_session session_replying _ _ _ c.asked_in-first.ensures in
    let x = ran of_session at_front (c.in-Some.is ∙ ap Some c.in-Transact.is) in
    let told = c.transacted_in.ensures in
    rw c.stepped-in-Transact.ensures (step_reply _ is_state _ _ at_front x told.became told.replied)
