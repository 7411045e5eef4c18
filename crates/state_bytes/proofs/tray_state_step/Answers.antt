use mathlib.Core.Path.{◌≡◌, refl, sym, ap, ◌∙◌}
use Prim.Native.Nat.{◌+◌, ◌≤◌}
use native.Mathlib.Omega.{arith}
use lib.ListN.{length}
use Rattle.std.specs.Prelude.{Some}
use Rattle.runs.proofs.Fronts.{Front, Ran, front, ran}
use Rattle.runs.proofs.Turns.{master_starts}
use Rattle.record.specs.declared.Event.TheVariants.{Image, Change, Transact}
use Rattle.tray_record.specs.Tray.{of_tray}
use Rattle.tray_record.proofs.Hearing.{tray_replying}
use Rattle.tray_record.proofs.Taking.{ran_taking}
use Rattle.state_bytes.specs.State.{number_in}
use Rattle.state_bytes.specs.TrayState.{tray_at, tray_state_in}
use Rattle.state_bytes.proofs.Stepping.{checked_held, size_fits_lem}
use Rattle.state_bytes.proofs.TrayStepping.{tray_step_idle, tray_step_silent, tray_step_slot, tray_step_reply}
use Rattle.state_bytes.proofs.tray_state_step.Goals as goal

pub slice_bounds-joined_in-count : goal.slice_bounds-joined_in-count
slice_bounds-joined_in-count c = let at_front : let a = c.args in
    Front of_tray (tray_at a.state.now) (length a.room.now) a.bytes.now c.tray_asked_in-first.result =
    front of_tray tray_replying _ _ _ c.tray_asked_in-first.ensures in
    let image : let a = c.args in
    Ran of_tray (tray_at a.state.now) (length a.room.now) a.bytes.now c.tray_asked_in-first.result.used (Image c.in-Image.profile) =
    ran of_tray (at_front) (c.in-Some.is ∙ ap Some c.in-Image.is) in
    image.head

pub slice_bounds-joined_in-start : goal.slice_bounds-joined_in-start
slice_bounds-joined_in-start c = let at_front : let a = c.args in
    Front of_tray (tray_at a.state.now) (length a.room.now) a.bytes.now c.tray_asked_in-first.result =
    front of_tray tray_replying _ _ _ c.tray_asked_in-first.ensures in
    let image : let a = c.args in
    Ran of_tray (tray_at a.state.now) (length a.room.now) a.bytes.now c.tray_asked_in-first.result.used (Image c.in-Image.profile) =
    ran of_tray (at_front) (c.in-Some.is ∙ ap Some c.in-Image.is) in
    image.head

pub slice_bounds-joined_in-end : goal.slice_bounds-joined_in-end
slice_bounds-joined_in-end c = let at_front : let a = c.args in
    Front of_tray (tray_at a.state.now) (length a.room.now) a.bytes.now c.tray_asked_in-first.result =
    front of_tray tray_replying _ _ _ c.tray_asked_in-first.ensures in
    omega (arith, at_front.used, size_fits_lem c.args.bytes.now)

pub joined_in-requires : goal.joined_in-requires
joined_in-requires c = let at_front : let a = c.args in
    Front of_tray (tray_at a.state.now) (length a.room.now) a.bytes.now c.tray_asked_in-first.result =
    front of_tray tray_replying _ _ _ c.tray_asked_in-first.ensures in
    let image : let a = c.args in
    Ran of_tray (tray_at a.state.now) (length a.room.now) a.bytes.now c.tray_asked_in-first.result.used (Image c.in-Image.profile) =
    ran of_tray (at_front) (c.in-Some.is ∙ ap Some c.in-Image.is) in
    let taking = ran_taking image in
    record {
      state_value = checked_held (tray_state_in c.args.state.now) (sym c.in_ok-check_tray_state.was ∙ c.check_tray_state.ensures);
      state_bound = (taking.1, taking.2);
    }

pub slice_bounds-tray_transacted_in-count : goal.slice_bounds-tray_transacted_in-count
slice_bounds-tray_transacted_in-count c = let at_front : let a = c.args in
    Front of_tray (tray_at a.state.now) (length a.room.now) a.bytes.now c.tray_asked_in-first.result =
    front of_tray tray_replying _ _ _ c.tray_asked_in-first.ensures in
    let transact : let a = c.args in
    Ran of_tray (tray_at a.state.now) (length a.room.now) a.bytes.now c.tray_asked_in-first.result.used (Transact c.in-Transact.transaction) =
    ran of_tray (at_front) (c.in-Some.is ∙ ap Some c.in-Transact.is) in
    let starts : 4 + c.in-Transact.transaction.start ≤ c.tray_asked_in-first.result.used = master_starts of_tray (transact) (ran_taking (transact)).1 in
    starts

pub slice_bounds-tray_transacted_in-start : goal.slice_bounds-tray_transacted_in-start
slice_bounds-tray_transacted_in-start c = let at_front : let a = c.args in
    Front of_tray (tray_at a.state.now) (length a.room.now) a.bytes.now c.tray_asked_in-first.result =
    front of_tray tray_replying _ _ _ c.tray_asked_in-first.ensures in
    let transact : let a = c.args in
    Ran of_tray (tray_at a.state.now) (length a.room.now) a.bytes.now c.tray_asked_in-first.result.used (Transact c.in-Transact.transaction) =
    ran of_tray (at_front) (c.in-Some.is ∙ ap Some c.in-Transact.is) in
    let starts : 4 + c.in-Transact.transaction.start ≤ c.tray_asked_in-first.result.used = master_starts of_tray (transact) (ran_taking (transact)).1 in
    starts

pub slice_bounds-tray_transacted_in-end : goal.slice_bounds-tray_transacted_in-end
slice_bounds-tray_transacted_in-end c = let at_front : let a = c.args in
    Front of_tray (tray_at a.state.now) (length a.room.now) a.bytes.now c.tray_asked_in-first.result =
    front of_tray tray_replying _ _ _ c.tray_asked_in-first.ensures in
    omega (arith, at_front.used, size_fits_lem c.args.bytes.now)

pub tray_transacted_in-requires : goal.tray_transacted_in-requires
tray_transacted_in-requires c = let at_front : let a = c.args in
    Front of_tray (tray_at a.state.now) (length a.room.now) a.bytes.now c.tray_asked_in-first.result =
    front of_tray tray_replying _ _ _ c.tray_asked_in-first.ensures in
    let transact : let a = c.args in
    Ran of_tray (tray_at a.state.now) (length a.room.now) a.bytes.now c.tray_asked_in-first.result.used (Transact c.in-Transact.transaction) =
    ran of_tray (at_front) (c.in-Some.is ∙ ap Some c.in-Transact.is) in
    record {
      state_value = checked_held (tray_state_in c.args.state.now) (sym c.in_ok-check_tray_state.was ∙ c.check_tray_state.ensures);
      count_bound = (ran_taking transact).1.few;
      count_in_bounds =
          transact.held;
    }

pub returns-in-None : goal.returns-in-None
returns-in-None c = let is_state : number_in (tray_state_in c.args.state.now) ≡ 0 =
    checked_held (tray_state_in c.args.state.now) (sym c.in_ok-check_tray_state.was ∙ c.check_tray_state.ensures) in
    let at_front : let a = c.args in
    Front of_tray (tray_at a.state.now) (length a.room.now) a.bytes.now c.tray_asked_in-first.result =
    front of_tray tray_replying _ _ _ c.tray_asked_in-first.ensures in
    rw c.stepped.ensures (tray_step_idle _ is_state _ _ at_front c.in-None.is)

pub returns-in-Image : goal.returns-in-Image
returns-in-Image c = let is_state : number_in (tray_state_in c.args.state.now) ≡ 0 =
    checked_held (tray_state_in c.args.state.now) (sym c.in_ok-check_tray_state.was ∙ c.check_tray_state.ensures) in
    let at_front : let a = c.args in
    Front of_tray (tray_at a.state.now) (length a.room.now) a.bytes.now c.tray_asked_in-first.result =
    front of_tray tray_replying _ _ _ c.tray_asked_in-first.ensures in
    let image : let a = c.args in
    Ran of_tray (tray_at a.state.now) (length a.room.now) a.bytes.now c.tray_asked_in-first.result.used (Image c.in-Image.profile) =
    ran of_tray (at_front) (c.in-Some.is ∙ ap Some c.in-Image.is) in
    rw c.stepped-in-Image.ensures (tray_step_silent _ is_state _ _ at_front image refl c.joined_in.ensures)

pub returns-in-Change : goal.returns-in-Change
returns-in-Change c = let is_state : number_in (tray_state_in c.args.state.now) ≡ 0 =
    checked_held (tray_state_in c.args.state.now) (sym c.in_ok-check_tray_state.was ∙ c.check_tray_state.ensures) in
    let at_front : let a = c.args in
    Front of_tray (tray_at a.state.now) (length a.room.now) a.bytes.now c.tray_asked_in-first.result =
    front of_tray tray_replying _ _ _ c.tray_asked_in-first.ensures in
    let change : let a = c.args in
    Ran of_tray (tray_at a.state.now) (length a.room.now) a.bytes.now c.tray_asked_in-first.result.used (Change c.in-Change.change) =
    ran of_tray (at_front) (c.in-Some.is ∙ ap Some c.in-Change.is) in
    rw c.stepped-in-Change.ensures
    (tray_step_slot _ is_state _ _ at_front change c.slot-slot.ensures.value
    c.slot_changed_in.ensures)

pub returns-in-Transact : goal.returns-in-Transact
returns-in-Transact c = let is_state : number_in (tray_state_in c.args.state.now) ≡ 0 =
    checked_held (tray_state_in c.args.state.now) (sym c.in_ok-check_tray_state.was ∙ c.check_tray_state.ensures) in
    let at_front : let a = c.args in
    Front of_tray (tray_at a.state.now) (length a.room.now) a.bytes.now c.tray_asked_in-first.result =
    front of_tray tray_replying _ _ _ c.tray_asked_in-first.ensures in
    let transact : let a = c.args in
    Ran of_tray (tray_at a.state.now) (length a.room.now) a.bytes.now c.tray_asked_in-first.result.used (Transact c.in-Transact.transaction) =
    ran of_tray (at_front) (c.in-Some.is ∙ ap Some c.in-Transact.is) in
    let told = c.tray_transacted_in.ensures in
    rw c.stepped-in-Transact.ensures (tray_step_reply _ is_state _ _ at_front transact told.became told.replied)
