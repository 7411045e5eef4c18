use Rattle.state_bytes.specs.State.{number_in}
use Rattle.std.proofs.Common.{◌≡◌, ℕ, List, get_or, ◌<◌, ap, ◌∙◌, arith}
use Rattle.bus.specs.declared.Transaction.{Transaction}
use Rattle.state.specs.declared.Common.{Common}
use Rattle.tray_record.specs.declared.Span.{Span}
use Rattle.tray_record.specs.Tray.{matched_of, reach_by, reach_span}
use Rattle.tray_record.proofs.Chosen.{span_at, span_inside}
use Rattle.state_bytes.specs.TrayState.{tray_at, tray_state_in}
use Rattle.state_bytes.proofs.TrayPlaces.{held_good, held_long, count_read}
use Rattle.state_bytes.proofs.TrayActing.{span_read, changing_in_start, changing_in_end, changing_placed, changing_in_more}
use Rattle.state_bytes.proofs.packs_changed_in.Goals as goal

-- the slots that the code found, and that each of them is a place
stops : (t : Transaction) (master state : List ℕ) {commons : List Common} {span : Span} {stop : ℕ} → commons ≡ (tray_at state).commons
    → span ≡ reach_span (get_or state 1 0) (reach_by t.rom (matched_of commons (get_or state 1 0) master)) → stop ≡ span.stop
    → stop ≡ (span_at t master (tray_at state)).stop
stops t master state ec es e = e ∙ ap (λ (p : Span). p.stop) (span_read t master state ec es)

inside : (t : Transaction) (master state : List ℕ) {stop i : ℕ} → number_in (tray_state_in state) ≡ 0
    → stop ≡ (span_at t master (tray_at state)).stop → i < stop → i < 8
inside t master state zero e more = omega (arith, span_inside t master (tray_at state), (held_good state zero).wf.few)

pub commons_in-commons-requires : goal.commons_in-commons-requires
commons_in-commons-requires c = held_long c.args.state.now c.requires.state_value

pub bounds-state-1 : goal.bounds-state-1
bounds-state-1 c = omega (arith, held_long c.args.state.now c.requires.state_value)

pub reached-span-requires : goal.reached-span-requires
reached-span-requires c =
    let state = c.args.state.now in
    omega (arith, (held_good state c.requires.state_value).wf.few, count_read state)

pub loop-i-init : goal.loop-i-init
loop-i-init c =
    let a = c.args in
    changing_in_start a.transaction a.master.now a.state.now c.requires.state_value
    (span_read a.transaction a.master.now a.state.now c.commons_in-commons.ensures c.reached-span.ensures.value)
    c.reached-span.ensures.inside.0 c.from-i.ensures

pub ran_at-requires : goal.ran_at-requires
ran_at-requires c =
    let a = c.args in
    let stop = stops a.transaction a.master.now a.state.now c.commons_in-commons.ensures c.reached-span.ensures.value c.from-i-end.ensures in
    changing_placed a.transaction a.master.now a.state.now c.requires.state_value c.loop-i.invariant
    (inside a.transaction a.master.now a.state.now c.requires.state_value stop c.loop-i-test.true)

pub loop-i-preserved : goal.loop-i-preserved
loop-i-preserved c =
    let a = c.args in
    let stop = stops a.transaction a.master.now a.state.now c.commons_in-commons.ensures c.reached-span.ensures.value c.from-i-end.ensures in
    changing_in_more a.transaction a.master.now a.state.now c.requires.state_value c.loop-i.invariant
    (inside a.transaction a.master.now a.state.now c.requires.state_value stop c.loop-i-test.true) c.requires.transaction_value
    (omega (arith, stop, c.loop-i-test.true)) c.ran_at.ensures

pub returns : goal.returns
returns c =
    let a = c.args in
    let stop = stops a.transaction a.master.now a.state.now c.commons_in-commons.ensures c.reached-span.ensures.value c.from-i-end.ensures in
    changing_in_end a.transaction a.master.now a.state.now c.requires.state_value c.loop-i.invariant
    (omega (arith, stop, c.loop-i-test.false))
