use Rattle.state_bytes.specs.State.{number_in}
use mathlib.Core.Path.{◌≡◌, refl, ◌∙◌}
use mathlib.Core.List.{List}
use Prim.Native.Nat.{ℕ, ◌≤◌, ◌<◌}
use native.Mathlib.Omega.{arith}
use lib.ListN.{get_or}
use Rattle.tray_record.proofs.Answering.{answering_more, answering_end}
use Rattle.state_bytes.specs.TrayState.{tray_at, tray_state_in}
use Rattle.state_bytes.proofs.TrayPlaces.{held_good, held_long, held_place, held_placed, count_read}
use Rattle.state_bytes.proofs.TrayActing.{span_read}
use Rattle.state_bytes.proofs.packs_heard_in.Goals as goal

-- each slot that the transaction reaches is a place
inside : (state : List ℕ) {stop i : ℕ} → number_in (tray_state_in state) ≡ 0 → stop ≤ get_or state 1 0 → i < stop → i < 8
inside state zero low more = omega (arith, (held_good state zero).wf.few, count_read state)

pub commons_in-commons-requires : goal.commons_in-commons-requires
commons_in-commons-requires c = held_long c.args.state.now c.requires.state_value

pub bounds-state-1 : goal.bounds-state-1
bounds-state-1 c = omega (arith, held_long c.args.state.now c.requires.state_value)

pub reached-span-requires : goal.reached-span-requires
reached-span-requires c = omega (arith, (held_good c.args.state.now c.requires.state_value).wf.few, count_read c.args.state.now)

pub heard_at-requires-clause-placed : goal.heard_at-requires-clause-placed
heard_at-requires-clause-placed c =
    let state = c.args.state.now in
    held_placed state c.requires.state_value c.loop-i.i (inside state c.requires.state_value (omega (
      arith,
      c.from-stop.ensures,
      c.reached-span.ensures.inside.1,
    )) c.loop-i-test.true)

pub loop-i-preserved : goal.loop-i-preserved
loop-i-preserved c = let l = c.loop-i in
    let state = c.args.state.now in
    let x = c.heard_at in (
      x.auto.scratch ∙ l.invariant.0,
      x.auto.room ∙ l.invariant.1,
      answering_more _ (tray_at state) l.invariant.2 c.loop-i-test.true
          (held_place state c.requires.state_value l.i (inside state c.requires.state_value (omega (
            arith,
            c.from-stop.ensures,
            c.reached-span.ensures.inside.1,
          )) c.loop-i-test.true)) refl x.ensures.room_after x.ensures.bytes,
    )

pub returns : goal.returns
returns c = let a = c.args in
    let found : record { first = c.from-first.result; stop = c.from-stop.result } ≡ c.reached-span.result =
    λ k. record { first = c.from-first.ensures k; stop = c.from-stop.ensures k } in
    c.unheard.ensures
    ∙ answering_end a.transaction (tray_at a.state.now) a.master.now (found ∙ span_read a.transaction a.master.now a.state.now c.commons_in-commons.ensures
    c.reached-span.ensures.value) c.loop-i.invariant.2 c.loop-i-test.false refl
