-- A step by the state bytes of a tray, from what reading them, the event and writing leave.
use Rattle.std.specs.Prelude.{Err}
use Rattle.state_bytes.specs.declared.StateRefusal.{StateRefusal}
use Rattle.state_bytes.specs.State.{number_in, checked}
use mathlib.Core.Path.{◌≡◌, refl, sym, ap, subst, ◌∙◌}
use mathlib.Core.Bool.{Bool}
use mathlib.Core.List.{List, ◌++◌}
use Prim.Native.Nat.{ℕ, ◌+◌, ◌-◌, ◌≤◌}
use native.Mathlib.Omega.{arith}
use borrow.Author.Tests.{eq-eqb, ne_eqb}
use lib.ListN.{length, drop}
use Rattle.std.specs.Prelude.{None}
use Rattle.numbers.specs.Choice.{pick}
use Rattle.slices.specs.Slices.{part, put}
use Rattle.slices.proofs.Laws.{put_front, put_whole}
use Rattle.bus.specs.declared.Transaction.{Transaction}
use Rattle.record.specs.declared.Change.{Change as Changes}
use Rattle.record.specs.declared.Event.{Event}
use Rattle.record.specs.declared.Event.TheVariants.{Change, Transact}
use Rattle.record.specs.Record.{master_of}
use Rattle.gauge.specs.Change.{changed_of}
use Rattle.runs.specs.Record.{rec_of}
use Rattle.runs.specs.Run.{Did, silently}
use Rattle.runs.specs.Step.{StepDone}
use Rattle.runs.specs.declared.Record.{Record}
use Rattle.runs.specs.AnyRecord.{record_by}
use Rattle.runs.proofs.Fronts.{payload_of, Ran, Front, idle}
use Rattle.runs.proofs.Turns.{master_part}
use Rattle.tray_record.specs.declared.Tray.{Tray}
use Rattle.tray_record.specs.Tray.{pack_of, stored_of, closed_of, named_slot, tray_reach, tray_acted, tray_reply, tray_event, of_tray, tray_did, TrayWf}
use Rattle.tray_record.proofs.Hearing.{tray_replying}
use Rattle.tray_record.proofs.Taking.{did_same, slot_named_lem}
use Rattle.state_bytes.specs.TrayState.{tray_state_bytes, tray_at, TrayStateIn, tray_state_in, tray_in}
use Rattle.state_bytes.specs.Theorems.{TrayStateWf}
use Rattle.state_bytes.proofs.TrayUndoing.{tray_state_length, tray_in_size, tray_read_held, tray_undoing}
use Rattle.state_bytes.proofs.Stepping.{said_held, said_none, checked_none}
use Rattle.state_bytes.proofs.TrayKept.{tray_sized, tray_uncounted}
use Rattle.state_bytes.specs.Places.{TrayBecame}
use Rattle.state_bytes.specs.Steps.{step_of, tray_did_in, TrayStateStepped}
use Rattle.state_bytes.proofs.TrayPlaces.{held_good, held_is}

module _ {state bytes room : List ℕ} {held : TrayStateIn} (h : held ≡ tray_state_in state) where
  -- a state was read, the record was run in it, and the bytes are those of the state after it
  pub tray_stepped_held : {τ : Tray} {answer replied : ℕ} {last after : List ℕ} → number_in held ≡ 0
      → StepDone tray_did (tray_in held) bytes room τ answer replied last → TrayBecame τ after
      → TrayStateStepped state bytes room (step_of answer replied) after last
  tray_stepped_held {τ} {after = after} z s b =
      let d = tray_did_in state bytes room in
      let zero : number_in (tray_state_in state) ≡ 0 = sym (ap (λ (x : TrayStateIn). number_in x) h) ∙ z in
      let t = eq-eqb (number_in (tray_state_in state)) 0 zero in
      let same : tray_did (tray_in held) (length room) (rec_of bytes) ≡ d =
      ap (λ (x : TrayStateIn). tray_did (tray_in x) (length room) (rec_of bytes)) h in
      let is : τ ≡ d.state = s.state ∙ ap (λ (x : Did Tray). x.state) same in
      let before = tray_undoing.sound state zero in
      let good : TrayStateWf d.state = record {
        wf = subst TrayWf is b.wf;
        sized = tray_sized (tray_in (tray_state_in state)) (length room) (rec_of bytes) before.sized;
        uncounted = tray_uncounted (tray_in (tray_state_in state)) (length room) (rec_of bytes) before.uncounted;
      } in
      let holds : after ≡ tray_state_bytes d.state = b.written ∙ ap tray_state_bytes is in
      let over : put state 0 (tray_state_bytes d.state) ≡ tray_state_bytes d.state =
      put_whole state (tray_state_bytes d.state) (tray_state_length d.state good ∙ sym (tray_in_size state zero)) in
      let answered = s.answered ∙ ap (λ (x : Did Tray). x.answer) same in
      let counted = s.counted ∙ ap (λ (x : Did Tray). length x.reply) same in
      record {
        again = λ n. ap tray_state_in holds ∙ tray_undoing.back d.state good;
        said = (λ i. step_of (answered i) (counted i)) ∙ said_held (tray_state_in state) d zero;
        kept = holds ∙ sym over ∙ sym (ap (λ (b : Bool). pick b (put state 0 (tray_state_bytes d.state)) state) t);
        written =
            s.written ∙ ap (λ (x : Did Tray). put room 0 x.reply) same ∙ sym (ap (λ (b : Bool). pick b (put room 0 d.reply) room) t);
      }

-- the bytes were no state
pub tray_stepped_none : {state bytes room : List ℕ} {r : StateRefusal} → Err r ≡ checked (tray_state_in state)
    → TrayStateStepped state bytes room (Err r) state room
tray_stepped_none {state} {bytes} {room} e =
    let d = tray_did_in state bytes room in
    let t = ne_eqb (number_in (tray_state_in state)) 0 (checked_none (tray_state_in state) e) in
    record {
      again = λ n. absurd (checked_none (tray_state_in state) e n);
      said = said_none (tray_state_in state) d e;
      kept = sym (ap (λ (b : Bool). pick b (put state 0 (tray_state_bytes d.state)) state) t);
      written = sym (ap (λ (b : Bool). pick b (put room 0 d.reply) room) t);
    }

-- ---- the events

module _ (state : List ℕ) (zero : number_in (tray_state_in state) ≡ 0) (bytes room : List ℕ) where
  -- what the record does is known
  by_did : {d : Did Tray} {answer replied : ℕ} {after last : List ℕ} → record_by of_tray (tray_at state) (length room) (rec_of bytes) ≡ d
      → TrayBecame d.state after → answer ≡ d.answer → replied ≡ length d.reply → last ≡ put room 0 d.reply
      → TrayStateStepped state bytes room (step_of answer replied) after last
  by_did {d} did became answer replied last =
      let e : d ≡ tray_did (tray_at state) (length room) (rec_of bytes) = sym did ∙ sym (did_same (tray_at state) (length room) (rec_of bytes)) in
      tray_stepped_held (tray_read_held state zero) refl
      (record {
        state = ap (λ (x : Did Tray). x.state) e;
        answered = answer ∙ ap (λ (x : Did Tray). x.answer) e;
        counted = replied ∙ ap (λ (x : Did Tray). length x.reply) e;
        written = last ∙ ap (λ (x : Did Tray). put room 0 x.reply) e;
      })
      became

  module _ {r : Record} (f : Front of_tray (tray_at state) (length room) bytes r) where
    -- a record that asks nothing
    pub tray_step_idle : r.event ≡ None → TrayStateStepped state bytes room (step_of r.answer 0) state room
    tray_step_idle t = by_did (idle of_tray f t) (record { written = held_is state zero; wf = (held_good state zero).wf }) refl refl refl

    module _ {e : Event} (x : Ran of_tray (tray_at state) (length room) bytes r.used e) where
      answers : r.answer ≡ 0
      answers = f.answer ∙ ap (λ (d : Did Tray). d.answer) x.did ∙ tray_replying.answer (tray_at state) (payload_of r.used bytes) e

      -- an image or a change
      pub tray_step_silent : {σ : Tray} {after : List ℕ} → tray_event (tray_at state) (payload_of r.used bytes) e ≡ silently σ 0 → TrayBecame σ after
          → TrayStateStepped state bytes room (step_of r.answer 0) after room
      tray_step_silent d b = by_did (x.did ∙ d) b answers refl refl

    -- a change of the slot that is named
    pub tray_step_slot : {c : Changes} {i : ℕ} {after : List ℕ} → Ran of_tray (tray_at state) (length room) bytes r.used (Change c) → i ≡ named_slot bytes
        → TrayBecame (closed_of (stored_of (tray_at state) i (changed_of (pack_of (tray_at state) i) c))) after
        → TrayStateStepped state bytes room (step_of r.answer 0) after room
    tray_step_slot {c} {after = after} x e b =
        let τ = tray_at state in
        let named = slot_named_lem (held_good state zero).wf x e in
        tray_step_silent x refl (subst (λ (j : ℕ). TrayBecame (closed_of (stored_of τ j (changed_of (pack_of τ j) c))) after) named b)

    -- a transaction
    module _ {t : Transaction} (x : Ran of_tray (tray_at state) (length room) bytes r.used (Transact t)) where
      abbrev lent : List ℕ
      lent = part (r.used - (4 + t.start)) bytes (4 + t.start)

      abbrev reply_by : List ℕ → List ℕ
      reply_by master = tray_reply t master (tray_reach (tray_at state) t master) (tray_at state)

      abbrev did_by : List ℕ → Did Tray
      did_by master = record {
        state = closed_of (tray_acted t master (tray_reach (tray_at state) t master) (tray_at state));
        answer = 0;
        reply = reply_by master;
      }

      master_is : master_of t (payload_of r.used bytes) ≡ lent
      master_is = master_part r.used t.start bytes

      asked_bytes : length (reply_by lent) ≡ t.count
      asked_bytes =
          ap (λ (m : List ℕ). length (reply_by m)) (sym master_is)
          ∙ tray_replying.reply (tray_at state) (payload_of r.used bytes) (Transact t)

      pub tray_step_reply : {after last : List ℕ} → TrayBecame (did_by lent).state after → last ≡ reply_by lent ++ drop t.count room
          → TrayStateStepped state bytes room (step_of r.answer t.count) after last
      tray_step_reply {last = last} became reply =
          let fits : length (reply_by lent) ≤ length room = omega (arith, asked_bytes, x.held) in
          let whole : last ≡ put room 0 (reply_by lent) =
          reply ∙ ap (λ (n : ℕ). reply_by lent ++ drop n room) (sym asked_bytes) ∙ sym (put_front room (reply_by lent) fits) in
          by_did (x.did ∙ ap did_by master_is) became (answers x) (sym asked_bytes) whole
