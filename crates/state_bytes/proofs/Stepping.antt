-- A step by state bytes, from what reading them, the event and writing leave.
use Rattle.std.specs.Prelude.{Ok, Err, Result, ⊤}
use Rattle.state_bytes.specs.declared.StateRefusal.{StateRefusal}
use Rattle.state_bytes.specs.declared.StateRefusal.TheVariants as why
use mathlib.Core.Path.{◌≡◌, refl, sym, ap, subst, ◌∙◌}
use mathlib.Core.Bool.{Bool, true, false}
use mathlib.Core.List.{List, [], ◌∷◌, ◌++◌}
use Prim.Native.Nat.{ℕ, ◌+◌, ◌-◌, ◌≤◌}
use native.Mathlib.Omega.{arith}
use borrow.Author.Tests.{eq-eqb, ne_eqb}
use lib.ListN.{length, drop}
use lib.Seq.{take_all}
use Rattle.std.specs.Prelude.{None}
use Rattle.numbers.specs.Choice.{pick}
use Rattle.slices.specs.Slices.{part, put, pair_at}
use Rattle.slices.proofs.Laws.{put_front, put_whole, put_second}
use Rattle.bus.specs.declared.Transaction.{Transaction}
use Rattle.record.specs.declared.Event.{Event}
use Rattle.record.specs.declared.Event.TheVariants.{Transact}
use Rattle.gauge.specs.declared.Gauge.{Gauge}
use Rattle.gauge.specs.Gauge.{GaugeWf}
use Rattle.gauge.specs.Act.{act_of, reply_of}
use Rattle.runs.specs.Record.{rec_of, size_of, whole_of}
use Rattle.runs.specs.Run.{Did, silently}
use Rattle.runs.specs.Step.{StepDone}
use Rattle.runs.specs.declared.Record.{Record}
use Rattle.runs.specs.declared.Session.{Session}
use Rattle.runs.specs.AnyRecord.{record_by}
use Rattle.runs.specs.SessionRecord.{SessionWf, loaded_with, event_did, of_session, did_of}
use Rattle.gauge.proofs.Acting.{reply_length}
use Rattle.runs.proofs.AnyRecord.{session_replying}
use Rattle.runs.proofs.Records.{whole_end, size_whole, size_cut}
use Rattle.runs.proofs.Fronts.{payload_of, Ran, Front, idle}
use Rattle.runs.proofs.Turns.{master_part}
use Rattle.session_run.proofs.Turns.{did_same, ran_taking}
use Rattle.state_bytes.specs.Layout.{flag_byte}
use Rattle.state_bytes.specs.State.{gauge_layout, state_bytes, session_at, StateIn, state_in, number_in, session_in, checked}
use Rattle.state_bytes.specs.Theorems.{StateWf}
use Rattle.state_bytes.specs.Places.{gauge_at, Placed, Became}
use Rattle.state_bytes.specs.Steps.{StateStep, step_of, said_of, did_in, StateStepped}
use Rattle.state_bytes.proofs.Undoing.{gauge, state_length, in_size, read_held, undoing}
use Rattle.state_bytes.proofs.Kept.{did_sized, did_uncounted}

-- that nothing was refused
abbrev done : Result ⊤ StateRefusal
done = Ok tt

abbrev is_held : Result ⊤ StateRefusal → ℕ
is_held (Ok v) = 1
is_held (Err r) = 0

ok_not_err : {r : StateRefusal} → done ≡ Err r → ⊥
ok_not_err e = let z : ◌≡◌ {A = ℕ} 1 0 = ap is_held e in omega (arith, z)

abbrev as_step : Result ⊤ StateRefusal → StateStep
as_step (Ok v) = step_of 0 0
as_step (Err r) = Err r

-- what a step says of bytes that are a state, and of others
pub said_held : {S : Type 0} (x : Result S StateRefusal) (d : Did S) → number_in x ≡ 0 → step_of d.answer (length d.reply) ≡ said_of x d
said_held (Ok σ) d zero = refl
said_held (Err why.Size) d zero = absurd (omega (arith, zero))
said_held (Err why.Version) d zero = absurd (omega (arith, zero))
said_held (Err why.Unsound) d zero = absurd (omega (arith, zero))

pub said_none : {S : Type 0} (x : Result S StateRefusal) {r : StateRefusal} (d : Did S) → Err r ≡ checked x → Err r ≡ said_of x d
said_none (Ok σ) d e = absurd (ok_not_err (sym e))
said_none (Err r) d e = ap as_step e

-- bytes that were tested
pub checked_held : {S : Type 0} (x : Result S StateRefusal) → done ≡ checked x → number_in x ≡ 0
checked_held (Ok σ) e = refl
checked_held (Err r) e = absurd (ok_not_err e)

pub checked_none : {S : Type 0} (x : Result S StateRefusal) {r : StateRefusal} → Err r ≡ checked x → number_in x ≡ 0 → ⊥
checked_none (Ok σ) e zero = ok_not_err (sym e)
checked_none (Err why.Size) e zero = omega (arith, zero)
checked_none (Err why.Version) e zero = omega (arith, zero)
checked_none (Err why.Unsound) e zero = omega (arith, zero)

module _ {state bytes room : List ℕ} {held : StateIn} (h : held ≡ state_in state) where
  -- a state was read, the record was run in it, and the state after it written
  pub stepped_held : {τ : Session} {answer replied : ℕ} {last after : List ℕ} → number_in held ≡ 0
      → StepDone did_of (session_in held) bytes room τ answer replied last → SessionWf τ → after ≡ put state 0 (state_bytes τ)
      → StateStepped state bytes room (step_of answer replied) after last
  stepped_held {τ} {after = after} z s w e =
      let d = did_in state bytes room in
      let zero : number_in (state_in state) ≡ 0 = sym (ap (λ (x : StateIn). number_in x) h) ∙ z in
      let t = eq-eqb (number_in (state_in state)) 0 zero in
      let same : did_of (session_in held) (length room) (rec_of bytes) ≡ d =
      ap (λ (x : StateIn). did_of (session_in x) (length room) (rec_of bytes)) h in
      let is : τ ≡ d.state = s.state ∙ ap (λ (x : Did Session). x.state) same in
      let before = undoing.sound state zero in
      let good : StateWf d.state = record {
        wf = subst SessionWf is w;
        sized = did_sized (session_in (state_in state)) (length room) (rec_of bytes) before.sized;
        uncounted = did_uncounted (session_in (state_in state)) (length room) (rec_of bytes) before.uncounted;
      } in
      let holds : after ≡ state_bytes d.state =
      e ∙ ap (λ (x : Session). put state 0 (state_bytes x)) is
      ∙ put_whole state (state_bytes d.state) (state_length d.state good.sized ∙ sym (in_size state zero)) in
      let answered = s.answered ∙ ap (λ (x : Did Session). x.answer) same in
      let counted = s.counted ∙ ap (λ (x : Did Session). length x.reply) same in
      record {
        again = λ n. ap state_in holds ∙ undoing.back d.state good;
        said = (λ i. step_of (answered i) (counted i)) ∙ said_held (state_in state) d zero;
        kept =
            e ∙ ap (λ (x : Session). put state 0 (state_bytes x)) is
            ∙ sym (ap (λ (b : Bool). pick b (put state 0 (state_bytes d.state)) state) t);
        written =
            s.written ∙ ap (λ (x : Did Session). put room 0 x.reply) same ∙ sym (ap (λ (b : Bool). pick b (put room 0 d.reply) room) t);
      }

-- the bytes were no state
pub stepped_none : {state bytes room : List ℕ} {r : StateRefusal} → Err r ≡ checked (state_in state)
    → StateStepped state bytes room (Err r) state room
stepped_none {state} {bytes} {room} e =
    let d = did_in state bytes room in
    let t = ne_eqb (number_in (state_in state)) 0 (checked_none (state_in state) e) in
    record {
      again = λ n. absurd (checked_none (state_in state) e n);
      said = said_none (state_in state) d e;
      kept = sym (ap (λ (b : Bool). pick b (put state 0 (state_bytes d.state)) state) t);
      written = sym (ap (λ (b : Bool). pick b (put room 0 d.reply) room) t);
    }

-- a record takes no more bytes than there are
pub size_fits_lem : (l : List ℕ) → size_of l ≤ length l
size_fits_lem l = by (whole_of l) refl
  where
    by : (b : Bool) → whole_of l ≡ b → size_of l ≤ length l
    by true w = omega (arith, size_whole l (pair_at l 0) (pair_at l 2) w refl refl, whole_end l w)
    by false w = omega (arith, size_cut l w)

-- ---- the state that the bytes are

module _ (state : List ℕ) (zero : number_in (state_in state) ≡ 0) where
  was_read : Ok (session_at state) ≡ state_in state
  was_read = read_held state zero

  good : StateWf (session_at state)
  good = subst (λ (x : StateIn). StateWf (session_in x)) (sym was_read) (undoing.sound state zero)

  written_so : state_bytes (session_at state) ≡ state
  written_so = ap (λ (x : StateIn). state_bytes (session_in x)) was_read ∙ undoing.forth state zero

  same_state : state ≡ put state 0 (state_bytes (session_at state))
  same_state =
      sym (put_whole state (state_bytes (session_at state)) (state_length (session_at state) good.sized ∙ sym (in_size state zero)) ∙ written_so)

  -- its gauge stands from 2 on
  pub pack_placed : Placed state 2
  unfolding gauge_at session_at state_bytes
  pack_placed =
      let out = gauge_layout.out (gauge_at state 2) in
      record {
        inside = omega (arith, in_size state zero);
        whole = ap (λ (b : List ℕ). part 170 b 2) (sym written_so) ∙ take_all 170 out (omega (arith, gauge.sized (gauge_at state 2) good.sized));
        wf = good.wf.gauge;
      }

  -- another gauge there is the state of that gauge, where an image was accepted before
  pub loaded_became : {g : Gauge} {after : List ℕ} → (session_at state).loaded ≡ true → Became state 2 g after →
      after ≡ put state 0 (state_bytes (loaded_with g))
  unfolding session_at state_bytes
  loaded_became {g} loaded b =
      let head : part 2 state 0 ≡ 1 ∷ 1 ∷ [] = ap (λ (s : List ℕ). part 2 s 0) (sym written_so) ∙ ap (λ (l : Bool). 1 ∷ flag_byte l ∷ []) loaded in
      b.written ∙ put_second state 0 2 (1 ∷ 1 ∷ []) (gauge_layout.out g) refl head (omega (arith, in_size state zero))

  module _ (bytes room : List ℕ) where
    -- what the record does is known
    by_did : {d : Did Session} {answer replied : ℕ} {after last : List ℕ} → record_by of_session (session_at state) (length room) (rec_of bytes) ≡ d
        → SessionWf d.state → answer ≡ d.answer → replied ≡ length d.reply → after ≡ put state 0 (state_bytes d.state) → last ≡ put room 0 d.reply
        → StateStepped state bytes room (step_of answer replied) after last
    by_did {d} did wf answer replied after last =
        let e : d ≡ did_of (session_at state) (length room) (rec_of bytes) = sym did ∙ sym (did_same (session_at state) (length room) (rec_of bytes)) in
        stepped_held was_read refl
        (record {
          state = ap (λ (x : Did Session). x.state) e;
          answered = answer ∙ ap (λ (x : Did Session). x.answer) e;
          counted = replied ∙ ap (λ (x : Did Session). length x.reply) e;
          written = last ∙ ap (λ (x : Did Session). put room 0 x.reply) e;
        })
        wf after

    module _ {r : Record} (f : Front of_session (session_at state) (length room) bytes r) where
      -- a record that asks nothing
      pub step_idle : r.event ≡ None → StateStepped state bytes room (step_of r.answer 0) state room
      step_idle t = by_did (idle of_session f t) good.wf refl refl same_state refl

      module _ {e : Event} (x : Ran of_session (session_at state) (length room) bytes r.used e) where
        answers : r.answer ≡ 0
        answers = f.answer ∙ ap (λ (d : Did Session). d.answer) x.did ∙ session_replying.answer (session_at state) (payload_of r.used bytes) e

        -- an image or a change
        pub step_silent : {g : Gauge} {after : List ℕ} → event_did (session_at state) (payload_of r.used bytes) e ≡ silently (loaded_with g) 0
            → GaugeWf g → after ≡ put state 0 (state_bytes (loaded_with g))
            → StateStepped state bytes room (step_of r.answer 0) after room
        step_silent d wf after = by_did (x.did ∙ d) (record { gauge = wf }) answers refl after refl

      -- a transaction
      module _ {t : Transaction} (x : Ran of_session (session_at state) (length room) bytes r.used (Transact t)) where
        abbrev lent : List ℕ
        lent = part (r.used - (4 + t.start)) bytes (4 + t.start)

        did : record_by of_session (session_at state) (length room) (rec_of bytes)
            ≡ record { state = loaded_with (act_of (session_at state).gauge t lent); answer = 0; reply = reply_of (session_at state).gauge t lent }
        did =
            let by : List ℕ → Did Session =
            λ m. record { state = loaded_with (act_of (session_at state).gauge t m); answer = 0; reply = reply_of (session_at state).gauge t m } in
            x.did ∙ ap by (master_part r.used t.start bytes)

        asked_bytes : length (reply_of (session_at state).gauge t lent) ≡ t.count
        asked_bytes = reply_length (session_at state).gauge t lent

        pub step_reply : {after last : List ℕ} → Became state 2 (act_of (session_at state).gauge t lent) after
            → last ≡ reply_of (session_at state).gauge t lent ++ drop t.count room
            → StateStepped state bytes room (step_of r.answer t.count) after last
        step_reply {last = last} b reply =
            let fits : length (reply_of (session_at state).gauge t lent) ≤ length room = omega (arith, asked_bytes, x.held) in
            let front = put_front room (reply_of (session_at state).gauge t lent) fits in
            let whole : last ≡ put room 0 (reply_of (session_at state).gauge t lent) =
            reply ∙ ap (λ (n : ℕ). reply_of (session_at state).gauge t lent ++ drop n room) (sym asked_bytes) ∙ sym front in
            by_did did (record { gauge = b.wf }) (answers x) (sym asked_bytes) (loaded_became (ran_taking x).0 b) whole
