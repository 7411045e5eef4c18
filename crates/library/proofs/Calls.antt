-- What each entry hands back, from what the functions below it promise: once for any state that is kept as bytes.
use Rattle.std.specs.Prelude.{⊤, Result, Ok, Err}
use mathlib.Core.Path.{◌≡◌, refl, sym, ap, ◌∙◌}
use mathlib.Core.Bool.{Bool, true, false}
use mathlib.Core.List.{List}
use Prim.Native.Nat.{ℕ, ◌≤◌, ◌<◌}
use native.Mathlib.Omega.{arith}
use borrow.Author.Tests.{eq-eqb, ne_eqb, eqb-true, eqb-false, le-leb, lt-leb}
use lib.Dec.{eqb, leb}
use lib.ListN.{length, length-replicate}
use Rattle.numbers.specs.Choice.{pick}
use Rattle.numbers.proofs.Bounds.{both_true}
use Rattle.slices.specs.Slices.{put}
use Rattle.slices.proofs.Laws.{put_whole}
use Rattle.gauge.proofs.Reached.{image_sized}
use Rattle.runs.specs.Run.{Did}
use Rattle.runs.specs.declared.Session.{Session}
use Rattle.session_run.specs.SessionRun.{empty_of}
use Rattle.tray_record.specs.declared.Tray.{Tray}
use Rattle.tray_record.specs.Tray.{empty_tray}
use Rattle.state_bytes.specs.State.{state_size, state_bytes, StateIn, state_in, number_in, session_in, state_refusal_number, StateOut}
use Rattle.state_bytes.specs.TrayState.{tray_state_size, tray_state_bytes, TrayStateIn, tray_state_in, tray_in, TrayStateOut}
use Rattle.state_bytes.proofs.Undoing.{state_length, undoing}
use Rattle.state_bytes.proofs.TrayUndoing.{empty_tray_good, tray_state_length, tray_undoing}
use Rattle.state_bytes.specs.declared.StateRefusal.{StateRefusal}
use Rattle.state_bytes.specs.declared.StateRefusal.TheVariants as why
use Rattle.state_bytes.specs.declared.Step.{Step}
use Rattle.state_bytes.specs.Steps.{StateStep, said_of, StateStepped, TrayStateStepped}
use Rattle.library.specs.Library.{KeptAs, kept_pack, kept_tray, Started, is_state, headed, doing, RecordDone, ImageTaken}

never : true ≡ false → ⊥
never e = let z : ◌≡◌ {A = ℕ} 0 1 = cc in omega arith

-- ---- of any state

module _ {S : Type 0} (k : KeptAs S) where
  module _ {room : List ℕ} where
    pub started : {after : List ℕ} → length room ≡ k.size → length (k.bytes_of k.first) ≡ k.size → after ≡ put room 0 (k.bytes_of k.first)
        → Started k room 0 after
    started size long e =
        let fits = eq-eqb (length room) k.size size in
        record { answered = simp fits; kept = e ∙ put_whole room (k.bytes_of k.first) (long ∙ sym size) ∙ simp fits }

    pub not_started : (length room ≡ k.size → ⊥) → Started k room 53 room
    not_started other =
        let none = ne_eqb (length room) k.size other in
        record { answered = simp none; kept = simp none }

  module _ {state bytes room : List ℕ} where
    pub record_short : length bytes < 4 → RecordDone k state bytes room (record { answer = 54; count = 0 }) state room
    record_short short =
        let none = lt-leb 4 (length bytes) short in
        record {
          answered = simp none;
          counted = simp none;
          kept = simp none;
          written = simp none;
          again = λ run. absurd (never (sym (both_true _ _ run).0 ∙ none));
        }

    -- a step by state bytes: its number, answer, count and reply, what is left where nothing was run, and where something was
    pub record_done : {read answer replied : ℕ} {after last : List ℕ} → 4 ≤ length bytes → read ≡ k.number_of state
        → answer ≡ pick (is_state k state) (doing k state bytes room).answer 0
        → replied ≡ pick (is_state k state) (length (doing k state bytes room).reply) 0
        → (is_state k state ≡ false → after ≡ state) → (read ≡ 0 → after ≡ k.bytes_of (doing k state bytes room).state)
        → last ≡ pick (is_state k state) (put room 0 (doing k state bytes room).reply) room
        → (read ≡ 0 → (k.number_of after ≡ 0) × (k.held after ≡ (doing k state bytes room).state))
        → RecordDone k state bytes room (record { answer = pick (eqb read 0) answer read; count = replied }) after last
    record_done {read} {answer} {replied} {after} {last} long number answered counted stays moves written again = by (is_state k state) refl
      where
        head : leb 4 (length bytes) ≡ true
        head = le-leb 4 (length bytes) long

        by : (b : Bool) → is_state k state ≡ b
            → RecordDone k state bytes room (record { answer = pick (eqb read 0) answer read; count = replied }) after last
        by true held =
            let zero : read ≡ 0 = number ∙ eqb-true (k.number_of state) 0 held in
            record {
              answered = simp (eq-eqb read 0 zero, answered, head, held);
              counted = counted ∙ simp (head, held);
              kept = moves zero ∙ simp (head, held);
              written = written ∙ simp (head, held);
              again = λ run. again zero;
            }
        by false held =
            let some = ne_eqb read 0 (λ e. eqb-false (k.number_of state) 0 held (sym number ∙ e)) in
            record {
              answered = (simp some) ∙ number ∙ simp (head, held);
              counted = counted ∙ simp (head, held);
              kept = stays held ∙ simp (head, held);
              written = written ∙ simp (head, held);
              again = λ run. absurd (never (sym (both_true (headed k state bytes room) (is_state k state) run).1 ∙ held));
            }

  module _ (number : S → List ℕ → ℕ) (filled : S → List ℕ → List ℕ) (size : S → ℕ) {state room : List ℕ} {read : ℕ} (is : read ≡ k.number_of state) where
    pub image_none : (read ≡ 0 → ⊥) → ImageTaken k number filled size state room (record { answer = read; count = 0 }) room
    image_none other =
        let none = ne_eqb (k.number_of state) 0 (λ e. other (is ∙ e)) in
        record { answered = is ∙ simp none; counted = simp none; written = simp none }

    module _ {σ : S} {answer : ℕ} {after : List ℕ} (same : σ ≡ k.held state) (zero : read ≡ 0) (a : answer ≡ number σ room) (w : after ≡ filled σ room) where
      pub image_refused : (answer ≡ 0 → ⊥) → ImageTaken k number filled size state room (record { answer = answer; count = 0 }) after
      image_refused other =
          let held = eq-eqb (k.number_of state) 0 (sym is ∙ zero) in
          let here : answer ≡ number (k.held state) room = a ∙ ap (λ (s : S). number s room) same in
          let there : after ≡ filled (k.held state) room = w ∙ ap (λ (s : S). filled s room) same in
          let none = ne_eqb (number (k.held state) room) 0 (λ e. other (here ∙ e)) in
          record { answered = here ∙ simp held; counted = simp (held, none); written = there ∙ simp held }

      pub image_taken : {count : ℕ} → answer ≡ 0 → count ≡ size σ → ImageTaken k number filled size state room (record { answer = 0; count = count }) after
      image_taken done e =
          let held = eq-eqb (k.number_of state) 0 (sym is ∙ zero) in
          let here : answer ≡ number (k.held state) room = a ∙ ap (λ (s : S). number s room) same in
          let there : after ≡ filled (k.held state) room = w ∙ ap (λ (s : S). filled s room) same in
          let some = eq-eqb (number (k.held state) room) 0 (sym here ∙ done) in
          record { answered = sym done ∙ here ∙ simp held; counted = e ∙ ap size same ∙ simp (held, some); written = there ∙ simp held }

-- ---- of one pack

pub pack_started : {room after : List ℕ} {σ : Session} {done : Result ⊤ StateRefusal} → length room ≡ state_size → σ ≡ empty_of → StateOut σ room done after
    → Started kept_pack room 0 after
pack_started {room} {after} {σ} size e h =
    let long = le-leb state_size (length room) (omega (arith, size)) in
    let front : after ≡ put room 0 (state_bytes σ) = h.written ∙ simp long in
    let sized = image_sized _ _ (length-replicate {A = ℕ} 60 0) in
    started kept_pack size (state_length empty_of sized) (front ∙ ap (λ (s : Session). put room 0 (state_bytes s)) e)

-- ---- a step that was run, and one that was refused

abbrev step_numbers : StateStep → ℕ × (ℕ × ℕ)
step_numbers (Ok s) = (0, (s.answer, s.replied))
step_numbers (Err r) = (state_refusal_number r, (0, 0))

-- its number, its answer and its count, by what was read
by_read : {S : Type 0} (x : Result S StateRefusal) (d : Did S)
    → step_numbers (said_of x d) ≡ (number_in x, (pick (eqb (number_in x) 0) d.answer 0, pick (eqb (number_in x) 0) (length d.reply) 0))
by_read (Ok σ) d = refl
by_read (Err why.Size) d = refl
by_read (Err why.Version) d = refl
by_read (Err why.Unsound) d = refl

module _ {state bytes room after last : List ℕ} {r : StateStep} where
  module _ (long : 4 ≤ length bytes) (h : StateStepped state bytes room r after last) where
    -- what the caller is told
    pack_said : RecordDone kept_pack state bytes room (record {
      answer = pick (eqb (step_numbers r).0 0) (step_numbers r).1.0 (step_numbers r).0;
      count = (step_numbers r).1.1;
    }) after last
    pack_said =
        let did = doing kept_pack state bytes room in
        let told = ap step_numbers h.said ∙ by_read (state_in state) did in
        let zero : (step_numbers r).0 ≡ 0 → number_in (state_in state) ≡ 0 = λ z. sym (ap (λ (n : ℕ × (ℕ × ℕ)). n.0) told) ∙ z in
        let moves : (step_numbers r).0 ≡ 0 → after ≡ state_bytes did.state = λ z.
        sym (undoing.forth after (ap (λ (x : StateIn). number_in x) (h.again (zero z))))
        ∙ ap (λ (x : StateIn). state_bytes (session_in x)) (h.again (zero z)) in
        record_done kept_pack long (ap (λ (n : ℕ × (ℕ × ℕ)). n.0) told) (ap (λ (n : ℕ × (ℕ × ℕ)). n.1.0) told) (ap (λ (n : ℕ × (ℕ × ℕ)). n.1.1) told)
        (λ none. h.kept ∙ simp none) moves h.written
        (λ z. (ap (λ (x : StateIn). number_in x) (h.again (zero z)), ap (λ (x : StateIn). session_in x) (h.again (zero z))))

    pub pack_done : {s : Step} → r ≡ Ok s → RecordDone kept_pack state bytes room (record { answer = s.answer; count = s.replied }) after last
    pack_done e = rw e at pack_said

  -- ---- of a tray

  module _ (long : 4 ≤ length bytes) (h : TrayStateStepped state bytes room r after last) where
    tray_said : RecordDone kept_tray state bytes room (record {
      answer = pick (eqb (step_numbers r).0 0) (step_numbers r).1.0 (step_numbers r).0;
      count = (step_numbers r).1.1;
    }) after last
    tray_said =
        let did = doing kept_tray state bytes room in
        let told = ap step_numbers h.said ∙ by_read (tray_state_in state) did in
        let zero : (step_numbers r).0 ≡ 0 → number_in (tray_state_in state) ≡ 0 = λ z. sym (ap (λ (n : ℕ × (ℕ × ℕ)). n.0) told) ∙ z in
        let moves : (step_numbers r).0 ≡ 0 → after ≡ tray_state_bytes did.state = λ z.
        sym (tray_undoing.forth after (ap (λ (x : TrayStateIn). number_in x) (h.again (zero z))))
        ∙ ap (λ (x : TrayStateIn). tray_state_bytes (tray_in x)) (h.again (zero z)) in
        record_done kept_tray long (ap (λ (n : ℕ × (ℕ × ℕ)). n.0) told) (ap (λ (n : ℕ × (ℕ × ℕ)). n.1.0) told) (ap (λ (n : ℕ × (ℕ × ℕ)). n.1.1) told)
        (λ none. h.kept ∙ simp none) moves h.written
        (λ z. (ap (λ (x : TrayStateIn). number_in x) (h.again (zero z)), ap (λ (x : TrayStateIn). tray_in x) (h.again (zero z))))

    pub tray_done : {s : Step} → r ≡ Ok s → RecordDone kept_tray state bytes room (record { answer = s.answer; count = s.replied }) after last
    tray_done e = rw e at tray_said

pub tray_started : {room after : List ℕ} {τ : Tray} {done : Result ⊤ StateRefusal} → length room ≡ tray_state_size → τ ≡ empty_tray
    → TrayStateOut τ room done after → Started kept_tray room 0 after
tray_started {room} {after} {τ} size e h =
    let long = le-leb tray_state_size (length room) (omega (arith, size)) in
    let front : after ≡ put room 0 (tray_state_bytes τ) = h.written ∙ simp long in
    started kept_tray size (tray_state_length empty_tray empty_tray_good) (front ∙ ap (λ (t : Tray). put room 0 (tray_state_bytes t)) e)
