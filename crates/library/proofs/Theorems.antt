-- Calls one after another, once for any state that is kept as bytes.
use mathlib.Core.Path.{◌≡◌, refl, ap, ◌∙◌}
use mathlib.Core.Bool.{Bool, true, false}
use mathlib.Core.List.{List, [], ◌∷◌}
use Prim.Native.Nat.{ℕ}
use native.Mathlib.Omega.{arith}
use borrow.Author.Tests.{eq-eqb}
use lib.Dec.{eqb, leb}
use lib.ListN.{length, length-replicate}
use Rattle.numbers.specs.Choice.{pick}
use Rattle.gauge.proofs.Reached.{image_sized, image_uncounted}
use Rattle.runs.specs.Record.{rec_of}
use Rattle.session_run.specs.SessionRun.{empty_of}
use Rattle.tray_record.specs.Tray.{empty_tray}
use Rattle.state_bytes.specs.State.{StateIn, number_in, session_in}
use Rattle.state_bytes.specs.TrayState.{TrayStateIn, tray_in}
use Rattle.state_bytes.specs.Theorems.{StateWf}
use Rattle.state_bytes.proofs.Undoing.{undoing}
use Rattle.state_bytes.proofs.TrayUndoing.{no_gauge_wf, empty_tray_good, tray_undoing}
use Rattle.library.specs.Library.{KeptAs, kept_pack, kept_tray, Started, is_state, RecordDone}
use Rattle.library.specs.Theorems.{LibraryCall, CallsDone, last_kept, all_done, CallAfterCall, LibraryTheorems}

module _ {S : Type 0} (k : KeptAs S) where
  -- bytes that stand for a state
  record Stands (state : List ℕ) (σ : S) : Type 0 where
    number : k.number_of state ≡ 0
    held : k.held state ≡ σ

  -- a call leaves bytes that do, of the state after its record
  called : (state : List ℕ) (σ : S) (c : LibraryCall) → Stands state σ → RecordDone k state c.bytes c.room c.said c.after c.last
      → Stands c.after (pick (leb 4 (length c.bytes)) (k.did σ (length c.room) (rec_of c.bytes)).state σ)
  called state σ c s done = by (leb 4 (length c.bytes)) refl
    where
      is : is_state k state ≡ true
      is = eq-eqb (k.number_of state) 0 s.number

      by : (b : Bool) → leb 4 (length c.bytes) ≡ b → Stands c.after (pick b (k.did σ (length c.room) (rec_of c.bytes)).state σ)
      by true long =
          let told = done.again (simp (long, is)) in
          record { number = told.0; held = told.1 ∙ ap (λ (x : S). (k.did x (length c.room) (rec_of c.bytes)).state) s.held }
      by false short =
          let stays : c.after ≡ state = done.kept ∙ simp short in
          record { number = ap k.number_of stays ∙ s.number; held = ap k.held stays ∙ s.held }

  calls_stand : (state : List ℕ) (σ : S) (cs : List LibraryCall) → Stands state σ → CallsDone k state cs → Stands (last_kept k state cs) (all_done k σ cs)
  calls_stand state σ [] s done = s
  calls_stand state σ (c ∷ cs) s done = calls_stand c.after _ cs (called state σ c s done.0) done.1

  -- a start that is answered 0 wrote the state before the first record
  begun : {room first : List ℕ} → Started k room 0 first → first ≡ k.bytes_of k.first
  begun {room} {first} s = by (eqb (length room) k.size) s.answered s.kept
    where
      by : (b : Bool) → ◌≡◌ {A = ℕ} 0 (pick b 0 53) → first ≡ pick b (k.bytes_of k.first) room → first ≡ k.bytes_of k.first
      by true zero kept = kept
      by false zero kept = absurd (omega (arith, zero))

  after_call : Stands (k.bytes_of k.first) k.first → CallAfterCall k
  after_call fresh = record {
    taken = λ room first calls s done. (standing room first calls s done).number;
    stands = λ room first calls s done. (standing room first calls s done).held;
  }
    where
      standing : (room first : List ℕ) (calls : List LibraryCall) → Started k room 0 first → CallsDone k first calls
          → Stands (last_kept k first calls) (all_done k k.first calls)
      standing room first calls s done =
          let is = begun s in
          calls_stand first k.first calls (record { number = ap k.number_of is ∙ fresh.number; held = ap k.held is ∙ fresh.held }) done

pub theorems : LibraryTheorems
theorems = record {
  pack =
      let good : StateWf empty_of = record {
        wf = record { gauge = no_gauge_wf };
        sized = image_sized _ _ (length-replicate {A = ℕ} 60 0);
        uncounted = image_uncounted _ _;
      } in
      let back = undoing.back empty_of good in
      after_call kept_pack (record { number = ap (λ (x : StateIn). number_in x) back; held = ap (λ (x : StateIn). session_in x) back });
  tray =
      let back = tray_undoing.back empty_tray empty_tray_good in
      after_call kept_tray (record { number = ap (λ (x : TrayStateIn). number_in x) back; held = ap (λ (x : TrayStateIn). tray_in x) back });
}
