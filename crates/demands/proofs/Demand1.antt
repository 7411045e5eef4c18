-- Demand 1, proved of any state whose events are answered 0 and whose refusals have numbers up to the highest; sessions and trays are cases.
use mathlib.Core.Path.{◌≡◌, refl}
use mathlib.Core.Logic.{inl, inr}
use mathlib.Core.List.{List, []}
use Prim.Native.Nat.{ℕ, ◌≤◌}
use native.Mathlib.Omega.{arith}
use lib.Dec.{ltb}
use Rattle.std.specs.Prelude.{Ok, Err}
use Rattle.numbers.proofs.Bounds.{picked}
use Rattle.record.specs.declared.Refusal.{Refusal}
use Rattle.record.specs.declared.Refusal.TheVariants.{Room}
use Rattle.record.specs.declared.Event.{Event}
use Rattle.record.specs.Record.{refusal_number, asks_of, fitted_of, Taken}
use Rattle.record.proofs.Fits.{refusal_range, NumberedTo, plain_numbered}
use Rattle.runs.specs.Record.{Rec, whole, cut}
use Rattle.runs.specs.Run.{Did}
use Rattle.runs.specs.AnyRecord.{Steps, answered_by, record_by}
use Rattle.runs.specs.SessionRecord.{last_tick, of_session, did_of}
use Rattle.runs.proofs.AnyRecord.{Replying, session_replying}
use Rattle.session_run.specs.SessionRun.{empty_of}
use Rattle.tray_record.specs.Tray.{empty_tray, tray_told, of_tray, tray_did}
use Rattle.demands.specs.Demand1.{Numbered, session_most, tray_most, Demand1}
use Rattle.demands.proofs.Every.{Lawful, run_sound}
use Rattle.tray_record.proofs.Hearing.{tray_replying}

-- One record

record Judged {S : Type 0} (most : ℕ) (σ : S) (d : Did S) : Type 0 where
  number : Numbered most d.answer
  still : (d.answer ≡ 0 → ⊥) → (d.state ≡ σ) × (d.reply ≡ [])

-- where what is asked has no refusal above the highest number, nor is 9, which the room decides
module _ {S : Type 0} (k : Steps S) (h : Replying k) (most : ℕ) (room-number : refusal_number Room ≤ most)
    (told : (σ : S) (kind : ℕ) (p : List ℕ) → NumberedTo most (k.told σ kind p)) where
  module _ (σ : S) (room : ℕ) where
    event_judged : (p : List ℕ) (e : Event) → Judged most σ (k.event σ p e)
    event_judged p e = record { number = inl (h.answer σ p e); still = λ other. absurd (other (h.answer σ p e)) }

    refused_judged : (p : List ℕ) (r : Refusal) → refusal_number r ≤ most → Judged most σ (answered_by k σ p (Err r))
    refused_judged p r few = record { number = inr ((refusal_range r).0, few); still = λ other. (refl, refl) }

    taken_judged : (p : List ℕ) (t : Taken) → NumberedTo most t → Judged most σ (answered_by k σ p (fitted_of room t))
    taken_judged p (Ok e) n =
        picked (λ (t : Taken). Judged most σ (answered_by k σ p t)) (ltb room (asks_of e)) _ _
        (λ full. refused_judged p Room room-number)
        (λ fits. event_judged p e)
    taken_judged p (Err r) n = refused_judged p r n

    whole_judged : (kind : ℕ) (p : List ℕ) → Judged most σ (record_by k σ room (whole kind p))
    whole_judged kind p = taken_judged p (k.told σ kind p) (told σ kind p)

    still : (r : Rec) → ((record_by k σ room r).answer ≡ 0 → ⊥) → ((record_by k σ room r).state ≡ σ) × ((record_by k σ room r).reply ≡ [])
    still (whole kind p) = (whole_judged kind p).still
    still cut = λ other. (refl, refl)

  lawful : Lawful most (record_by k)
  lawful = record {
    numbered = λ σ room kind p. (whole_judged σ room kind p).number;
    cuts = λ σ room. refl;
    still = λ σ room r. still σ room r;
  }

-- Sessions, in which 12 is no answer

session_lawful : Lawful session_most did_of
unfolding did_of
session_lawful =
    let l = lawful of_session session_replying session_most (omega arith) (λ σ kind p. plain_numbered (last_tick σ) kind σ.loaded p) in
    record { numbered = l.numbered; cuts = l.cuts; still = l.still }

pub demand_1 : Demand1 session_most did_of empty_of
demand_1 = run_sound did_of empty_of session_most session_lawful

-- Trays

numbered : (t : Taken) → NumberedTo tray_most t
numbered (Ok e) = tt
numbered (Err r) = (refusal_range r).1

tray_lawful : Lawful tray_most tray_did
unfolding tray_did
tray_lawful =
    let l = lawful of_tray tray_replying tray_most (omega arith) (λ τ kind p. numbered (tray_told τ kind p)) in
    record { numbered = l.numbered; cuts = l.cuts; still = l.still }

pub tray_demand_1 : Demand1 tray_most tray_did empty_tray
tray_demand_1 = run_sound tray_did empty_tray tray_most tray_lawful
