-- What the arms of the match leave of a session: whether an image was accepted, a gauge that is well-formed, and the room.
use mathlib.Core.Path.{◌≡◌, refl, sym, ap, subst, ◌∙◌}
use mathlib.Core.Bool.{Bool, true, false}
use mathlib.Core.List.{List, ◌++◌}
use Prim.Native.Nat.{ℕ, ◌+◌, ◌-◌, ◌≤◌}
use lib.ListN.{length, take, drop}
use Rattle.std.specs.Prelude.{Ok, None}
use Rattle.slices.specs.Slices.{part, pair_at}
use Rattle.bus.specs.declared.Transaction.{Transaction}
use Rattle.gauge.specs.declared.Gauge.{Gauge}
use Rattle.gauge.specs.Gauge.{GaugeWf}
use Rattle.gauge.specs.Act.{act_of, reply_of}
use Rattle.record.specs.declared.Event.{Event}
use Rattle.record.specs.declared.Event.TheVariants.{Transact}
use Rattle.record.specs.Record.{master_of}
use Rattle.record.proofs.Fits.{Taking, timed_taking}
use Rattle.runs.specs.Record.{Rec}
use Rattle.runs.specs.Run.{silently, code_of}
use Rattle.runs.specs.declared.Session.{Session}
use Rattle.runs.specs.declared.Record.{Record}
use Rattle.runs.specs.AnyRecord.{record_by}
use Rattle.runs.specs.SessionRecord.{SessionWf, loaded_with, last_tick, event_did, of_session, did_of}
use Rattle.runs.proofs.AnyRecord.{session_replying}
use Rattle.runs.proofs.Fronts.{payload_of, Ran, Front}
use Rattle.runs.proofs.Turns as every
use Rattle.runs.proofs.Turns.{master_part}

pub did_same : (σ : Session) (room : ℕ) (r : Rec) → did_of σ room r ≡ record_by of_session σ room r
unfolding did_of
did_same σ room r = refl

abbrev pub Turn : Session → List ℕ → ℕ → List ℕ → Bool → Gauge → List ℕ → ℕ → ℕ → Type 0
Turn σ room used l loaded gauge = every.Turn of_session did_of did_same SessionWf σ room used l (record { loaded = loaded; gauge = gauge })

abbrev pub Stands : Session → List ℕ → List ℕ → List ℕ → Bool → Gauge → ℕ → ℕ → ℕ → List ℕ → List ℕ → Type 0
Stands start s room₀ answers₀ loaded gauge =
    every.Stands of_session did_of did_same SessionWf start s room₀ answers₀ (record { loaded = loaded; gauge = gauge })

-- an event that was taken came at its time, with a payload of its kind's size
pub ran_taking : {σ : Session} {room : ℕ} {l : List ℕ} {used : ℕ} {e : Event} → Ran of_session σ room l used e
    → Taking false σ.loaded (payload_of used l) (Ok e)
ran_taking {σ} {l = l} {used} x =
    subst (Taking false σ.loaded (payload_of used l)) x.told (timed_taking σ.loaded (payload_of used l) (last_tick σ) (pair_at l 2))

-- a state in which an image was accepted
with_gauge : {loaded : Bool} {gauge g h : Gauge} → GaugeWf g → loaded ≡ true → gauge ≡ g → g ≡ h
    → (◌≡◌ {A = Session} (record { loaded = loaded; gauge = gauge }) (loaded_with h)) × SessionWf (record { loaded = loaded; gauge = gauge })
with_gauge w el eg e = ((λ i. record { loaded = el i; gauge = (eg ∙ e) i }), record { gauge = subst GaugeWf (sym eg) w })

module _ {σ : Session} {room : List ℕ} {used : ℕ} {l : List ℕ} {r : Record} {loaded : Bool} {gauge : Gauge} {after : List ℕ} {next line : ℕ}
    (f : Front of_session σ (length room - used) l r) where
  pub turn_idle : r.event ≡ None → GaugeWf σ.gauge → loaded ≡ σ.loaded → gauge ≡ σ.gauge
      → after ≡ room → next ≡ used → line ≡ code_of r.kind r.answer 0 → Turn σ room used l loaded gauge after next line
  turn_idle a w el eg =
      every.turn_idle of_session did_of did_same SessionWf f (record { gauge = subst GaugeWf (sym eg) w }) a (λ i. record { loaded = el i; gauge = eg i })

  module _ {g : Gauge} (w : GaugeWf g) (el : loaded ≡ true) (eg : gauge ≡ g) where
    pub turn_silent : {e : Event} {h : Gauge} → Ran of_session σ (length room - used) l r.used e → g ≡ h
        → event_did σ (payload_of r.used l) e ≡ silently (loaded_with h) 0
        → after ≡ room → next ≡ used → line ≡ code_of r.kind r.answer 0 → Turn σ room used l loaded gauge after next line
    turn_silent x e d =
        let v = with_gauge w el eg e in
        every.turn_silent of_session did_of did_same SessionWf f v.1 x (d ∙ ap (λ (τ : Session). silently τ 0) (sym v.0))

    -- the master bytes of a transaction were lent
    pub turn_reply : {t : Transaction} {back : List ℕ} → Ran of_session σ (length room - used) l r.used (Transact t) → used ≤ length room
        → g ≡ act_of σ.gauge t (part (r.used - (4 + t.start)) l (4 + t.start))
        → back ≡ reply_of σ.gauge t (part (r.used - (4 + t.start)) l (4 + t.start)) ++ drop t.count (part (length room - used) room used)
        → after ≡ take used room ++ (back ++ drop (length room - used) (drop used room))
        → next ≡ used + t.count → line ≡ code_of r.kind r.answer t.count → Turn σ room used l loaded gauge after next line
    turn_reply {t} {back} x fits e ea =
        let m = master_part r.used t.start l in
        let v = with_gauge w el eg (e ∙ ap (act_of σ.gauge t) (sym m)) in
        let b : back ≡ reply_of σ.gauge t (master_of t (payload_of r.used l)) ++ drop t.count (part (length room - used) room used) = rw m ea in
        every.turn_reply of_session did_of did_same SessionWf f v.1 session_replying x fits v.0 b
