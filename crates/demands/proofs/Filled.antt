-- What an event leaves in each slot; and that each slot of a run that has a pack has one that events reach from an accepted image.
use mathlib.Core.Path.{◌≡◌, refl, sym, ap, ◌∙◌}
use mathlib.Core.Bool.{Bool, true, false}
use mathlib.Core.List.{List, [], ◌∷◌}
use Prim.Native.Nat.{ℕ, ◌+◌, ◌-◌, ◌<◌}
use native.Mathlib.Omega.{arith}
use borrow.Author.Tests.{eqb-true, eqb-false}
use lib.Dec.{eqb}
use lib.ListN.{length}
use Rattle.std.specs.Prelude.{Ok, Err}
use Rattle.state.specs.declared.Profile.{Profile}
use Rattle.numbers.specs.Choice.{pick}
use Rattle.numbers.proofs.Bounds.{picked}
use Rattle.gauge.specs.declared.Gauge.{Gauge}
use Rattle.gauge.specs.Change.{changed_of}
use Rattle.gauge.specs.Act.{act_of}
use Rattle.gauge.proofs.Kept.{address_kept}
use Rattle.gauge.specs.Image.{image_of}
use Rattle.gauge.specs.Reach.{Reached, accepted, changed, acted_on}
use Rattle.record.specs.declared.Kind.{Kind}
use Rattle.record.specs.declared.Event.{Event}
use Rattle.record.specs.declared.Event.TheVariants.{Image, Change, Transact}
use Rattle.record.specs.Record.{master_of, Taken}
use Rattle.runs.specs.Record.{Rec, whole, cut}
use Rattle.runs.specs.Run.{end_after}
use Rattle.runs.specs.AnyRecord.{answered_by}
use Rattle.tray_record.specs.declared.Tray.{Tray}
use Rattle.tray_record.specs.Tray.{empty_tray, pack_of, tray_kind_of, slot_in, tray_reach, tray_event, tray_told, of_tray, tray_did}
use Rattle.demands.specs.History.{hears_of}
use Rattle.demands.proofs.Fitted.{fitted_has}
use Rattle.demands.proofs.Packs.{Eight, stored_pack, stored_eight, acted_eight, acted_pack, acted_count}
use Rattle.demands.proofs.Asked.{Asks, tray_asks, reach_there}

-- The pack in a slot after an event

abbrev pub pack_after : Tray → List ℕ → Event → ℕ → Gauge
pack_after τ p (Image f) j = pick (eqb j τ.count) (image_of f p) (pack_of τ j)
pack_after τ p (Change c) j = pick (eqb j (slot_in p)) (changed_of (pack_of τ j) c) (pack_of τ j)
pack_after τ p (Transact t) j = pick (hears_of (tray_reach τ t (master_of t p)) τ.count j) (act_of (pack_of τ j) t (master_of t p)) (pack_of τ j)

-- and how many packs there are
abbrev pub count_after : Tray → Event → ℕ
count_after τ (Image f) = τ.count + 1
count_after τ (Change c) = τ.count
count_after τ (Transact t) = τ.count

module _ (τ : Tray) (h : Eight τ) (k : Kind) (p : List ℕ) where
  pub event_pack : (e : Event) → Asks τ k p (Ok e) → (j : ℕ) → pack_of (tray_event τ p e).state j ≡ pack_after τ p e j
  event_pack (Image f) a j = stored_pack τ τ.count j (image_of f p) h a.few
  event_pack (Change c) a j =
      stored_pack τ (slot_in p) j (changed_of (pack_of τ (slot_in p)) c) h (omega (arith, a.pack, h.few)) ∙ here (eqb j (slot_in p)) refl
    where
      here : (s : Bool) → eqb j (slot_in p) ≡ s →
          pick s (changed_of (pack_of τ (slot_in p)) c) (pack_of τ j) ≡ pick s (changed_of (pack_of τ j) c) (pack_of τ j)
      here true e = ap (λ (i : ℕ). changed_of (pack_of τ i) c) (sym (eqb-true j (slot_in p) e))
      here false e = refl
  event_pack (Transact t) a j = acted_pack t (master_of t p) τ h (tray_reach τ t (master_of t p)) (reach_there τ t (master_of t p)) j

  pub event_count : (e : Event) → (tray_event τ p e).state.count ≡ count_after τ e
  event_count (Image f) = refl
  event_count (Change c) = refl
  event_count (Transact t) = acted_count t (master_of t p) τ (tray_reach τ t (master_of t p))

  pub event_eight : (e : Event) → Asks τ k p (Ok e) → Eight (tray_event τ p e).state
  event_eight (Image f) a =
      let s = stored_eight τ τ.count (image_of f p) h in
      record { few = omega (arith, a.few); commons = s.commons; labels = s.labels; meters = s.meters }
  event_eight (Change c) a =
      let s = stored_eight τ (slot_in p) (changed_of (pack_of τ (slot_in p)) c) h in
      record { few = s.few; commons = s.commons; labels = s.labels; meters = s.meters }
  event_eight (Transact t) a =
      let s = acted_eight t (master_of t p) τ h (tray_reach τ t (master_of t p)) in
      record { few = s.few; commons = s.commons; labels = s.labels; meters = s.meters }

-- no event changes the address of a pack that is there
pub address_after_lem : (τ : Tray) (p : List ℕ) (e : Event) (j : ℕ) → ((f : Profile) → e ≡ Image f → j ≡ τ.count → ⊥) →
    (pack_after τ p e j).common.address ≡ (pack_of τ j).common.address
address_after_lem τ p (Image f) j old =
    picked (λ (g : Gauge). g.common.address ≡ (pack_of τ j).common.address) (eqb j τ.count) _ _
    (λ e. absurd (old f refl (eqb-true j τ.count e))) (λ e. refl)
address_after_lem τ p (Change c) j old =
    picked (λ (g : Gauge). g.common.address ≡ (pack_of τ j).common.address) (eqb j (slot_in p)) _ _
    (λ e. (address_kept (λ f a. a ≡ (pack_of τ j).common.address)).change (pack_of τ j) c refl)
    (λ e. refl)
address_after_lem τ p (Transact t) j old =
    picked (λ (g : Gauge). g.common.address ≡ (pack_of τ j).common.address) (hears_of (tray_reach τ t (master_of t p)) τ.count j) _ _
    (λ e. (address_kept (λ f a. a ≡ (pack_of τ j).common.address)).act (pack_of τ j) t (master_of t p) refl)
    (λ e. refl)

-- What each event keeps, a run keeps

module _ (P : Tray → Type 0) (kept : (τ : Tray) (k : Kind) (p : List ℕ) (e : Event) → P τ → Asks τ k p (Ok e) → P (tray_event τ p e).state) where
  taken_keeps : (τ : Tray) (k : Kind) (p : List ℕ) (t : Taken) → P τ → Asks τ k p t → P (answered_by of_tray τ p t).state
  taken_keeps τ k p (Ok e) h a = kept τ k p e h a
  taken_keeps τ k p (Err r) h a = h

  pub did_keeps : (τ : Tray) (room : ℕ) (r : Rec) → P τ → P (tray_did τ room r).state
  unfolding tray_did
  did_keeps τ room (whole n p) h =
      fitted_has (λ t. P (answered_by of_tray τ p t).state) h room (tray_told τ n p) (taken_keeps τ (tray_kind_of n) p (tray_told τ n p) h (tray_asks τ n p))
  did_keeps τ room cut h = h

  pub end_keeps : (τ : Tray) (room : ℕ) (rs : List Rec) → P τ → P (end_after tray_did τ room rs)
  end_keeps τ room [] h = h
  end_keeps τ room (r ∷ rs) h =
      let d = tray_did τ room r in
      end_keeps d.state (room - length d.reply) rs (did_keeps τ room r h)

pub did_eight : (τ : Tray) (room : ℕ) (r : Rec) → Eight τ → Eight (tray_did τ room r).state
did_eight τ room r h = did_keeps Eight (λ σ k p e u a. event_eight σ u k p e a) τ room r h

-- Each pack is one that events reach

pub record Filled (τ : Tray) : Type 0 where
  pub eight : Eight τ
  pub reached : (i : ℕ) → i < τ.count → Reached (pack_of τ i)

module _ (τ : Tray) (k : Kind) (p : List ℕ) (h : Filled τ) where
  event_reached : (e : Event) → Asks τ k p (Ok e) → (i : ℕ) → i < count_after τ e → Reached (pack_after τ p e i)
  event_reached (Image f) a i low =
      picked Reached (eqb i τ.count) _ _ (λ e. accepted f p a.judged) (λ e. h.reached i (omega (arith, eqb-false i τ.count e)))
  event_reached (Change c) a i low =
      picked Reached (eqb i (slot_in p)) _ _ (λ e. changed (pack_of τ i) c (h.reached i low)) (λ e. h.reached i low)
  event_reached (Transact t) a i low =
      picked Reached (hears_of (tray_reach τ t (master_of t p)) τ.count i) _ _
      (λ e. acted_on (pack_of τ i) t (master_of t p) (h.reached i low))
      (λ e. h.reached i low)

  event_filled : (e : Event) → Asks τ k p (Ok e) → Filled (tray_event τ p e).state
  event_filled e a = record {
    eight = event_eight τ h.eight k p e a;
    reached = λ i low. rw (event_pack τ h.eight k p e a i) (event_reached e a i (rw (event_count τ h.eight k p e) at low));
  }

pub empty_filled : Filled empty_tray
empty_filled = record { eight = record { few = omega arith; commons = refl; labels = refl; meters = refl }; reached = λ i low. absurd (omega arith) }

pub end_filled : (room : ℕ) (rs : List Rec) → Filled (end_after tray_did empty_tray room rs)
end_filled room rs = end_keeps Filled (λ τ k p e h a. event_filled τ k p h e a) empty_tray room rs empty_filled
