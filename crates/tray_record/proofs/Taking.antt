-- What a record that a tray takes has: an image comes while there is room for it, a slot's event names a pack, a transaction has its bytes.
use mathlib.Core.Path.{◌≡◌, refl, sym, subst, ◌∙◌}
use mathlib.Core.Bool.{Bool, true, false}
use mathlib.Core.List.{List}
use Prim.Native.Nat.{ℕ, ◌-◌, ◌≤◌, ◌<◌}
use native.Mathlib.Omega.{arith}
use borrow.Author.Tests.{leb-true, leb-false, ltb-true}
use lib.Dec.{ltb, leb}
use lib.ListN.{length, drop}
use Rattle.std.specs.Prelude.{Ok, Err}
use Rattle.numbers.specs.Choice.{either}
use Rattle.numbers.proofs.Bounds.{picked}
use Rattle.state.specs.declared.Tick.{Tick}
use Rattle.record.specs.declared.Kind.{Kind}
use Rattle.record.specs.declared.Kind.TheVariants as kind
use Rattle.record.specs.declared.Change.{Change as Changing}
use Rattle.record.specs.declared.Event.{Event}
use Rattle.record.specs.declared.Event.TheVariants.{Image, Change, Transact}
use Rattle.state.specs.State.{image_size_of}
use Rattle.record.specs.Record.{judged_by, taken_by, timed_of, Mastered, Taken}
use Rattle.record.proofs.Fits.{Taking, timed_by, kind_sort, Sorted, sorted_by, judged_alone}
use Rattle.slices.specs.Slices.{pair_at}
use Rattle.runs.specs.Record.{Rec}
use Rattle.runs.specs.AnyRecord.{record_by}
use Rattle.runs.proofs.Fronts.{payload_of, Ran}
use Rattle.tray_record.specs.declared.Tray.{Tray}
use Rattle.tray_record.specs.Tray.{tray_kind_of, ahead_of, slot_in, accepted_for, tray_asked_by, again_of, slot_tick, tray_told, named_slot, of_tray, tray_did}
use Rattle.tray_record.specs.Tray.{TrayWf}
use Rattle.tray_record.proofs.Fronts.{named_slot_lem}

module _ (count : ℕ) (closed : Bool) (p : List ℕ) where
  abbrev pub TrayTaking : Bool → Taken → Type 0
  TrayTaking again (Ok (Image f)) = (closed ≡ false) × (count < 8) × (length p ≡ image_size_of f) × (again ≡ false) × (judged_by f p ≡ Ok (Image f))
  TrayTaking again (Ok (Change c)) = (1 ≤ length p) × (slot_in p < count)
  TrayTaking again (Ok (Transact t)) = (0 < count) × Mastered t p
  TrayTaking again (Err r) = Unit

  image_kind_lem : (k : Kind) → 0 ≡ kind_sort k → (accepted_for count closed k p ≡ either closed (leb 8 count)) × (ahead_of k ≡ 0)
  image_kind_lem (kind.Image f) e = (refl, refl)
  image_kind_lem kind.Reading e = absurd (omega arith)
  image_kind_lem kind.Conversion e = absurd (omega arith)
  image_kind_lem (kind.Transaction f) e = absurd (omega arith)
  image_kind_lem kind.PowerOn e = absurd (omega arith)
  image_kind_lem kind.Sample e = absurd (omega arith)
  image_kind_lem kind.Unknown e = absurd (omega arith)

  transaction_kind : (k : Kind) → 2 ≡ kind_sort k → (accepted_for count closed k p ≡ ltb 0 count) × (ahead_of k ≡ 0)
  transaction_kind (kind.Image f) e = absurd (omega arith)
  transaction_kind kind.Reading e = absurd (omega arith)
  transaction_kind kind.Conversion e = absurd (omega arith)
  transaction_kind (kind.Transaction f) e = (refl, refl)
  transaction_kind kind.PowerOn e = absurd (omega arith)
  transaction_kind kind.Sample e = absurd (omega arith)
  transaction_kind kind.Unknown e = absurd (omega arith)

  slot_kind : (k : Kind) → 1 ≡ kind_sort k → ahead_of k ≤ length p → accepted_for count closed k p ≡ true → (1 ≤ length p) × (slot_in p < count)
  slot_kind (kind.Image f) e h a = absurd (omega arith)
  slot_kind kind.Reading e h a = (h, ltb-true (slot_in p) count a)
  slot_kind kind.Conversion e h a = (h, ltb-true (slot_in p) count a)
  slot_kind (kind.Transaction f) e h a = absurd (omega arith)
  slot_kind kind.PowerOn e h a = (h, ltb-true (slot_in p) count a)
  slot_kind kind.Sample e h a = (h, ltb-true (slot_in p) count a)
  slot_kind kind.Unknown e h a = absurd (omega arith)

  opening : (c : Bool) → either c (leb 8 count) ≡ false → (c ≡ false) × (count < 8)
  opening true e = let z : ◌≡◌ {A = Bool} true false = e in absurd (never z)
    where
      Is : Bool → Type 0
      Is true = Unit
      Is false = ⊥

      never : true ≡ false → ⊥
      never z = subst Is z tt
  opening false e = (refl, leb-false 8 count e)

  by_event : (again : Bool) (k : Kind) → ahead_of k ≤ length p → (t : Taken) → Sorted k t →
      Taking again (accepted_for count closed k p) (drop (ahead_of k) p) t
      → TrayTaking again t
  by_event again k h (Ok (Image f)) s x =
      let e = image_kind_lem k s in
      let o = opening closed (sym e.0 ∙ x.0) in
      let j = judged_alone f again p (rw e.1 at x.1) in
      (o.0, o.1, rw e.1 at x.2, j.0, j.1)
  by_event again k h (Ok (Change c)) s x = slot_kind k s h x
  by_event again k h (Ok (Transact t)) s x =
      let e = transaction_kind k s in
      (ltb-true 0 count (sym e.0 ∙ x.0), rw e.1 at x.1)
  by_event again k h (Err r) s x = tt

  asked_taking : (again : Bool) (last : Tick) (k : Kind) → TrayTaking again (tray_asked_by count closed again last k p)
  asked_taking again last k =
      picked (TrayTaking again) (leb (ahead_of k) (length p)) _ _
      (λ long. by_event again k (leb-true (ahead_of k) (length p) long) (timed_of last (taken_by again k (accepted_for count closed k p) (drop (ahead_of k) p)))
      (sorted_by again (accepted_for count closed k p) (drop (ahead_of k) p) last k)
      (timed_by again (accepted_for count closed k p) (drop (ahead_of k) p) last k))
      (λ short. tt)

pub tray_taking : (τ : Tray) (n : ℕ) (p : List ℕ) → TrayTaking τ.count τ.closed p (again_of τ p) (tray_told τ n p)
tray_taking τ n p = asked_taking τ.count τ.closed p (again_of τ p) (slot_tick τ p) (tray_kind_of n)

-- ---- of a record that was read

pub did_same : (τ : Tray) (room : ℕ) (r : Rec) → tray_did τ room r ≡ record_by of_tray τ room r
unfolding tray_did
did_same τ room r = refl

-- what is taken has what it asks for
pub ran_taking : {τ : Tray} {room : ℕ} {l : List ℕ} {used : ℕ} {e : Event} → Ran of_tray τ room l used e
    → TrayTaking τ.count τ.closed (payload_of used l) (again_of τ (payload_of used l)) (Ok e)
ran_taking {τ} {l = l} {used} x =
    subst (TrayTaking τ.count τ.closed (payload_of used l) (again_of τ (payload_of used l))) x.told (tray_taking τ (pair_at l 2) (payload_of used l))

-- the slot of a slot's event is one of eight, and the one that was named
pub slot_inside : {τ : Tray} {room : ℕ} {l : List ℕ} {used : ℕ} {c : Changing} → TrayWf τ → Ran of_tray τ room l used (Change c) →
    slot_in (payload_of used l) < 8
slot_inside w x = omega (arith, (ran_taking x).1, w.few)

pub slot_named_lem : {τ : Tray} {room : ℕ} {l : List ℕ} {used : ℕ} {c : Changing} {i : ℕ} → TrayWf τ → Ran of_tray τ room l used (Change c) →
    i ≡ named_slot l → i ≡ slot_in (payload_of used l)
slot_named_lem {l = l} {used} w x e = e ∙ named_slot_lem (used - 4) l (ran_taking x).0 (slot_inside w x)
