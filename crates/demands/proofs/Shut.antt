-- With reply room for all that is asked, and no image that joins, a run of a tray is one of trays without room; and what a label event or a gauge
-- event asks there is what its class looks at, and the tick.
use mathlib.Core.Path.{◌≡◌, refl, sym, ap, ◌∙◌}
use mathlib.Core.Bool.{Bool, true, false}
use mathlib.Core.List.{List, [], ◌∷◌, zip, zip_with}
use Prim.Native.Nat.{ℕ, ◌-◌, ◌≤◌, ◌<◌, zero-le}
use native.Mathlib.Omega.{arith}
use borrow.Author.Tests.{ltb-true, le-leb}
use lib.Dec.{leb, eqb}
use lib.ListN.{length, get_or, drop}
use Rattle.std.specs.Prelude.{Ok, Err}
use Rattle.state.specs.declared.Profile.{Profile}
use Rattle.state.specs.State.{image_size_of, no_tick, timely_of}
use Rattle.numbers.specs.Choice.{pick}
use Rattle.numbers.proofs.Bounds.{picked}
use Rattle.state.specs.declared.Tick.{Tick}
use Rattle.gauge.specs.declared.Gauge.{Gauge}
use Rattle.record.specs.declared.Change.TheVariants as change
use Rattle.record.specs.declared.Kind.{Kind}
use Rattle.record.specs.declared.Kind.TheVariants as kind
use Rattle.record.specs.declared.Refusal.TheVariants as refusal
use Rattle.record.specs.declared.Event.{Event}
use Rattle.record.specs.declared.Event.TheVariants.{Image, Change, Transact}
use Rattle.record.specs.Record.{limit_of, read_count, due_of, event_of, taken_by, timed_of, Taken}
use Rattle.runs.specs.Record.{Rec, whole, cut}
use Rattle.runs.specs.Run.{Did, silently, Line, line_of, lines_after, end_after}
use Rattle.runs.specs.AnyRecord.{Steps, answered_by}
use Rattle.tray_record.specs.declared.Tray.{Tray}
use Rattle.tray_record.specs.Tray.{pack_of, tray_kind_of, ahead_of, slot_in, accepted_for, tray_asked_by, again_of, slot_tick, tray_told, tray_event, of_tray}
use Rattle.tray_record.specs.Tray.{tray_did}
use Rattle.demands.specs.Sections.{fence}
use Rattle.demands.specs.Class.{Selects, taken_class, tray_asked}
use Rattle.demands.specs.Demand3.{taken_asks, rec_asks, asks_all}
use Rattle.demands.proofs.Choice.{contrary}
use Rattle.demands.proofs.Mix.{end_from, got_from}
use Rattle.demands.proofs.Room.{taken_room, timed_asks}
use Rattle.tray_record.proofs.Hearing.{tray_replying}
use Rattle.demands.proofs.Packs.{Eight}
use Rattle.demands.proofs.Asked.{asked_has, Asks, tray_asks}
use Rattle.demands.proofs.Filled.{count_after, did_eight, event_pack, event_count, event_eight, address_after_lem, end_keeps}

-- A tray that no image joins

abbrev pub shut_event : Tray → List ℕ → Event → Did Tray
shut_event τ p (Image f) = silently τ 0
shut_event τ p (Change c) = tray_event τ p (Change c)
shut_event τ p (Transact t) = tray_event τ p (Transact t)

abbrev pub of_shut : Steps Tray
of_shut = record { told = tray_told; event = shut_event }

-- what a record does there with room for it
abbrev pub free_tray : Tray → Rec → Did Tray
free_tray τ (whole n p) = answered_by of_shut τ p (tray_told τ n p)
free_tray τ cut = silently τ 2

abbrev pub tray_step : Tray → Rec → Tray
tray_step τ r = (free_tray τ r).state

abbrev pub tray_out : Tray → Rec → Line
tray_out τ r = line_of r (free_tray τ r)

-- as many packs as addresses, each with its own
pub record Owns (addresses : List (List ℕ)) (τ : Tray) : Type 0 where
  pub eight : Eight τ
  pub count : τ.count ≡ length addresses
  pub owned : (j : ℕ) → j < τ.count → (pack_of τ j).common.address ≡ get_or addresses j []

module _ (addresses : List (List ℕ)) (τ : Tray) (h : Owns addresses τ) where
  event_owns : (k : Kind) (p : List ℕ) (e : Event) → ((f : Profile) → e ≡ Image f → ⊥) → (tray_event τ p e).state.count ≡ τ.count →
      Asks τ k p (Ok e)
      → Owns addresses (tray_event τ p e).state
  event_owns k p e none same a = record {
    eight = event_eight τ h.eight k p e a;
    count = same ∙ h.count;
    owned = λ j low.
        ap (λ (g : Gauge). g.common.address) (event_pack τ h.eight k p e a j)
        ∙ address_after_lem τ p e j (λ f i. absurd (none f i))
        ∙ h.owned j (rw same at low);
  }

  taken_owns : (k : Kind) (p : List ℕ) (t : Taken) → Asks τ k p t → Owns addresses (answered_by of_shut τ p t).state
  taken_owns k p (Ok (Image f)) a = h
  taken_owns k p (Ok (Change c)) a = event_owns k p (Change c) (λ f e. contrary cc) refl a
  taken_owns k p (Ok (Transact t)) a = event_owns k p (Transact t) (λ f e. contrary cc) (event_count τ h.eight k p (Transact t)) a
  taken_owns k p (Err r) a = h

  pub step_owns : (r : Rec) → Owns addresses (tray_step τ r)
  step_owns (whole n p) = taken_owns (tray_kind_of n) p (tray_told τ n p) (tray_asks τ n p)
  step_owns cut = h

-- What a record asks, and what its class looks at

timed_none : (t : Taken) → timed_of no_tick t ≡ t
unfolding timely_of
timed_none (Ok (Image f)) = refl
timed_none (Ok (Change (change.Reading volt temp))) = refl
timed_none (Ok (Change (change.Conversion raw))) = refl
timed_none (Ok (Change (change.Sample raw tick))) = refl
timed_none (Ok (Change change.PowerOn)) = refl
timed_none (Ok (Transact t)) = refl
timed_none (Err r) = refl

-- of images, and of all other kinds
image_or : (P : Kind → Type 0) → ((f : Profile) → P (kind.Image f)) → ((k : Kind) → ((f : Profile) → k ≡ kind.Image f → ⊥) → P k) →
    (k : Kind) → P k
image_or P i h (kind.Image f) = i f
image_or P i h kind.Reading = h kind.Reading (λ f e. contrary cc)
image_or P i h kind.Conversion = h kind.Conversion (λ f e. contrary cc)
image_or P i h (kind.Transaction f) = h (kind.Transaction f) (λ f e. contrary cc)
image_or P i h kind.PowerOn = h kind.PowerOn (λ f e. contrary cc)
image_or P i h kind.Sample = h kind.Sample (λ f e. contrary cc)
image_or P i h kind.Unknown = h kind.Unknown (λ f e. contrary cc)

-- an image is refused in a tray that is closed: with 4 by its size, else with 5
pub image_asked : (f : Profile) (count : ℕ) (p : List ℕ)
    → tray_asked_by count true false no_tick (kind.Image f) p ≡ pick (eqb (length p) (image_size_of f)) (Err refusal.Order) (Err refusal.Size)
image_asked f count p = rw (le-leb 0 (length p) zero-le) (timed_none _)

pub image_size_lem : (f : Profile) (count : ℕ) (closed again : Bool) (last : Tick) (p : List ℕ) → eqb (length p) (image_size_of f) ≡ false
    → tray_asked_by count closed again last (kind.Image f) p ≡ Err refusal.Size
image_size_lem f count closed again last p e = rw (le-leb 0 (length p) zero-le, e) refl

module _ (count : ℕ) (closed again : Bool) (last : Tick) (p : List ℕ) where
  abbrev asks : Kind → Taken
  asks k = tray_asked_by count closed again last k p

  abbrev judged : Kind → Taken
  judged k = tray_asked_by count true false no_tick k p

  ahead : (a : Bool) {t u : Taken} → t ≡ u →
      pick a (timed_of last t) (Err refusal.Size) ≡ timed_of last (pick a (timed_of no_tick u) (Err refusal.Size))
  ahead true {t} {u} e = ap (timed_of last) (e ∙ sym (timed_none u))
  ahead false e = refl

  -- a record that is no image
  same_taken : (k : Kind) → ((f : Profile) → k ≡ kind.Image f → ⊥) → (q : List ℕ) →
      taken_by again k (accepted_for count closed k p) q ≡ taken_by false k (accepted_for count true k p) q
  same_taken (kind.Image f) other q = absurd (other f refl)
  same_taken kind.Reading other q = refl
  same_taken kind.Conversion other q = refl
  same_taken (kind.Transaction f) other q = refl
  same_taken kind.PowerOn other q = refl
  same_taken kind.Sample other q = refl
  same_taken kind.Unknown other q = refl

  asks_timed : (k : Kind) → ((f : Profile) → k ≡ kind.Image f → ⊥) → asks k ≡ timed_of last (judged k)
  asks_timed k other = ahead (leb (ahead_of k) (length p)) (same_taken k other (drop (ahead_of k) p))

  -- and one that is no fence
  module _ (selects : Selects) where
    image_class : (f : Profile) (t : Bool) → eqb (length p) (image_size_of f) ≡ t → (taken_class selects p (judged (kind.Image f)) ≡ fence → ⊥)
        → asks (kind.Image f) ≡ timed_of last (judged (kind.Image f))
    image_class f true e other = absurd (other (rw (image_asked f count p, e) refl))
    image_class f false e other = image_size_lem f count closed again last p e ∙ rw (image_asked f count p, e) refl

    class_timed : (k : Kind) → (taken_class selects p (judged k) ≡ fence → ⊥) → asks k ≡ timed_of last (judged k)
    class_timed =
        image_or (λ k. (taken_class selects p (judged k) ≡ fence → ⊥) → asks k ≡ timed_of last (judged k))
        (λ f. image_class f (eqb (length p) (image_size_of f)) refl) (λ k other h. asks_timed k other)

pub told_class : (τ : Tray) (n : ℕ) (p : List ℕ) (selects : Selects) → (taken_class selects p (tray_asked τ.count n p) ≡ fence → ⊥)
    → tray_told τ n p ≡ timed_of (slot_tick τ p) (tray_asked τ.count n p)
told_class τ n p selects other = class_timed τ.count τ.closed (again_of τ p) (slot_tick τ p) p selects (tray_kind_of n) other

-- what is asked there: a slot that has a pack, or some pack
abbrev pub Asked : ℕ → List ℕ → Taken → Type 0
Asked count p (Ok (Image f)) = Unit
Asked count p (Ok (Change c)) = slot_in p < count
Asked count p (Ok (Transact t)) = 0 < count
Asked count p (Err r) = Unit

pub asked_there : (count n : ℕ) (p : List ℕ) → Asked count p (tray_asked count n p)
asked_there count n p = asked_has count true false no_tick p (Asked count p) (λ r. tt) (tray_kind_of n) (λ sized due. rw timed_none (by (tray_kind_of n) due))
  where
    by : (k : Kind) → due_of k (accepted_for count true k p) ≡ true → Asked count p (event_of false k (drop (ahead_of k) p))
    by (kind.Image f) due = contrary cc
    by kind.Reading due = ltb-true (slot_in p) count due
    by kind.Conversion due = ltb-true (slot_in p) count due
    by (kind.Transaction f) due = picked (Asked count p) (leb (read_count f p) (limit_of f)) _ _ (λ few. ltb-true 0 count due) (λ many. tt)
    by kind.PowerOn due = ltb-true (slot_in p) count due
    by kind.Sample due = ltb-true (slot_in p) count due
    by kind.Unknown due = tt

-- The room that is asked

module _ (τ : Tray) (p : List ℕ) where
  image_none : (f : Profile) (t : Taken) → Asks τ (kind.Image f) p t → taken_asks t ≡ 0
  image_none f (Ok (Image g)) a = refl
  image_none f (Ok (Change c)) a = refl
  image_none f (Ok (Transact t)) a = let z = a.kind in contrary cc
  image_none f (Err r) a = refl

  abbrev told : Kind → Taken
  told k = tray_asked_by τ.count τ.closed (again_of τ p) (slot_tick τ p) k p

  timed : (k : Kind) → ((f : Profile) → k ≡ kind.Image f → ⊥) → taken_asks (told k) ≡ taken_asks (tray_asked_by τ.count true false no_tick k p)
  timed k other =
      ap taken_asks (asks_timed τ.count τ.closed (again_of τ p) (slot_tick τ p) p k other)
      ∙ timed_asks (slot_tick τ p) (tray_asked_by τ.count true false no_tick k p)

  asks_same : (k : Kind) → Asks τ k p (told k) → taken_asks (told k) ≡ taken_asks (tray_asked_by τ.count true false no_tick k p)
  asks_same =
      image_or (λ k. Asks τ k p (told k) → taken_asks (told k) ≡ taken_asks (tray_asked_by τ.count true false no_tick k p))
      (λ f a. image_none f (told (kind.Image f)) a
      ∙ rw (image_asked f τ.count p) (sym (picked (λ t. taken_asks t ≡ 0) (eqb (length p) (image_size_of f)) _ _ (λ e. refl) (λ e. refl))))
      (λ k other a. timed k other)

pub told_asks : (τ : Tray) (n : ℕ) (p : List ℕ) → taken_asks (tray_told τ n p) ≡ taken_asks (tray_asked τ.count n p)
told_asks τ n p = asks_same τ p (tray_kind_of n) (tray_asks τ n p)

-- A run

-- the number of packs never falls
grows : (τ : Tray) (room : ℕ) (rs : List Rec) → Eight τ → τ.count ≤ (end_after tray_did τ room rs).count
grows τ room rs h =
    (end_keeps (λ σ. Eight σ × (τ.count ≤ σ.count))
    (λ σ k p e u a. (event_eight σ u.0 k p e a, rw (event_count σ u.0 k p e) (more σ e u.1))) τ room rs (h, omega arith)).1
  where
    more : (σ : Tray) (e : Event) → τ.count ≤ σ.count → τ.count ≤ count_after σ e
    more σ (Image f) low = omega arith
    more σ (Change c) low = low
    more σ (Transact t) low = low

module _ (τ : Tray) (p : List ℕ) where
  shut : (t : Taken) → (answered_by of_tray τ p t).state.count ≤ τ.count → answered_by of_tray τ p t ≡ answered_by of_shut τ p t
  shut (Ok (Image f)) low = absurd (omega arith)
  shut (Ok (Change c)) low = refl
  shut (Ok (Transact t)) low = refl
  shut (Err r) low = refl

  shut_reply : (t : Taken) → length (answered_by of_shut τ p t).reply ≡ taken_asks t
  shut_reply (Ok (Image f)) = refl
  shut_reply (Ok (Change c)) = refl
  shut_reply (Ok (Transact t)) = tray_replying.reply τ p (Transact t)
  shut_reply (Err r) = refl

did_shut : (τ : Tray) (room : ℕ) (r : Rec) → rec_asks (tray_asked τ.count) r ≤ room → (tray_did τ room r).state.count ≤ τ.count →
    tray_did τ room r ≡ free_tray τ r
unfolding tray_did
did_shut τ room (whole n p) asks low =
    let e = ap (answered_by of_tray τ p) (taken_room room (tray_told τ n p) (rw (told_asks τ n p) asks)) in
    e ∙ shut τ p (tray_told τ n p) (rw (ap (λ (d : Did Tray). d.state.count) e) at low)
did_shut τ room cut asks low = refl

free_reply : (τ : Tray) (r : Rec) → length (free_tray τ r).reply ≡ rec_asks (tray_asked τ.count) r
free_reply τ (whole n p) = shut_reply τ p (tray_told τ n p) ∙ told_asks τ n p
free_reply τ cut = refl

-- the state at the end, and each record with its line
pub record FreeTray (τ : Tray) (room : ℕ) (rs : List Rec) : Type 0 where
  pub end : end_after tray_did τ room rs ≡ end_from tray_step tray_out τ rs
  pub got : zip rs (lines_after tray_did τ room rs) ≡ got_from tray_step tray_out τ rs

pub free_tray_lem : (addresses : List (List ℕ)) (τ : Tray) (room : ℕ) (rs : List Rec) → Owns addresses τ →
    asks_all (tray_asked (length addresses)) rs ≤ room
    → (end_after tray_did τ room rs).count ≡ length addresses → FreeTray τ room rs
unfolding zip zip_with
free_tray_lem addresses τ room [] h asks full = record { end = refl; got = refl }
free_tray_lem addresses τ room (r ∷ rs) h asks full =
    let d = tray_did τ room r in
    let low = grows d.state (room - length d.reply) rs (did_eight τ room r h.eight) in
    let need : rec_asks (tray_asked τ.count) r ≤ room = rw h.count (omega arith) in
    let e = did_shut τ room r need (omega (arith, h.count)) in
    let reply : length (free_tray τ r).reply ≡ rec_asks (tray_asked (length addresses)) r = rw (← h.count) (free_reply τ r) in
    let k = free_tray_lem addresses (tray_step τ r) (room - length (free_tray τ r).reply) rs (step_owns addresses τ h r) (omega arith)
    (ap (λ (x : Did Tray). (end_after tray_did x.state (room - length x.reply) rs).count) (sym e) ∙ full) in
    record {
      end = rw e k.end;
      got = rw e (ap (λ (l : List (Rec × Line)). (r, tray_out τ r) ∷ l) k.got);
    }
