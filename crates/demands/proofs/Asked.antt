-- What a record of a tray asks: it is refused, or it is the event of its kind and the tray has what the event asks for.
use mathlib.Core.Path.{◌≡◌, refl}
use mathlib.Core.Bool.{Bool, true, false, not}
use mathlib.Core.List.{List}
use Prim.Native.Nat.{ℕ, ◌<◌}
use native.Mathlib.Omega.{arith}
use borrow.Author.Tests.{ltb-true, leb-false, not-true}
use lib.Dec.{ltb, leb}
use lib.ListN.{length, take, drop}
use Rattle.std.specs.Prelude.{Ok, Err}
use Rattle.state.specs.declared.Profile.{Profile}
use Rattle.numbers.specs.Choice.{pick, either}
use Rattle.numbers.proofs.Bounds.{picked}
use Rattle.slices.specs.Slices.{pair_at}
use Rattle.state.specs.declared.Tick.{Tick}
use Rattle.state.specs.State.{timely_of}
use Rattle.bus.specs.declared.Rom.{Rom}
use Rattle.bus.specs.declared.Rom.TheVariants as rom
use Rattle.bus.specs.declared.Transaction.{Transaction}
use Rattle.state.specs.declared.Common.{Common}
use Rattle.record.specs.declared.Form.{Form}
use Rattle.record.specs.declared.Kind.{Kind}
use Rattle.record.specs.declared.Kind.TheVariants as kind
use Rattle.record.specs.declared.Refusal.{Refusal}
use Rattle.record.specs.declared.Refusal.TheVariants as refusal
use Rattle.record.specs.declared.Event.{Event}
use Rattle.record.specs.declared.Event.TheVariants.{Image, Change, Transact}
use Rattle.record.specs.Record.{Taken}
use Rattle.record.specs.Record.{known_of, limit_of, read_count, sized_of, due_of, judged_among, judged_by, transaction_in, event_of, event_timely, timed_of}
use Rattle.record.proofs.Fits.{Taking, timed_by, judged_alone}
use Rattle.tray_record.specs.declared.Tray.{Tray}
use Rattle.std.specs.Prelude.{Option, Some, None}
use Rattle.tray_record.specs.Tray.{no_gauge, search_of, tray_kind_of, ahead_of, slot_in, accepted_for, tray_asked_by, again_of}
use Rattle.tray_record.specs.Tray.{slot_tick, tray_told, reach_found, matched_of, reach_by, tray_reach}
use Rattle.demands.proofs.Choice.{contrary}
use Rattle.demands.proofs.Packs.{There, FoundAt, search_found}

-- Refused, or the event of its kind

module _ (count : ℕ) (closed again : Bool) (last : Tick) (p : List ℕ) (P : Taken → Type 0) (refused : (r : Refusal) → P (Err r)) where
  pub asked_has : (k : Kind)
      → (sized_of k (length (drop (ahead_of k) p)) ≡ true → due_of k (accepted_for count closed k p) ≡ true →
      P (timed_of last (event_of again k (drop (ahead_of k) p))))
      → P (tray_asked_by count closed again last k p)
  asked_has k h =
      let Timed : Taken → Type 0 = λ t. P (timed_of last t) in
      picked P (leb (ahead_of k) (length p)) _ _
      (λ ahead. picked Timed (known_of k) _ _
      (λ known. picked Timed (sized_of k (length (drop (ahead_of k) p))) _ _
      (λ sized. picked Timed (due_of k (accepted_for count closed k p)) _ _ (λ due. h sized due) (λ other. refused refusal.Order))
      (λ other. refused refusal.Size))
      (λ other. refused refusal.Kind))
      (λ other. refused refusal.Size)

-- What the tray has for it

-- an image that joins: the opening is not closed, and no pack has its address
pub record Joins (τ : Tray) (k : Kind) (f : Profile) (p : List ℕ) : Type 0 where
  pub asked : Profile
  pub kind : k ≡ kind.Image asked
  pub before : τ.closed ≡ false
  pub few : τ.count < 8
  pub new : again_of τ p ≡ false
  pub judged : judged_by f p ≡ Ok (Image f)

-- a slot's event: the slot has a pack
pub record Slotted (τ : Tray) (k : Kind) (p : List ℕ) : Type 0 where
  pub ahead : ahead_of k ≡ 1
  pub pack : slot_in p < τ.count

pub record Heard (τ : Tray) (k : Kind) (p : List ℕ) (t : Transaction) : Type 0 where
  pub form : Form
  pub kind : k ≡ kind.Transaction form
  pub some : 0 < τ.count
  pub asked : t ≡ transaction_in form p

abbrev pub Asks : Tray → Kind → List ℕ → Taken → Type 0
Asks τ k p (Ok (Image f)) = Joins τ k f p
Asks τ k p (Ok (Change c)) = Slotted τ k p
Asks τ k p (Ok (Transact t)) = Heard τ k p t
Asks τ k p (Err r) = Unit

module _ (τ : Tray) (p : List ℕ) (last : Tick) where
  image_asks : (f : Profile) (t : Taken) → Taking (again_of τ p) false p t → not (either τ.closed (leb 8 τ.count)) ≡ true →
      Asks τ (kind.Image f) p t
  image_asks f (Ok (Image g)) h due =
      let j = judged_alone g (again_of τ p) p h.1 in
      let e = not-true (either τ.closed (leb 8 τ.count)) due in
      let s = shut τ.closed (leb 8 τ.count) e in
      record { asked = f; kind = refl; before = s.0; few = leb-false 8 τ.count s.1; new = j.0; judged = j.1 }
    where
      shut : (a b : Bool) → either a b ≡ false → (a ≡ false) × (b ≡ false)
      shut true b e = contrary cc
      shut false b e = (refl, e)
  image_asks f (Ok (Change c)) h due = contrary cc
  image_asks f (Ok (Transact t)) h due = let z = h.0 in contrary cc
  image_asks f (Err r) h due = tt

  slotted : (k : Kind) → ahead_of k ≡ 1 → ltb (slot_in p) τ.count ≡ true → Slotted τ k p
  slotted k ahead due = record { ahead = ahead; pack = ltb-true (slot_in p) τ.count due }

  event_asks : (k : Kind) → sized_of k (length (drop (ahead_of k) p)) ≡ true → due_of k (accepted_for τ.count τ.closed k p) ≡ true
      → Asks τ k p (timed_of last (event_of (again_of τ p) k (drop (ahead_of k) p)))
  event_asks (kind.Image f) sized due =
      image_asks f (timed_of last (judged_among f (again_of τ p) p)) (rw sized at (timed_by (again_of τ p) false p last (kind.Image f))) due
  event_asks kind.Reading sized due = slotted kind.Reading refl due
  event_asks kind.Conversion sized due = slotted kind.Conversion refl due
  event_asks (kind.Transaction f) sized due =
      picked (λ t. Asks τ (kind.Transaction f) p (timed_of last t)) (leb (read_count f p) (limit_of f)) _ _
      (λ few. record { form = f; kind = refl; some = ltb-true 0 τ.count due; asked = refl })
      (λ many. tt)
  event_asks kind.PowerOn sized due = slotted kind.PowerOn refl due
  event_asks kind.Sample sized due =
      picked (Asks τ kind.Sample p) (timely_of last (pair_at (drop 1 p) 4)) _ _ (λ timely. slotted kind.Sample refl due) (λ other. tt)
  event_asks kind.Unknown sized due = tt

pub tray_asks : (τ : Tray) (n : ℕ) (p : List ℕ) → Asks τ (tray_kind_of n) p (tray_told τ n p)
tray_asks τ n p =
    asked_has τ.count τ.closed (again_of τ p) (slot_tick τ p) p (Asks τ (tray_kind_of n) p) (λ r. tt) (tray_kind_of n)
    (event_asks τ p (slot_tick τ p) (tray_kind_of n))

-- The event that a record asks is that of its kind, whatever the tray's state, but for a repeated address

-- by its bytes and whether another pack has its address
abbrev pub made_of : Bool → ℕ → List ℕ → Taken
made_of again n p = event_of again (tray_kind_of n) (drop (ahead_of (tray_kind_of n)) p)

pub told_event : (τ : Tray) (n : ℕ) (p : List ℕ) (e : Event) → tray_told τ n p ≡ Ok e → made_of (again_of τ p) n p ≡ Ok e
told_event τ n p e =
    let made = made_of (again_of τ p) n p in
    asked_has τ.count τ.closed (again_of τ p) (slot_tick τ p) p (λ t. t ≡ Ok e → made ≡ Ok e) (λ r f. contrary cc) (tray_kind_of n)
    (λ sized due. timed made)
  where
    timed : (t : Taken) → timed_of (slot_tick τ p) t ≡ Ok e → t ≡ Ok e
    timed (Ok x) =
        picked (λ (t : Taken). t ≡ Ok e → ◌≡◌ {A = Taken} (Ok x) (Ok e)) (event_timely (slot_tick τ p) x) (Ok x) (Err refusal.Interval) (λ timely f. f)
        (λ other f. contrary cc)
    timed (Err r) = λ f. f

-- Whom a transaction reaches

pub matched_found : (commons : List Common) (count : ℕ) (master : List ℕ) (i : ℕ) → matched_of commons count master ≡ Some i
    → (ltb (length master) 9 ≡ false) × FoundAt no_gauge.common (take 8 (drop 1 master)) commons 0 count i
unfolding matched_of search_of
matched_found commons count master i = go (ltb (length master) 9) refl
  where
    go : (t : Bool) → ltb (length master) 9 ≡ t → pick t None (search_of commons count (take 8 (drop 1 master))) ≡ Some i
        → (ltb (length master) 9 ≡ false) × FoundAt no_gauge.common (take 8 (drop 1 master)) commons 0 count i
    go true s e = contrary cc
    go false s e = (s, search_found no_gauge.common (take 8 (drop 1 master)) commons 0 count i e)

pub reach_there : (τ : Tray) (t : Transaction) (master : List ℕ) → There (tray_reach τ t master) τ.count
reach_there τ t master = by t.rom
  where
    found : (f : Option ℕ) → matched_of τ.commons τ.count master ≡ f → There (reach_found f) τ.count
    found (Some i) e = omega (arith, (matched_found τ.commons τ.count master i e).1.low)
    found None e = tt

    by : (r : Rom) → There (reach_by r (matched_of τ.commons τ.count master)) τ.count
    by rom.Skip = tt
    by rom.Match = found (matched_of τ.commons τ.count master) refl
    by rom.Net33 = tt
    by rom.Net39 = tt
    by rom.Quiet = tt
