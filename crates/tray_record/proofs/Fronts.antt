-- The record at the front is read by an address that is searched only where it is an image, and by the tick of the slot that it may name: what it
-- asks is the same.
use mathlib.Core.Path.{◌≡◌, refl, sym, ap, subst, ◌∙◌}
use mathlib.Core.Bool.{Bool, true, false}
use mathlib.Core.List.{List}
use Prim.Native.Nat.{ℕ, ◌+◌, ◌-◌, ◌≤◌, ◌<◌}
use native.Mathlib.Omega.{arith}
use borrow.Author.Tests.{eqb-true, leb-true, ltb-true, ltb-false, le-ltb, lt-ltb}
use lib.Dec.{ltb, leb, eqb}
use lib.ListN.{length, get_or, drop, length-take, length-drop}
use lib.Seq.{get_or-take, get_or-drop, take-take}
use Rattle.std.specs.Prelude.{Err, is_some}
use Rattle.numbers.specs.Choice.{pick, either}
use Rattle.numbers.proofs.Bounds.{picked}
use Rattle.slices.specs.Slices.{part, pair_at}
use Rattle.state.specs.declared.Tick.{Tick}
use Rattle.state.specs.declared.Profile.{Profile}
use Rattle.state.specs.State.{image_size_of}
use Rattle.state.proofs.ProfileLaws.{sixty}
use Rattle.state.specs.declared.Meter.{Meter}
use Rattle.record.specs.declared.Kind.{Kind}
use Rattle.record.specs.declared.Kind.TheVariants as kind
use Rattle.record.specs.declared.Refusal.TheVariants.{Order, Size}
use Rattle.record.specs.Image.{image_size, image_address}
use Rattle.record.specs.Record.{sized_of, taken_by, timed_of, fitted_of, Taken}
use Rattle.record.proofs.Fits.{Stateless, transaction_timely, passes}
use Rattle.runs.specs.Record.{whole_of}
use Rattle.runs.proofs.Records.{whole_head, whole_end}
use Rattle.runs.specs.AnyRecord.{taken_read, front_by}
use Rattle.runs.proofs.AnyRecord.{read_whole, read_cut}
use Rattle.tray_record.specs.declared.Tray.{Tray}
use Rattle.tray_record.proofs.Laws.{within}
use Rattle.runs.specs.declared.Record.{Record}
use Rattle.tray_record.specs.Tray.{no_gauge, pack_of, search_of, tray_kind_of, ahead_of, slot_in, accepted_for, tray_asked_by}
use Rattle.tray_record.specs.Tray.{tray_asked_at, again_of, slot_tick, tray_told, named_slot, image_at, TrayWf}

-- ---- what is asked looks at the address of an image of its size alone, and at the tick of a slot that has a pack

-- a record at the front, whole or cut
pub ruleset fronts = (whole_head, whole_end, read_whole, read_cut)

module _ (room count : ℕ) (closed : Bool) (p : List ℕ) (again again' : Bool) (last last' : Tick) where
  abbrev asks : Bool → Tick → Kind → Taken
  asks b tick k = fitted_of room (timed_of tick (taken_by b k (accepted_for count closed k p) (drop (ahead_of k) p)))

  stateless : (k : Kind) → Stateless k
      → taken_by again k (accepted_for count closed k p) (drop (ahead_of k) p) ≡ taken_by again' k (accepted_for count closed k p) (drop (ahead_of k) p)
      → asks again last k ≡ asks again' last' k
  stateless k s e =
      sym (passes last again (accepted_for count closed k p) (drop (ahead_of k) p) room k s) ∙ e
      ∙ passes last' again' (accepted_for count closed k p) (drop (ahead_of k) p) room k s

  sized_image : (f : Profile) (b : Bool) → eqb (length p) (image_size_of f) ≡ b → (length p ≡ image_size_of f → again ≡ again')
      → let k = kind.Image f in taken_by again k (accepted_for count closed k p) p ≡ taken_by again' k (accepted_for count closed k p) p
  sized_image f true e h =
      ap (λ (b : Bool). taken_by b (kind.Image f) (accepted_for count closed (kind.Image f) p) p) (h (eqb-true (length p) (image_size_of f) e))
  sized_image f false e h = rw e refl

  sampled : (b : Bool) → ltb (slot_in p) count ≡ b → (ltb (slot_in p) count ≡ true → last ≡ last') →
      asks again last kind.Sample ≡ asks again' last' kind.Sample
  sampled true e h = ap (λ (t : Tick). asks again t kind.Sample) (h e)
  sampled false e h = rw e (late (sized_of kind.Sample (length (drop 1 p))))
    where
      late : (s : Bool) → fitted_of room (timed_of last (pick s (Err Order) (Err Size)))
          ≡ fitted_of room (timed_of last' (pick s (Err Order) (Err Size)))
      late true = refl
      late false = refl

  module _ (slot : 1 ≤ length p → ltb (slot_in p) count ≡ true → last ≡ last') where
    by_kind : (k : Kind) → ahead_of k ≤ length p → ((f : Profile) → kind.Image f ≡ k → length p ≡ image_size_of f → again ≡ again')
        → asks again last k ≡ asks again' last' k
    by_kind (kind.Image f) h i = stateless (kind.Image f) tt (sized_image f (eqb (length p) (image_size_of f)) refl (i f refl))
    by_kind kind.Reading h i = stateless kind.Reading tt refl
    by_kind kind.Conversion h i = stateless kind.Conversion tt refl
    by_kind (kind.Transaction f) h i =
        let loaded = accepted_for count closed (kind.Transaction f) p in
        ap (fitted_of room) (sym (transaction_timely last again loaded p f) ∙ transaction_timely last' again' loaded p f)
    by_kind kind.PowerOn h i = stateless kind.PowerOn tt refl
    by_kind kind.Sample h i = sampled (ltb (slot_in p) count) refl (slot h)
    by_kind kind.Unknown h i = stateless kind.Unknown tt refl

    asked_same : (k : Kind) → ((f : Profile) → kind.Image f ≡ k → length p ≡ image_size_of f → again ≡ again')
        → fitted_of room (tray_asked_by count closed again last k p) ≡ fitted_of room (tray_asked_by count closed again' last' k p)
    asked_same k image = go (leb (ahead_of k) (length p)) refl
      where
        go : (b : Bool) → leb (ahead_of k) (length p) ≡ b →
            fitted_of room (tray_asked_by count closed again last k p) ≡ fitted_of room (tray_asked_by count closed again' last' k p)
        go true e = rw e (by_kind k (leb-true (ahead_of k) (length p) e) image)
        go false e = rw e refl

-- ---- kinds 1 and 8 alone are images

abbrev Imaged : Bool → Kind → Type 0
Imaged b (kind.Image f) = b ≡ true
Imaged b kind.Reading = Unit
Imaged b kind.Conversion = Unit
Imaged b (kind.Transaction f) = Unit
Imaged b kind.PowerOn = Unit
Imaged b kind.Sample = Unit
Imaged b kind.Unknown = Unit

imaged : (n : ℕ) → Imaged (either (eqb n 1) (eqb n 8)) (tray_kind_of n)
unfolding tray_kind_of
imaged n =
    let I : Kind → Type 0 = Imaged (either (eqb n 1) (eqb n 8)) in
    picked I (eqb n 1) _ _ (λ one. rw one refl)
    (λ one. picked I (eqb n 4) _ _ (λ a. tt)
    (λ a. picked I (eqb n 7) _ _ (λ b. tt)
    (λ b. picked I (eqb n 8) _ _ (λ eight. rw (one, eight) refl)
    (λ h. picked I (eqb n 18) _ _ (λ c. tt)
    (λ c. picked I (eqb n 19) _ _ (λ d. tt)
    (λ d. picked I (eqb n 21) _ _ (λ f. tt) (λ f. picked I (eqb n 22) _ _ (λ g. tt) (λ g. tt))))))))

image_kinds : (f : Profile) (n : ℕ) → kind.Image f ≡ tray_kind_of n → either (eqb n 1) (eqb n 8) ≡ true
image_kinds f n e = subst (Imaged (either (eqb n 1) (eqb n 8))) (sym e) (imaged n)

-- ---- the slot that is named

-- of a payload of at most so many bytes
pub named_slot_lem : (m : ℕ) (l : List ℕ) → 1 ≤ length (part m l 4) → slot_in (part m l 4) < 8 → named_slot l ≡ slot_in (part m l 4)
unfolding named_slot
named_slot_lem m l some low =
    let long = length-take m (drop 4 l) in
    let here : slot_in (part m l 4) ≡ get_or l 4 0 = get_or-take m (drop 4 l) 0 0 (omega arith) ∙ get_or-drop 4 l 0 0 in
    let below : get_or l 4 0 < 8 = omega (arith, here) in
    rw (lt-ltb 4 (length l) (omega (arith, length-drop 4 l)), lt-ltb (get_or l 4 0) 8 below) (sym here)

-- ---- the record at the front

module _ (τ : Tray) (w : TrayWf τ) (room : ℕ) (l : List ℕ) where
  -- what the code asks first: whether an accepted pack has the address, where an image of its size is there, and the tick of the slot that it names
  abbrev pub again_at : Bool
  again_at = pick (image_at l) (is_some (search_of τ.commons τ.count (part 8 l 4))) false

  abbrev pub tick_at : Tick
  tick_at = (pack_of τ (named_slot l)).meter.flow.tick

  module _ (whole : whole_of l ≡ true) where
    abbrev n : ℕ
    n = pair_at l 0

    abbrev p : List ℕ
    p = part (4 + n - 4) l 4

    long : length p ≡ n
    long = length-take (4 + n - 4) (drop 4 l) ∙ omega (arith, length-drop 4 l, whole_end l whole)

    image : (f : Profile) → kind.Image f ≡ tray_kind_of (pair_at l 2) → length p ≡ image_size_of f → again_at ≡ again_of τ p
    unfolding image_at
    image f e size =
        let fits : 4 + image_size ≤ length l = omega (arith, size, sixty f, long, whole_end l whole) in
        let address : image_address p ≡ part 8 l 4 = take-take 8 (4 + n - 4) (drop 4 l) (omega (arith, size, sixty f, long)) in
        rw (le-ltb (length l) (4 + image_size) fits, image_kinds f (pair_at l 2) e, address) refl

    tick_of_lem : (i : ℕ) → i ≡ slot_in p → (pack_of τ i).meter.flow.tick ≡ slot_tick τ p
    tick_of_lem i e = ap (λ (j : ℕ). (pack_of τ j).meter.flow.tick) e

    slot : 1 ≤ length p → ltb (slot_in p) τ.count ≡ true → tick_at ≡ slot_tick τ p
    slot some has = tick_of_lem (named_slot l) (named_slot_lem (4 + n - 4) l some (omega (arith, ltb-true (slot_in p) τ.count has, w.few)))

    front_whole : front_by (tray_asked_at τ.count τ.closed again_at tick_at) room l ≡ front_by (tray_told τ) room l
    front_whole =
        sym (read_whole _ room l n (pair_at l 2) whole refl refl refl)
        ∙ ap (taken_read (pair_at l 2) (4 + n))
        (asked_same room τ.count τ.closed p again_at (again_of τ p) tick_at (slot_tick τ p) slot (tray_kind_of (pair_at l 2)) image)
        ∙ read_whole _ room l n (pair_at l 2) whole refl refl refl

  pub front_told : front_by (tray_asked_at τ.count τ.closed again_at tick_at) room l ≡ front_by (tray_told τ) room l
  front_told = go (whole_of l) refl
    where
      go : (b : Bool) → whole_of l ≡ b → front_by (tray_asked_at τ.count τ.closed again_at tick_at) room l ≡ front_by (tray_told τ) room l
      go true e = front_whole e
      go false e = sym (read_cut _ room l e) ∙ read_cut _ room l e

  -- as the code reads it
  pub again_known : image_at l ≡ true → {again : Bool} → again ≡ is_some (search_of τ.commons τ.count (part 8 l 4)) → again ≡ again_at
  again_known e h = h ∙ rw e refl

  pub again_none : image_at l ≡ false → {again : Bool} → again ≡ false → again ≡ again_at
  again_none e h = h ∙ rw e refl

  pub tick_read : {i : ℕ} (d : Meter) → i ≡ named_slot l → i < 8 → (get_or τ.meters i d).flow.tick ≡ tick_at
  tick_read {i} d e h =
      ap (λ (m : Meter). m.flow.tick) (within τ.meters i d no_gauge.meter (omega (arith, w.sizes.2)))
      ∙ ap (λ (j : ℕ). (pack_of τ j).meter.flow.tick) e

  pub front_read : {again : Bool} {last : Tick} {r : Record} → again ≡ again_at → last ≡ tick_at →
      r ≡ front_by (tray_asked_at τ.count τ.closed again last) room l
      → r ≡ front_by (tray_told τ) room l
  front_read ea el er = er ∙ (λ x. front_by (tray_asked_at τ.count τ.closed (ea x) (el x)) room l) ∙ front_told

-- an image is long enough for its address
pub image_long : (l : List ℕ) → image_at l ≡ true → 4 + image_size ≤ length l
unfolding image_at
image_long l e = by (ltb (length l) (4 + image_size)) refl e
  where
    by : (b : Bool) → ltb (length l) (4 + image_size) ≡ b → pick b false (either (eqb (pair_at l 2) 1) (eqb (pair_at l 2) 8)) ≡ true →
        4 + image_size ≤ length l
    by true f g = absurd (never g)
      where
        Is : Bool → Type 0
        Is true = Unit
        Is false = ⊥

        never : false ≡ true → ⊥
        never z = subst Is (sym z) tt
    by false f g = ltb-false (length l) (4 + image_size) f
