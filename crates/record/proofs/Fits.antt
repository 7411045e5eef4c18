-- What a record that is taken has: its time and a payload of its kind's size; and what the state decides of which kind.
use mathlib.Core.Path.{◌≡◌, refl, sym, ap, subst, ◌∙◌}
use mathlib.Core.Bool.{Bool, true, false, not}
use mathlib.Core.List.{List}
use Prim.Native.Nat.{ℕ, ◌+◌, ◌≤◌, ◌<◌, zero-le}
use native.Mathlib.Omega.{arith}
use borrow.Author.Tests.{le-ltb, leb-true, eqb-true, ne_eqb, not-true}
use lib.Dec.{leb, eqb, ltb}
use lib.ListN.{length, drop}
use Rattle.std.specs.Prelude.{Ok, Err}
use Rattle.numbers.proofs.Bounds.{picked, both_true}
use Rattle.slices.specs.Slices.{pair_at}
use Rattle.state.specs.declared.Tick.{Tick}
use Rattle.state.specs.State.{timely_of, image_size_of}
use Rattle.state.specs.declared.Profile.{Profile}
use Rattle.bus.proofs.Laws.{asked_placed}
use Rattle.record.specs.declared.Form.{Form}
use Rattle.record.specs.declared.Form.TheVariants.{Short, Long}
use Rattle.record.specs.declared.Kind.{Kind}
use Rattle.record.specs.declared.Kind.TheVariants as kind
use Rattle.record.specs.declared.Refusal.{Refusal}
use Rattle.record.specs.declared.Refusal.TheVariants as refusal
use Rattle.record.specs.declared.Event.{Event}
use Rattle.record.specs.declared.Event.TheVariants.{Image, Change, Transact}
use Rattle.record.specs.Image.{image_address, image_breaks}
use Rattle.record.specs.Record.{refusal_number, kind_of, known_of, head_of, limit_of, read_count, sized_of, due_of, addressed_of, lockable_of, ordered_of}
use Rattle.record.specs.Record.{judged_among, judged_by, transaction_in, transaction_of, event_of, taken_by, taken_of, event_timely, timed_of, fitted_of}
use Rattle.record.specs.Record.{Mastered, Taken}

-- ---- the forms

head_near : (f : Form) → head_of f ≤ 2
head_near Short = omega arith
head_near Long = omega arith

limit_few : (f : Form) → limit_of f ≤ 256
limit_few Short = omega arith
limit_few Long = omega arith

-- a transaction asks for as many bytes as its read count says
pub counts_asked : (f : Form) (p : List ℕ) → (transaction_in f p).count ≡ read_count f p
counts_asked f p = (asked_placed (head_of f) (read_count f p) (drop (head_of f) p)).counts

-- ---- what is taken: refused, or the event of its kind's size at its time

module _ (again loaded : Bool) (p : List ℕ) (P : Taken → Type 0) where
  taken_has : P (Err refusal.Kind) → P (Err refusal.Size) → P (Err refusal.Order)
      → (k : Kind) → (sized_of k (length p) ≡ true → due_of k loaded ≡ true → P (event_of again k p)) → P (taken_by again k loaded p)
  taken_has kind size order k h =
      picked P (known_of k) _ _
      (λ known. picked P (sized_of k (length p)) _ _
      (λ sized. picked P (due_of k loaded) _ _ (λ due. h sized due) (λ other. order))
      (λ other. size))
      (λ other. kind)

-- ---- an image is taken where none was accepted before, and only one that the judge accepts and whose address no other pack has; any other event
-- after one was

abbrev pub Taking : Bool → Bool → List ℕ → Taken → Type 0
Taking again loaded p (Ok (Image f)) = (loaded ≡ false) × (judged_among f again p ≡ Ok (Image f)) × (length p ≡ image_size_of f)
Taking again loaded p (Ok (Change c)) = loaded ≡ true
Taking again loaded p (Ok (Transact t)) = (loaded ≡ true) × Mastered t p
Taking again loaded p (Err r) = Unit

-- the judge accepts an image of its profile, or refuses
abbrev Verdict : Profile → Taken → Type 0
Verdict f (Ok (Image g)) = f ≡ g
Verdict f (Ok (Change c)) = ⊥
Verdict f (Ok (Transact t)) = ⊥
Verdict f (Err r) = Unit

verdict : (f : Profile) (again : Bool) (p : List ℕ) → Verdict f (judged_among f again p)
unfolding judged_among
verdict f again p =
    let By : Taken → Type 0 = Verdict f in
    picked By (eqb (length p) (image_size_of f)) _ _
    (λ a. picked By (addressed_of f (image_address p)) _ _
    (λ b. picked By (lockable_of p) _ _
    (λ c. picked By (not again) _ _ (λ d. picked By (ordered_of (image_breaks p)) _ _ (λ o. refl) (λ o. tt)) (λ d. tt))
    (λ c. tt))
    (λ b. tt))
    (λ a. tt)

module _ (again loaded : Bool) (p : List ℕ) where
  image_taking : (f : Profile) (t : Taken) → Verdict f t → judged_among f again p ≡ t → loaded ≡ false → length p ≡ image_size_of f →
      Taking again loaded p t
  image_taking f (Ok (Image g)) v e l s =
      (l, subst (λ (x : Profile). judged_among x again p ≡ Ok (Image g)) v e, subst (λ (x : Profile). length p ≡ image_size_of x) v s)
  image_taking f (Ok (Change c)) v e l s = absurd v
  image_taking f (Ok (Transact t)) v e l s = absurd v
  image_taking f (Err r) v e l s = tt

  mastered : (f : Form) → head_of f ≤ length p → read_count f p ≤ limit_of f → Mastered (transaction_in f p) p
  mastered f h few =
      let a = asked_placed (head_of f) (read_count f p) (drop (head_of f) p) in
      record {
        starts = omega (arith, a.starts);
        within = rw a.starts a.within;
        near = omega (arith, a.starts, head_near f);
        few = omega (arith, a.counts, limit_few f);
      }

  transaction_taking : (f : Form) → head_of f ≤ length p → loaded ≡ true → Taking again loaded p (transaction_of f p)
  transaction_taking f h l =
      picked (Taking again loaded p) (leb (read_count f p) (limit_of f)) _ _ (λ few. (
        l,
        mastered f h (leb-true (read_count f p) (limit_of f) few),
      )) (λ many. tt)

  event_taking : (k : Kind) → sized_of k (length p) ≡ true → due_of k loaded ≡ true → Taking again loaded p (event_of again k p)
  event_taking (kind.Image f) sized due =
      image_taking f (judged_among f again p) (verdict f again p) refl (not-true loaded due) (eqb-true (length p) (image_size_of f) sized)
  event_taking kind.Reading sized due = due
  event_taking kind.Conversion sized due = due
  event_taking (kind.Transaction f) sized due =
      transaction_taking f (leb-true (head_of f) (length p) (both_true (leb (head_of f) (length p)) (leb (length p) (head_of f + limit_of f)) sized).0) due
  event_taking kind.PowerOn sized due = due
  event_taking kind.Sample sized due = due
  event_taking kind.Unknown sized due = tt

  taking : (k : Kind) → Taking again loaded p (taken_by again k loaded p)
  taking k = taken_has again loaded p (Taking again loaded p) tt tt tt k (event_taking k)

  -- and where the tick is asked too
  pub timed_by : (last : Tick) (k : Kind) → Taking again loaded p (timed_of last (taken_by again k loaded p))
  timed_by last k = timed (taken_by again k loaded p) (taking k)
    where
      timed : (t : Taken) → Taking again loaded p t → Taking again loaded p (timed_of last t)
      timed (Ok e) h = picked (Taking again loaded p) (event_timely last e) (Ok e) _ (λ timely. h) (λ other. tt)
      timed (Err r) h = tt

-- which event a kind asks, if it is not refused: an image, a change or a transaction

abbrev pub kind_sort : Kind → ℕ
kind_sort (kind.Image f) = 0
kind_sort kind.Reading = 1
kind_sort kind.Conversion = 1
kind_sort (kind.Transaction f) = 2
kind_sort kind.PowerOn = 1
kind_sort kind.Sample = 1
kind_sort kind.Unknown = 3

abbrev pub event_sort : Event → ℕ
event_sort (Image f) = 0
event_sort (Change c) = 1
event_sort (Transact t) = 2

abbrev pub Sorted : Kind → Taken → Type 0
Sorted k (Ok e) = event_sort e ≡ kind_sort k
Sorted k (Err r) = Unit

module _ (again loaded : Bool) (p : List ℕ) (last : Tick) where
  judged_sorted : (f : Profile) (t : Taken) → Verdict f t → Sorted (kind.Image f) t
  judged_sorted f (Ok (Image g)) v = refl
  judged_sorted f (Ok (Change c)) v = absurd v
  judged_sorted f (Ok (Transact t)) v = absurd v
  judged_sorted f (Err r) v = tt

  event_sorted : (k : Kind) → Sorted k (event_of again k p)
  event_sorted (kind.Image f) = judged_sorted f (judged_among f again p) (verdict f again p)
  event_sorted kind.Reading = refl
  event_sorted kind.Conversion = refl
  event_sorted (kind.Transaction f) = picked (Sorted (kind.Transaction f)) (leb (read_count f p) (limit_of f)) _ _ (λ few. refl) (λ many. tt)
  event_sorted kind.PowerOn = refl
  event_sorted kind.Sample = refl
  event_sorted kind.Unknown = tt

  pub sorted_by : (k : Kind) → Sorted k (timed_of last (taken_by again k loaded p))
  sorted_by k = timed (taken_by again k loaded p) (taken_has again loaded p (Sorted k) tt tt tt k (λ sized due. event_sorted k))
    where
      timed : (t : Taken) → Sorted k t → Sorted k (timed_of last t)
      timed (Ok e) h = picked (Sorted k) (event_timely last e) (Ok e) _ (λ timely. h) (λ other. tt)
      timed (Err r) h = tt

-- of a plain session
pub plain_taking : (loaded : Bool) (p : List ℕ) (n : ℕ) → Taking false loaded p (taken_of n loaded p)
unfolding taken_of
plain_taking loaded p n = taking false loaded p (kind_of n)

pub timed_taking : (loaded : Bool) (p : List ℕ) (last : Tick) (n : ℕ) → Taking false loaded p (timed_of last (taken_of n loaded p))
unfolding taken_of
timed_taking loaded p last n = timed_by false loaded p last (kind_of n)

-- what the judge accepts is an image of that profile
pub judged_image : (f : Profile) (p : List ℕ) {e : Event} → judged_by f p ≡ Ok e → judged_by f p ≡ Ok (Image f)
judged_image f p {e} h = h ∙ by e (rw h at (verdict f false p))
  where
    by : (e : Event) → Verdict f (Ok e) → ◌≡◌ {A = Taken} (Ok e) (Ok (Image f))
    by (Image g) v = ap (λ (x : Profile). Ok (Image x)) (sym v)
    by (Change c) v = absurd v
    by (Transact t) v = absurd v

-- and it has the size of its profile
pub judged_sized : (f : Profile) (p : List ℕ) {e : Event} → judged_by f p ≡ Ok e → length p ≡ image_size_of f
unfolding judged_among
judged_sized f p {e} h = by (eqb (length p) (image_size_of f)) refl
  where
    by : (b : Bool) → eqb (length p) (image_size_of f) ≡ b → length p ≡ image_size_of f
    by true s = eqb-true (length p) (image_size_of f) s
    by false s = let z : ◌≡◌ {A = ℕ} 0 1 = cc (rw s at h) in absurd (omega arith)

-- ---- the state decides of a transaction by the room, of a sample by the tick, and of nothing else

abbrev pub Stateless : Kind → Type 0
Stateless (kind.Image f) = Unit
Stateless kind.Reading = Unit
Stateless kind.Conversion = Unit
Stateless (kind.Transaction f) = ⊥
Stateless kind.PowerOn = Unit
Stateless kind.Sample = ⊥
Stateless kind.Unknown = Unit

module _ (last : Tick) (again loaded : Bool) (p : List ℕ) where
  pub transaction_timely : (f : Form) → taken_by again (kind.Transaction f) loaded p ≡ timed_of last (taken_by again (kind.Transaction f) loaded p)
  transaction_timely f =
      let Timely : Taken → Type 0 = λ t. t ≡ timed_of last t in
      taken_has again loaded p Timely refl refl refl (kind.Transaction f)
      (λ sized due. picked Timely (leb (read_count f p) (limit_of f)) _ _ (λ few. refl) (λ many. refl))

  module _ (room : ℕ) where
    abbrev Passes : Taken → Type 0
    Passes t = t ≡ fitted_of room (timed_of last t)

    no_room : ltb room 0 ≡ false
    no_room = le-ltb room 0 zero-le

    verdict_passes : (f : Profile) (t : Taken) → Verdict f t → Passes t
    verdict_passes f (Ok (Image g)) v = rw no_room refl
    verdict_passes f (Ok (Change c)) v = absurd v
    verdict_passes f (Ok (Transact t)) v = absurd v
    verdict_passes f (Err r) v = refl

    event_passes : (k : Kind) → Stateless k → Passes (event_of again k p)
    event_passes (kind.Image f) h = verdict_passes f (judged_among f again p) (verdict f again p)
    event_passes kind.Reading h = rw no_room refl
    event_passes kind.Conversion h = rw no_room refl
    event_passes (kind.Transaction f) h = absurd h
    event_passes kind.PowerOn h = rw no_room refl
    event_passes kind.Sample h = absurd h
    event_passes kind.Unknown h = refl

    pub passes : (k : Kind) → Stateless k → Passes (taken_by again k loaded p)
    passes k h = taken_has again loaded p Passes refl refl refl k (λ sized due. event_passes k h)

    pub sample_fits_lem : timed_of last (taken_by again kind.Sample loaded p) ≡ fitted_of room (timed_of last (taken_by again kind.Sample loaded p))
    sample_fits_lem =
        taken_has again loaded p (λ t. timed_of last t ≡ fitted_of room (timed_of last t)) refl refl refl kind.Sample
        (λ sized due. picked (λ t. t ≡ fitted_of room t) (timely_of last (pair_at p 4)) _ _ (λ few. rw no_room refl) (λ many. refl))

-- ---- the numbers of refusals

pub refusal_range : (r : Refusal) → (3 ≤ refusal_number r) × (refusal_number r ≤ 12)
refusal_range refusal.Kind = (omega arith, omega arith)
refusal_range refusal.Size = (omega arith, omega arith)
refusal_range refusal.Order = (omega arith, omega arith)
refusal_range refusal.Address = (omega arith, omega arith)
refusal_range refusal.Locks = (omega arith, omega arith)
refusal_range refusal.Count = (omega arith, omega arith)
refusal_range refusal.Room = (omega arith, omega arith)
refusal_range refusal.Breaks = (omega arith, omega arith)
refusal_range refusal.Interval = (omega arith, omega arith)
refusal_range refusal.Repeated = (omega arith, omega arith)

-- an event, or a refusal whose number is at most so much
abbrev pub NumberedTo : ℕ → Taken → Type 0
NumberedTo most (Ok e) = Unit
NumberedTo most (Err r) = refusal_number r ≤ most

-- 12 is answered in no plain session
plain_event : (k : Kind) (p : List ℕ) → NumberedTo 11 (event_of false k p)
unfolding judged_among
plain_event (kind.Image f) p =
    let To : Taken → Type 0 = NumberedTo 11 in
    picked To (eqb (length p) (image_size_of f)) _ _
    (λ a. picked To (addressed_of f (image_address p)) _ _
    (λ b. picked To (lockable_of p) _ _ (λ c. picked To (ordered_of (image_breaks p)) _ _ (λ d. tt) (λ d. omega arith)) (λ c. omega arith))
    (λ b. omega arith))
    (λ a. omega arith)
plain_event kind.Reading p = tt
plain_event kind.Conversion p = tt
plain_event (kind.Transaction f) p = picked (NumberedTo 11) (leb (read_count f p) (limit_of f)) _ _ (λ few. tt) (λ many. omega arith)
plain_event kind.PowerOn p = tt
plain_event kind.Sample p = tt
plain_event kind.Unknown p = omega arith

pub plain_numbered : (last : Tick) (n : ℕ) (loaded : Bool) (p : List ℕ) → NumberedTo 11 (timed_of last (taken_of n loaded p))
unfolding taken_of
plain_numbered last n loaded p =
    timed (taken_by false (kind_of n) loaded p)
    (taken_has false loaded p (NumberedTo 11) (omega arith) (omega arith) (omega arith) (kind_of n) (λ sized due. plain_event (kind_of n) p))
  where
    timed : (t : Taken) → NumberedTo 11 t → NumberedTo 11 (timed_of last t)
    timed (Ok e) h = picked (NumberedTo 11) (event_timely last e) (Ok e) _ (λ timely. h) (λ other. omega arith)
    timed (Err r) h = h

-- an image that is accepted beside others is one that is accepted by itself
pub judged_alone : (f : Profile) (again : Bool) (p : List ℕ) → judged_among f again p ≡ Ok (Image f) →
    (again ≡ false) × (judged_by f p ≡ Ok (Image f))
unfolding judged_among
judged_alone f false p e = (refl, e)
judged_alone f true p e = absurd (rw e at (never p))
  where
    Never : Taken → Type 0
    Never (Ok e) = ⊥
    Never (Err r) = Unit

    never : (p : List ℕ) → Never (judged_among f true p)
    never p =
        picked Never (eqb (length p) (image_size_of f)) _ _
        (λ a. picked Never (addressed_of f (image_address p)) _ _ (λ b. picked Never (lockable_of p) _ _ (λ c. tt) (λ c. tt)) (λ b. tt))
        (λ a. tt)

-- 3, of every kind above the last one
pub unknown_above : (n : ℕ) (loaded : Bool) (p : List ℕ) → 8 < n → taken_of n loaded p ≡ Err refusal.Kind
unfolding taken_of kind_of
unknown_above n loaded p h =
    let other : (k : ℕ) → k < n → eqb n k ≡ false = λ k l. ne_eqb n k (λ e. omega (arith, l, e)) in
    simp (
      other 1 (omega arith),
      other 2 (omega arith),
      other 3 (omega arith),
      other 4 (omega arith),
      other 5 (omega arith),
      other 6 (omega arith),
      other 7 (omega arith),
      other 8 h,
    )
