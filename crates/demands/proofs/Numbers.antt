-- Each number is given in its own case and in no other, proved of sessions and of trays.
use mathlib.Core.Path.{◌≡◌, refl, sym, ap, ◌∙◌}
use mathlib.Core.Bool.{Bool, true, false, not}
use mathlib.Core.List.{List, [], ◌∷◌}
use Prim.Native.Nat.{ℕ, zero, suc, ◌+◌, ◌-◌, ◌*◌, ◌≤◌, ◌<◌, zero-le}
use native.Mathlib.Omega.{arith}
use borrow.Author.Tests.{ltb-true, ltb-false, eqb-true, eqb-false, le-ltb, le-leb, lt-leb, eq-eqb, ne_eqb, not-true}
use lib.Dec.{ltb, leb, eqb}
use lib.ListN.{length, get_or, take, drop}
use lib.Seq.{get_or-take, get_or-drop, take-take}
use Rattle.std.specs.Prelude.{Ok, Err}
use Rattle.numbers.specs.Choice.{pick, both, either}
use Rattle.numbers.specs.Offset.{offset8_of}
use Rattle.numbers.proofs.Bounds.{through, both_true}
use Rattle.numbers.proofs.Offset.{at_most}
use Rattle.slices.specs.Slices.{part, pair_at}
use Rattle.crc.specs.Crc.{crc_of}
use Rattle.state.specs.declared.Tick.{Tick}
use Rattle.state.specs.declared.Common.{Common}
use Rattle.state.specs.declared.Profile.{Profile}
use Rattle.state.specs.declared.Profile.TheVariants.{Ds2781, Ds2775}
use Rattle.state.specs.State.{elapsed_of, timely_of, image_size_of}
use Rattle.bus.specs.Ask.{same_bytes}
use Rattle.bus.proofs.Laws.{asked_placed}
use Rattle.record.specs.declared.Form.{Form}
use Rattle.record.specs.declared.Form.TheVariants.{Short, Long}
use Rattle.record.specs.declared.Kind.TheVariants as kind
use Rattle.record.specs.declared.Refusal.{Refusal}
use Rattle.record.specs.declared.Refusal.TheVariants as refusal
use Rattle.record.specs.declared.Event.{Event}
use Rattle.record.specs.declared.Event.TheVariants.{Image, Change, Transact}
use Rattle.record.specs.declared.Change.{Change as Changes}
use Rattle.record.specs.declared.Change.TheVariants.{Reading, Conversion, Sample, PowerOn}
use Rattle.record.specs.Image.{image_address, image_breaks}
use Rattle.record.specs.Record.{refusal_number, taken_number, kind_of, head_of, limit_of, read_count, addressed_of, lockable_of, ordered_of, judged_among}
use Rattle.record.specs.Record.{count_at}
use Rattle.record.specs.Record.{transaction_in, transaction_of, sized_of, taken_of, change_timely, event_timely, timed_of, asks_of, fitted_of, Taken}
use Rattle.runs.specs.Record.{Rec, whole, cut, whole_of, rec_of}
use Rattle.runs.specs.Run.{Did, Line, outcome_number, Running}
use Rattle.runs.specs.AnyRecord.{Steps, answered_by}
use Rattle.runs.specs.declared.Session.{Session}
use Rattle.runs.specs.SessionRecord.{last_tick, of_session, did_of}
use Rattle.runs.proofs.Ends.{within_done}
use Rattle.runs.proofs.AnyRecord.{Replying, session_replying}
use Rattle.session_run.specs.SessionRun.{empty_of}
use Rattle.tray_record.specs.declared.Tray.{Tray}
use Rattle.std.specs.Prelude.{Some, is_some}
use Rattle.tray_record.specs.Tray.{empty_tray, pack_of, search_from, search_of, no_gauge, tray_kind_of, slot_in, again_of, slot_tick, tray_told}
use Rattle.tray_record.specs.Tray.{of_tray, tray_did}
use Rattle.tray_record.proofs.Hearing.{tray_replying}
use Rattle.demands.specs.Call.{Call, Allowed}
use Rattle.demands.specs.Images.{image_kind}
use Rattle.demands.specs.Numbers.{Case, OnlyWhen, runs_short, misaddressed, locked_above3, some_slot, breaks_rise, breaks_cross, session_cases}
use Rattle.demands.specs.Numbers.{tray_cases, front_cases, Numbers, EachNumber}
use Rattle.demands.proofs.Choice.{either_none, Each, NoneOf, among}
use Rattle.demands.proofs.Demand1.{demand_1, tray_demand_1}
use Rattle.demands.proofs.Demand2.{demand_2, tray_demand_2}

-- The first case that applies

first_number : List Case → ℕ
first_number [] = 0
first_number (c ∷ cs) = pick c.applies c.number (first_number cs)

-- no case has the number n, nor is it 0
apart_from : ℕ → List Case → Bool
apart_from n [] = not (eqb n 0)
apart_from n (c ∷ cs) = both (not (eqb n c.number)) (apart_from n cs)

distinct : List Case → Bool
distinct [] = true
distinct (c ∷ cs) = both (apart_from c.number cs) (distinct cs)

-- a number that is told apart is another
other : (n m : ℕ) → not (eqb n m) ≡ true → m ≡ n → ⊥
other n m e same = eqb-false n m (not-true (eqb n m) e) (sym same)

first_apart : (n : ℕ) (cs : List Case) → apart_from n cs ≡ true → first_number cs ≡ n → ⊥
unfolding first_number apart_from
first_apart n [] e = other n 0 e
first_apart n (c ∷ cs) e =
    let z = both_true (not (eqb n c.number)) (apart_from n cs) e in
    by c.applies (other n c.number z.0) (first_apart n cs z.1)
  where
    by : (t : Bool) → (c.number ≡ n → ⊥) → (first_number cs ≡ n → ⊥) → pick t c.number (first_number cs) ≡ n → ⊥
    by true here later = here
    by false here later = later

only_when : (cs : List Case) → distinct cs ≡ true → (a : ℕ) → a ≡ first_number cs → OnlyWhen a cs
unfolding first_number distinct
only_when [] d a e = e
only_when (c ∷ cs) d a e =
    let z = both_true (apart_from c.number cs) (distinct cs) d in (
      λ t. e ∙ ap (λ (x : Bool). pick x c.number (first_number cs)) t,
      λ same. by c.applies z.0 (sym e ∙ same),
      λ f. only_when cs z.1 a (e ∙ ap (λ (x : Bool). pick x c.number (first_number cs)) f),
    )
  where
    by : (t : Bool) → apart_from c.number cs ≡ true → pick t c.number (first_number cs) ≡ c.number → t ≡ true
    by true apart same = refl
    by false apart same = absurd (first_apart c.number cs apart same)

-- What is asked, one refusal after the other

-- the number of what is asked, with so much room left and by the tick that is remembered
abbrev number_in : ℕ → Tick → Taken → ℕ
number_in room last t = taken_number (fitted_of room (timed_of last t))

module _ (room : ℕ) (last : Tick) where
  -- a test and the refusal where it fails
  tested : (b : Bool) (t : Taken) (r : Refusal) (n : ℕ) → number_in room last t ≡ n
      → number_in room last (pick b t (Err r)) ≡ pick (not b) (refusal_number r) n
  tested true t r n e = e
  tested false t r n e = refl

  no_room : ltb room 0 ≡ false
  no_room = le-ltb room 0 zero-le

  -- an event that is no sample and asks no room
  quiet_event : (e : Event) → event_timely last e ≡ true → asks_of e ≡ 0 → number_in room last (Ok e) ≡ 0
  quiet_event e timely asks = rw (timely, asks, no_room) refl

-- tests that are said in another way

not_not : (t : Bool) → not (not t) ≡ t
not_not true = refl
not_not false = refl

ltb_not : (a b : ℕ) → ltb a b ≡ not (leb b a)
ltb_not a b = by (ltb a b) refl
  where
    by : (t : Bool) → ltb a b ≡ t → t ≡ not (leb b a)
    by true e = rw (lt-leb b a (ltb-true a b e)) refl
    by false e = rw (le-leb b a (ltb-false a b e)) refl

not_leb : (a b : ℕ) → not (leb a b) ≡ ltb b a
not_leb a b = sym (ltb_not b a)

not_ltb : (a b : ℕ) → not (ltb a b) ≡ leb b a
not_ltb a b = ap not (ltb_not a b) ∙ not_not (leb b a)

not_both : (a b : Bool) → not (both a b) ≡ either (not a) (not b)
not_both true b = refl
not_both false b = refl

-- 11
untimely_is : (last : Tick) (tick : ℕ) → not (timely_of last tick) ≡ either (eqb (elapsed_of last tick) 0) (ltb 64 (elapsed_of last tick))
unfolding timely_of
untimely_is last tick = by (elapsed_of last tick)
  where
    none : (n : ℕ) → not (leb 1 n) ≡ eqb n 0
    none zero = refl
    none (suc n) = rw (le-leb 1 (suc n) (omega arith), ne_eqb (suc n) 0 (λ e. omega arith)) refl

    by : (n : ℕ) → not (both (leb 1 n) (leb n 64)) ≡ either (eqb n 0) (ltb 64 n)
    by n = not_both (leb 1 n) (leb n 64) ∙ (λ i. either (none n i) (not_leb n 64 i))

-- 6, 7 and 10, of the image of a profile
module _ (p : List ℕ) where
  first_byte_lem : (i : ℕ) → i < 8 → get_or (part 8 p 0) i 0 ≡ get_or p i 0
  first_byte_lem i h = get_or-take 8 p i 0 h

  block_byte : (i : ℕ) → i < 32 → get_or (part 32 p 24) i 0 ≡ get_or p (24 + i) 0
  block_byte i h = get_or-take 32 (drop 24 p) i 0 h ∙ get_or-drop 24 p i 0

  address_is : (family : ℕ) → both (eqb (get_or (part 8 p 0) 0 0) family) (eqb (get_or (part 8 p 0) 7 0) (crc_of (part 7 (part 8 p 0) 0)))
      ≡ both (eqb (get_or p 0 0) family) (eqb (get_or p 7 0) (crc_of (take 7 p)))
  address_is family = λ i. both (eqb (first_byte_lem 0 (omega arith) i) family)
      (eqb (first_byte_lem 7 (omega arith) i) (crc_of (take-take 7 8 p (omega arith) i)))

  misaddressed_is : (f : Profile) → not (addressed_of f (image_address p)) ≡ misaddressed (image_kind f) p
  unfolding addressed_of
  misaddressed_is Ds2781 = ap not (address_is 0x3d) ∙ not_both (eqb (get_or p 0 0) 0x3d) _
  misaddressed_is Ds2775 = ap not (address_is 0x32) ∙ not_both (eqb (get_or p 0 0) 0x32) _

  locked_is : (f : Profile) → not (lockable_of p) ≡ locked_above3 (image_kind f) p
  locked_is Ds2781 = not_leb (get_or p 59 0) 3
  locked_is Ds2775 = not_leb (get_or p 59 0) 3

  rises_is : ordered_of (image_breaks p) ≡ breaks_rise p
  unfolding ordered_of
  rises_is =
      let b34 = block_byte 28 (omega arith) in
      let b23 = block_byte 29 (omega arith) in
      let b12 = block_byte 30 (omega arith) in
      (λ i. both (leb (offset8_of (b12 i)) (offset8_of (b23 i))) (both (leb (offset8_of (b23 i)) (offset8_of (b34 i))) (leb (offset8_of (b34 i)) 168)))
      ∙ (λ i. both (at_most 7 (offset8_of (get_or p 54 0)) (offset8_of (get_or p 53 0)) i)
      (both (at_most 7 (offset8_of (get_or p 53 0)) (offset8_of (get_or p 52 0)) i) (at_most 7 (offset8_of (get_or p 52 0)) 168 i)))

  crossed_is : (f : Profile) → not (ordered_of (image_breaks p)) ≡ breaks_cross (image_kind f) p
  crossed_is Ds2781 = ap not rises_is
  crossed_is Ds2775 = ap not rises_is

-- What each kind gets, of its size and at its time

module _ (room : ℕ) (last : Tick) (p : List ℕ) where
  -- 6, 7, 12 and 10
  abbrev image_number : Profile → Bool → ℕ
  image_number f again =
      let kind = image_kind f in
      pick (misaddressed kind p) 6 (pick (locked_above3 kind p) 7 (pick again 12 (pick (breaks_cross kind p) 10 0)))

  judged_number_lem : (f : Profile) (again : Bool) → eqb (length p) (image_size_of f) ≡ true → number_in room last (judged_among f again p) ≡
      image_number f again
  unfolding judged_among
  judged_number_lem f again sized =
      let done = quiet_event room last (Image f) refl refl in
      let ordered = tested room last (ordered_of (image_breaks p)) (Ok (Image f)) refusal.Breaks 0 done in
      let new = tested room last (not again) _ refusal.Repeated _ ordered in
      let lockable = tested room last (lockable_of p) _ refusal.Locks _ new in
      rw sized (tested room last (addressed_of f (image_address p)) _ refusal.Address _ lockable
      ∙ (λ i. pick (misaddressed_is p f i) 6 (pick (locked_is p f i) 7 (pick (not_not again i) 12 (pick (crossed_is p f i) 10 0)))))

  -- after 4 and 5
  abbrev turn_number : Bool → Bool → ℕ → ℕ
  turn_number sized accepted n = pick (either (not sized) false) 4 (pick accepted 5 n)

  image_number_lem : (f : Profile) (again accepted : Bool)
      → number_in room last (pick (eqb (length p) (image_size_of f)) (pick (not accepted) (judged_among f again p) (Err refusal.Order))
      (Err refusal.Size))
      ≡ turn_number (eqb (length p) (image_size_of f)) accepted (image_number f again)
  image_number_lem f again accepted = by (eqb (length p) (image_size_of f)) refl
    where
      by : (t : Bool) → eqb (length p) (image_size_of f) ≡ t
          → number_in room last (pick t (pick (not accepted) (judged_among f again p) (Err refusal.Order)) (Err refusal.Size))
          ≡ turn_number t accepted (image_number f again)
      by true sized =
          tested room last (not accepted) _ refusal.Order _ (judged_number_lem f again sized) ∙
          ap (λ (x : Bool). pick x 5 (image_number f again)) (not_not accepted)
      by false sized = refl

  -- 4 and 5 of any other kind
  due_number : (sized due : Bool) (t : Taken) (n : ℕ) → number_in room last t ≡ n
      → number_in room last (pick sized (pick due t (Err refusal.Order)) (Err refusal.Size)) ≡ turn_number sized (not due) n
  due_number sized due t n e =
      tested room last sized _ refusal.Size _ (tested room last due t refusal.Order n e)
      ∙ ap (λ (x : Bool). pick x 4 (pick (not due) 5 n)) (sym (either_none (not sized)))

  -- neither
  quiet_change : (c : Changes) → change_timely last c ≡ true → number_in room last (Ok (Change c)) ≡ 0
  quiet_change c timely = quiet_event room last (Change c) timely refl

  -- 11
  sample_number : (raw tick : ℕ) → number_in room last (Ok (Change (Sample raw tick)))
      ≡ pick (either (eqb (elapsed_of last tick) 0) (ltb 64 (elapsed_of last tick))) 11 0
  sample_number raw tick = by (timely_of last tick) ∙ ap (λ (x : Bool). pick x 11 0) (untimely_is last tick)
    where
      by : (t : Bool) → taken_number (fitted_of room (pick t (Ok (Change (Sample raw tick))) (Err refusal.Interval))) ≡ pick (not t) 11 0
      by true = rw (no_room room last) refl
      by false = refl

  -- 8 and 9
  transaction_number : (f : Form) → number_in room last (transaction_of f p) ≡ pick (ltb (limit_of f) (read_count f p)) 8 (pick (ltb room (read_count f p)) 9 0)
  transaction_number f =
      let t = transaction_in f p in
      let counts = (asked_placed (head_of f) (read_count f p) (drop (head_of f) p)).counts in
      let fits : number_in room last (Ok (Transact t)) ≡ pick (ltb room (read_count f p)) 9 0 =
      through taken_number (ltb room t.count) (Err refusal.Room) (Ok (Transact t)) ∙ ap (λ (n : ℕ). pick (ltb room n) 9 0) counts in
      tested room last (leb (read_count f p) (limit_of f)) _ refusal.Count _ fits
      ∙ ap (λ (x : Bool). pick x 8 (pick (ltb room (read_count f p)) 9 0)) (not_leb (read_count f p) (limit_of f))

  short_number : number_in room last (transaction_of Short p) ≡
      pick (either (ltb 64 (get_or p 0 0)) false) 8 (pick (either (ltb room (get_or p 0 0)) false) 9 0)
  short_number =
      transaction_number Short
      ∙ (λ i. pick (sym (either_none (ltb 64 (get_or p 0 0))) i) 8 (pick (sym (either_none (ltb room (get_or p 0 0))) i) 9 0))

-- the answer is the number of what is asked
answered_number : {S : Type 0} (k : Steps S) → Replying k → (σ : S) (p : List ℕ) (t : Taken) → (answered_by k σ p t).answer ≡ taken_number t
answered_number k r σ p (Ok e) = r.answer σ p e
answered_number k r σ p (Err x) = refl

-- Sessions

module _ (σ : Session) (room : ℕ) (p : List ℕ) where
  abbrev Given : ℕ → Type 0
  Given n = number_in room (last_tick σ) (taken_of n σ.loaded p) ≡ first_number (session_cases σ room n p)

  unknown_given : (n : ℕ) → NoneOf (1 ∷ 2 ∷ 3 ∷ 4 ∷ 5 ∷ 6 ∷ 7 ∷ 8 ∷ []) n → Given n
  unfolding taken_of kind_of first_number
  unknown_given n (a, (b, (c, (d, (e, (f, (g, (h, u)))))))) = rw (a, b, c, d, e, f, g, h) refl

  session_image : (f : Profile) → Given (image_kind f)
  unfolding taken_of kind_of first_number
  session_image Ds2781 = image_number_lem room (last_tick σ) p Ds2781 false σ.loaded
  session_image Ds2775 = image_number_lem room (last_tick σ) p Ds2775 false σ.loaded

  short_given : Given 4
  unfolding taken_of kind_of first_number
  short_given =
      due_number room (last_tick σ) p (sized_of (kind.Transaction Short) (length p)) σ.loaded (transaction_of Short p) _
      (short_number room (last_tick σ) p)

  sample_given : Given 6
  unfolding taken_of kind_of first_number
  sample_given = due_number room (last_tick σ) p (eqb (length p) 6) σ.loaded _ _ (sample_number room (last_tick σ) p (count_at p 0) (pair_at p 4))

  long_given : Given 7
  unfolding taken_of kind_of first_number
  long_given =
      due_number room (last_tick σ) p (sized_of (kind.Transaction Long) (length p)) σ.loaded (transaction_of Long p) _
      (transaction_number room (last_tick σ) p Long)

  known_given : Each Given (1 ∷ 2 ∷ 3 ∷ 4 ∷ 5 ∷ 6 ∷ 7 ∷ 8 ∷ [])
  unfolding taken_of kind_of first_number
  known_given =
      let last = last_tick σ in
      let due = due_number room last p in
      let quiet = quiet_change room last p in
      let reading : Given 2 = due (eqb (length p) 8) σ.loaded _ 0 (quiet (Reading (count_at p 0) (count_at p 4)) refl) in
      let conversion : Given 3 = due (eqb (length p) 4) σ.loaded _ 0 (quiet (Conversion (count_at p 0)) refl) in
      let power_on : Given 5 = due (eqb (length p) 0) σ.loaded _ 0 (quiet PowerOn refl) in
      (session_image Ds2781, (reading, (conversion, (short_given, (power_on, (sample_given, (long_given, (session_image Ds2775, tt))))))))

  session_number : (n : ℕ) → (did_of σ room (whole n p)).answer ≡ first_number (session_cases σ room n p)
  unfolding did_of
  session_number n =
      answered_number of_session session_replying σ p (fitted_of room (timed_of (last_tick σ) (taken_of n σ.loaded p)))
      ∙ among Given n (1 ∷ 2 ∷ 3 ∷ 4 ∷ 5 ∷ 6 ∷ 7 ∷ 8 ∷ []) known_given (unknown_given n)

-- Trays

-- 12: the search finds the address where some slot has it
search_some : (commons : List Common) (none : Common) (address : List ℕ) (i n : ℕ)
    → is_some (search_from commons none address i n) ≡ some_slot (λ j. same_bytes (get_or commons j none).address address) i n
search_some commons none address i zero = refl
search_some commons none address i (suc n) = by (same_bytes (get_or commons i none).address address) (search_some commons none address (i + 1) n)
  where
    later : Bool
    later = some_slot (λ j. same_bytes (get_or commons j none).address address) (i + 1) n

    by : (t : Bool) → is_some (search_from commons none address (i + 1) n) ≡ later
        → is_some (pick t (Some i) (search_from commons none address (i + 1) n)) ≡ either t later
    by true e = refl
    by false e = e

-- 4, with the slot byte ahead
ahead_sized : (n : ℕ) (p : List ℕ) → both (leb 1 (length p)) (eqb (length (drop 1 p)) n) ≡ eqb (length p) (n + 1)
ahead_sized n [] = sym (ne_eqb 0 (n + 1) (λ e. omega arith))
ahead_sized n (x ∷ rest) = rw (le-leb 1 (length (x ∷ rest)) (omega arith)) (by (eqb (length rest) n) refl)
  where
    by : (t : Bool) → eqb (length rest) n ≡ t → t ≡ eqb (length (x ∷ rest)) (n + 1)
    by true e = sym (eq-eqb (length (x ∷ rest)) (n + 1) (omega (arith, eqb-true (length rest) n e)))
    by false e = sym (ne_eqb (length (x ∷ rest)) (n + 1) (λ same. eqb-false (length rest) n e (omega arith)))

-- 5: an event of a slot, and a transaction
slot_due : (slot count : ℕ) → not (ltb slot count) ≡ either (eqb count 0) (leb count slot)
slot_due slot count = not_ltb slot count ∙ by (eqb count 0) refl
  where
    by : (t : Bool) → eqb count 0 ≡ t → leb count slot ≡ either t (leb count slot)
    by true e = le-leb count slot (omega (arith, eqb-true count 0 e))
    by false e = refl

some_due : (count : ℕ) → not (ltb 0 count) ≡ either (eqb count 0) false
some_due count = not_ltb 0 count ∙ by (eqb count 0) refl
  where
    by : (t : Bool) → eqb count 0 ≡ t → leb count 0 ≡ either t false
    by true e = le-leb count 0 (omega (arith, eqb-true count 0 e))
    by false e = lt-leb count 0 (omega (arith, eqb-false count 0 e))

module _ (τ : Tray) (room : ℕ) (p : List ℕ) where
  abbrev slot_last : Tick
  slot_last = slot_tick τ p

  abbrev TrayGiven : ℕ → Type 0
  TrayGiven n = taken_number (fitted_of room (tray_told τ n p)) ≡ first_number (tray_cases τ room n p)

  unknown_tray : (n : ℕ) → NoneOf (1 ∷ 4 ∷ 7 ∷ 8 ∷ 18 ∷ 19 ∷ 21 ∷ 22 ∷ []) n → TrayGiven n
  unfolding tray_kind_of first_number
  unknown_tray n (a, (b, (c, (d, (e, (f, (g, (h, u)))))))) = rw (a, b, c, d, e, f, g, h, le-leb 0 (length p) zero-le) refl

  -- no slot byte is ahead
  plain_ahead : (t : Taken) → taken_number (fitted_of room (pick (leb 0 (length p)) t (Err refusal.Size))) ≡ taken_number (fitted_of room t)
  plain_ahead t = rw (le-leb 0 (length p) zero-le) refl

  abbrev shut : Bool
  shut = either τ.closed (leb 8 τ.count)

  image_given : (f : Profile)
      → taken_number (fitted_of room (pick (leb 0 (length p))
      (timed_of slot_last (pick (eqb (length p) (image_size_of f))
      (pick (not shut) (judged_among f (again_of τ p) p) (Err refusal.Order)) (Err refusal.Size)))
      (Err refusal.Size)))
      ≡ turn_number room slot_last p (eqb (length p) (image_size_of f)) shut
      (image_number room slot_last p f (some_slot (λ i. same_bytes (pack_of τ i).common.address (take 8 p)) 0 τ.count))
  unfolding search_of
  image_given f =
      plain_ahead _ ∙ image_number_lem room slot_last p f (again_of τ p) shut
      ∙ ap (λ (again : Bool). turn_number room slot_last p (eqb (length p) (image_size_of f)) shut (image_number room slot_last p f again))
      (search_some τ.commons no_gauge.common (take 8 p) 0 τ.count)

  transaction_given : (f : Form) (sized : Bool) (n : ℕ) → number_in room slot_last (transaction_of f p) ≡ n
      → taken_number (fitted_of room (pick (leb 0 (length p))
      (timed_of slot_last (pick sized (pick (ltb 0 τ.count) (transaction_of f p) (Err refusal.Order)) (Err refusal.Size))) (Err refusal.Size)))
      ≡ turn_number room slot_last p sized (either (eqb τ.count 0) false) n
  transaction_given f sized n e =
      plain_ahead _ ∙ due_number room slot_last p sized (ltb 0 τ.count) (transaction_of f p) n e
      ∙ ap (λ (x : Bool). turn_number room slot_last p sized x n) (some_due τ.count)

  slot_given : (m : ℕ) (t : Taken) (n : ℕ) → number_in room slot_last t ≡ n
      → taken_number (fitted_of room (pick (leb 1 (length p))
      (timed_of slot_last (pick (eqb (length (drop 1 p)) m) (pick (ltb (slot_in p) τ.count) t (Err refusal.Order)) (Err refusal.Size)))
      (Err refusal.Size)))
      ≡ turn_number room slot_last p (eqb (length p) (m + 1)) (either (eqb τ.count 0) (leb τ.count (slot_in p))) n
  slot_given m t n e =
      by (leb 1 (length p))
      ∙ (λ i. turn_number room slot_last p (ahead_sized m p i) (slot_due (slot_in p) τ.count i) n)
    where
      rest : Taken
      rest = pick (eqb (length (drop 1 p)) m) (pick (ltb (slot_in p) τ.count) t (Err refusal.Order)) (Err refusal.Size)

      by : (ahead : Bool) → taken_number (fitted_of room (pick ahead (timed_of slot_last rest) (Err refusal.Size)))
          ≡ turn_number room slot_last p (both ahead (eqb (length (drop 1 p)) m)) (not (ltb (slot_in p) τ.count)) n
      by true = due_number room slot_last p (eqb (length (drop 1 p)) m) (ltb (slot_in p) τ.count) t n e
      by false = refl

  -- the tick stands one byte later
  tick_later : pair_at (drop 1 p) 4 ≡ pair_at p 5
  tick_later = λ i. get_or-drop 1 p 4 0 i + 256 * get_or-drop 1 p 5 0 i

  tray_image : (f : Profile) → TrayGiven (image_kind f)
  unfolding tray_kind_of first_number
  tray_image Ds2781 = image_given Ds2781
  tray_image Ds2775 = image_given Ds2775

  known_tray : Each TrayGiven (1 ∷ 4 ∷ 7 ∷ 8 ∷ 18 ∷ 19 ∷ 21 ∷ 22 ∷ [])
  unfolding tray_kind_of first_number
  known_tray =
      let old = drop 1 p in
      let quiet = quiet_change room slot_last p in
      let short : TrayGiven 4 = transaction_given Short (sized_of (kind.Transaction Short) (length p)) _ (short_number room slot_last p) in
      let long : TrayGiven 7 = transaction_given Long (sized_of (kind.Transaction Long) (length p)) _ (transaction_number room slot_last p Long) in
      let reading : TrayGiven 18 = slot_given 8 _ 0 (quiet (Reading (count_at old 0) (count_at old 4)) refl) in
      let conversion : TrayGiven 19 = slot_given 4 _ 0 (quiet (Conversion (count_at old 0)) refl) in
      let power_on : TrayGiven 21 = slot_given 0 _ 0 (quiet PowerOn refl) in
      let sample : TrayGiven 22 = slot_given 6 _ _ (sample_number room slot_last p (count_at old 0) (pair_at old 4)
      ∙ ap (λ (tick : ℕ). pick (either (eqb (elapsed_of slot_last tick) 0) (ltb 64 (elapsed_of slot_last tick))) 11 0) tick_later) in
      (tray_image Ds2781, (short, (long, (tray_image Ds2775, (reading, (conversion, (power_on, (sample, tt))))))))

  tray_number : (n : ℕ) → (tray_did τ room (whole n p)).answer ≡ first_number (tray_cases τ room n p)
  unfolding tray_did
  tray_number n =
      answered_number of_tray tray_replying τ p (fitted_of room (tray_told τ n p))
      ∙ among TrayGiven n (1 ∷ 4 ∷ 7 ∷ 8 ∷ 18 ∷ 19 ∷ 21 ∷ 22 ∷ []) known_tray (unknown_tray n)

-- The record at the front of what is left

short_is : (s : List ℕ) → not (whole_of s) ≡ runs_short s
unfolding whole_of
short_is s = by (ltb (length s) 4)
  where
    by : (t : Bool) → not (pick t false (leb (4 + pair_at s 0) (length s))) ≡ either t (ltb (length s) (4 + pair_at s 0))
    by true = refl
    by false = not_leb (4 + pair_at s 0) (length s)

module _ (s : List ℕ) where
  front_number : (answer : Rec → ℕ) → answer cut ≡ 2 → (cs : List Case) → answer (whole (pair_at s 2) (part (pair_at s 0) s 4)) ≡ first_number cs
      → answer (rec_of s) ≡ first_number (record { number = 2; applies = runs_short s } ∷ cs)
  unfolding rec_of first_number
  front_number answer cuts cs e = by (whole_of s) ∙ ap (λ (x : Bool). pick x 2 (first_number cs)) (short_is s)
    where
      by : (t : Bool) → answer (pick t (whole (pair_at s 2) (part (pair_at s 0) s 4)) cut) ≡ pick (not t) 2 (first_number cs)
      by true = e
      by false = cuts

-- 1, 2 and all others

within_number : {S : Type 0} (did : S → ℕ → Rec → Did S) (start : S) (c : Call S) → Allowed did start c → length c.bytes ≤ 32768
    → outcome_number c.ran.outcome ≡ 0
within_number did start c a short =
    let r : Running did start c.bytes c.room c.answers c.ran c.replies c.told = rw (within_done (length c.bytes) short) at a in
    r.number

session_numbers : Numbers did_of empty_of session_cases
unfolding did_of distinct apart_from
session_numbers = record {
  over = λ c a long. (demand_1.over c a long).0;
  within = within_number did_of empty_of;
  records = λ σ room s some.
      only_when (front_cases did_of empty_of session_cases σ room s) refl (did_of σ room (rec_of s)).answer
      (front_number s (λ r. (did_of σ room r).answer) refl _ (session_number σ room (part (pair_at s 0) s 4) (pair_at s 2)));
  lines = λ c w kind p l a b t.
      let σ = a.ran.state in
      let room = length a.room - a.ran.replied in
      only_when (session_cases σ room kind p) refl l.answer
      (ap (λ (x : Line). x.answer) (demand_2.events.events c w (whole kind p) l a b t).line ∙ session_number σ room p kind);
  cuts = λ c w l a b t. ap (λ (x : Line). x.answer) (demand_2.events.events c w cut l a b t).line;
}

tray_numbers : Numbers tray_did empty_tray tray_cases
unfolding tray_did distinct apart_from
tray_numbers = record {
  over = λ c a long. (tray_demand_1.over c a long).0;
  within = within_number tray_did empty_tray;
  records = λ τ room s some.
      only_when (front_cases tray_did empty_tray tray_cases τ room s) refl (tray_did τ room (rec_of s)).answer
      (front_number s (λ r. (tray_did τ room r).answer) refl _ (tray_number τ room (part (pair_at s 0) s 4) (pair_at s 2)));
  lines = λ c w kind p l a b t.
      let τ = a.ran.state in
      let room = length a.room - a.ran.replied in
      only_when (tray_cases τ room kind p) refl l.answer
      (ap (λ (x : Line). x.answer) (tray_demand_2.events.events c w (whole kind p) l a b t).line ∙ tray_number τ room p kind);
  cuts = λ c w l a b t. ap (λ (x : Line). x.answer) (tray_demand_2.events.events c w cut l a b t).line;
}

pub each_number_holds : EachNumber
each_number_holds = record { session = session_numbers; tray = tray_numbers }
