-- The history that is read off the records is what the pack went through, of every run; and so the books close in it.
use mathlib.Core.Path.{◌≡◌, refl, sym, ap, subst, ◌∙◌}
use mathlib.Core.Bool.{Bool, true, false}
use mathlib.Core.List.{List, [], ◌∷◌, ◌++◌}
use Prim.Native.Nat.{ℕ, ◌+◌, ◌-◌, ◌≤◌, zero-le}
use native.Mathlib.Omega.{arith}
use borrow.Author.Tests.{ltb-true, ltb-false, lt-ltb, le-ltb, eqb-true, eqb-false, ne_eqb}
use lib.Dec.{ltb, eqb}
use lib.IntN.{◌-ℤ◌}
use lib.ListN.{length, take, drop, take-append-drop}
use Rattle.std.specs.Prelude.{Ok, Err}
use Rattle.numbers.specs.Choice.{pick}
use Rattle.numbers.proofs.Bounds.{picked, through}
use Rattle.state.specs.declared.Profile.{Profile}
use Rattle.gauge.specs.declared.Gauge.{Gauge}
use Rattle.gauge.specs.Image.{image_of}
use Rattle.record.specs.declared.Event.{Event}
use Rattle.record.specs.declared.Event.TheVariants.{Image, Change, Transact}
use Rattle.record.specs.Record.{master_of, taken_of, timed_of, fitted_of, Taken}
use Rattle.record.proofs.Fits.{Taking, timed_taking}
use Rattle.runs.specs.Record.{Rec, whole, cut, recs_of}
use Rattle.runs.specs.Run.{Did, end_after}
use Rattle.runs.specs.declared.Session.{Session}
use Rattle.runs.specs.AnyRecord.{answered_by}
use Rattle.runs.specs.SessionRecord.{last_tick, of_session, did_of}
use Rattle.session_run.specs.SessionRun.{empty_of}
use Rattle.tray_record.specs.declared.Tray.{Tray}
use Rattle.tray_record.specs.Tray.{empty_tray, pack_of, tray_kind_of, slot_in, Reach, one, every, nobody, tray_reach, tray_told, tray_event, of_tray, tray_did}
use Rattle.demands.specs.Call.{Call, Within, Stopped}
use Rattle.demands.specs.History.{Happening, imaged, lived, Imageless, hears_of, Pack, of_gauge, slot_hears, of_slot}
use Rattle.demands.specs.History.{event_happens, heard_by, heard_in, heard_after, heard_since, life_in, left_by, HistoryHolds}
use Rattle.demands.specs.Books.{sum_over, count_in, BooksClose}
use Rattle.demands.specs.Stored.{eeprom_in, stored_last, EepromHolds}
use Rattle.demands.proofs.Choice.{contrary}
use Rattle.demands.proofs.Fitted.{fitted_has}
use Rattle.demands.proofs.Moments.{left_of, end_append, running, stopped_within, stopped_recs}
use Rattle.demands.proofs.Packs.{Eight, There, acted_count}
use Rattle.demands.proofs.Asked.{Asks, tray_asks, reach_there}
use Rattle.demands.proofs.Filled.{pack_after, count_after, event_pack, event_count, did_eight, empty_filled}
use Rattle.demands.proofs.Booked.{books_close}
use Rattle.demands.proofs.Stored.{stored_image, stored_last_lem, locked_lasts}

-- One history, then another

pub lived_append : (hs ks : List Happening) (g : Gauge) → lived g (hs ++ ks) ≡ lived (lived g hs) ks
lived_append [] ks g = refl
lived_append (h ∷ hs) ks g = lived_append hs ks _

imageless_append : (hs ks : List Happening) → Imageless hs → Imageless ks → Imageless (hs ++ ks)
imageless_append [] ks a b = b
imageless_append (h ∷ hs) ks a b = (a.0, imageless_append hs ks a.1 b)

-- What a record brings to a pack that is not there, by whether it is there afterwards: nothing, or its image
abbrev Brings : Bool → List Happening → Type 0
Brings true hs = (f : Profile) × ((p : List ℕ) × (hs ≡ imaged f p ∷ []))
Brings false hs = hs ≡ []

-- What is asked of each record, in states of which something holds: the pack goes through what is read off the record; its image comes first; and once
-- it is there it stays, and no other image comes to it

pub record Follows {S : Type 0} (did : S → ℕ → Rec → Did S) (start : S) (pack : Pack S) (Holds : S → Type 0) : Type 0 where
  pub starts : Holds start
  pub nowhere : pack.there start ≡ false
  pub keeps : (σ : S) (room : ℕ) (r : Rec) → Holds σ → Holds (did σ room r).state
  pub goes : (σ : S) (room : ℕ) (r : Rec) → Holds σ → pack.gauge (did σ room r).state ≡ lived (pack.gauge σ) (heard_in pack σ room r)
  pub comes : (σ : S) (room : ℕ) (r : Rec) → Holds σ → pack.there σ ≡ false → Brings (pack.there (did σ room r).state) (heard_in pack σ room r)
  pub stays : (σ : S) (room : ℕ) (r : Rec) → Holds σ → pack.there σ ≡ true →
      (pack.there (did σ room r).state ≡ true) × Imageless (heard_in pack σ room r)

-- The life of a pack that is there begins with its image, and leaves the gauge that it has

pub record Born {S : Type 0} (did : S → ℕ → Rec → Did S) (start : S) (pack : Pack S) (c : Call S) : Type 0 where
  pub profile : Profile
  pub image : List ℕ
  pub later : List Happening
  pub life : life_in did start pack c ≡ imaged profile image ∷ later
  pub once : Imageless later
  pub gauge : left_by pack c ≡ lived (image_of profile image) later

-- what is known of the history of a pack
pub record Known {S : Type 0} (did : S → ℕ → Rec → Did S) (start : S) (pack : Pack S) : Type 0 where
  pub since : HistoryHolds did start pack
  pub born : (c : Call S) → Within did start c → pack.there c.ran.state ≡ true → Born did start pack c

module _ {S : Type 0} {did : S → ℕ → Rec → Did S} {start : S} {pack : Pack S} {Holds : S → Type 0} (f : Follows did start pack Holds) where
  end_holds : (rs : List Rec) (σ : S) (room : ℕ) → Holds σ → Holds (end_after did σ room rs)
  end_holds [] σ room h = h
  end_holds (r ∷ rs) σ room h = end_holds rs (did σ room r).state (room - length (did σ room r).reply) (f.keeps σ room r h)

  end_lived : (rs : List Rec) (σ : S) (room : ℕ) → Holds σ →
      pack.gauge (end_after did σ room rs) ≡ lived (pack.gauge σ) (heard_after pack did σ room rs)
  end_lived [] σ room h = refl
  end_lived (r ∷ rs) σ room h =
      let d = did σ room r in
      let later = heard_after pack did d.state (room - length d.reply) rs in
      end_lived rs d.state (room - length d.reply) (f.keeps σ room r h)
      ∙ ap (λ (g : Gauge). lived g later) (f.goes σ room r h)
      ∙ sym (lived_append (heard_in pack σ room r) later (pack.gauge σ))

  end_imageless : (rs : List Rec) (σ : S) (room : ℕ) → Holds σ → pack.there σ ≡ true → Imageless (heard_after pack did σ room rs)
  end_imageless [] σ room h t = tt
  end_imageless (r ∷ rs) σ room h t =
      let d = did σ room r in
      let s = f.stays σ room r h t in
      imageless_append (heard_in pack σ room r) _ s.1 (end_imageless rs d.state (room - length d.reply) (f.keeps σ room r h) s.0)

  -- the life of a pack begins with its image
  record Begins (hs : List Happening) : Type 0 where
    profile : Profile
    image : List ℕ
    later : List Happening
    life : hs ≡ imaged profile image ∷ later
    once : Imageless later

  end_begins : (rs : List Rec) (σ : S) (room : ℕ) → Holds σ → pack.there σ ≡ false → pack.there (end_after did σ room rs) ≡ true
      → Begins (heard_after pack did σ room rs)
  end_begins [] σ room h none there = let z : ◌≡◌ {A = Bool} true false = sym there ∙ none in contrary cc
  end_begins (r ∷ rs) σ room h none there =
      let d = did σ room r in
      let left = room - length d.reply in
      let k = f.keeps σ room r h in
      by (heard_in pack σ room r) (heard_after pack did d.state left rs) (pack.there d.state) refl (f.comes σ room r h none)
      (λ here. end_imageless rs d.state left k here)
      (λ away. end_begins rs d.state left k away there)
    where
      by : (hs ks : List Happening) (t : Bool) {s : Bool} → s ≡ t → Brings s hs → (s ≡ true → Imageless ks) → (s ≡ false → Begins ks) →
          Begins (hs ++ ks)
      by hs ks true e b here away =
          let c = subst (λ (x : Bool). Brings x hs) e b in
          record { profile = c.0; image = c.1.0; later = ks; life = ap (λ (l : List Happening). l ++ ks) c.1.1; once = here e }
      by hs ks false e b here away = subst (λ (l : List Happening). Begins (l ++ ks)) (sym (subst (λ (x : Bool). Brings x hs) e b)) (away e)

  -- two moments of a run
  module _ (n : ℕ) (a b : Call S) (w : Within did start b) (s : Stopped did start n b a) where
    abbrev rest : List Rec
    rest = drop n (recs_of b.bytes)

    state_is : a.ran.state ≡ end_after did start (length a.room) (take n (recs_of b.bytes))
    state_is =
        (running did start (stopped_within did start w s)).state
        ∙ ap (λ (rs : List Rec). end_after did start (length a.room) rs) (stopped_recs did start w s)

    room_is : left_of did start (length a.room) (take n (recs_of b.bytes)) ≡ length a.room - a.ran.replied
    room_is =
        let e = (running did start (stopped_within did start w s)).replied in
        rw (e, stopped_recs did start w s) refl

    since : b.ran.state ≡ end_after did a.ran.state (length a.room - a.ran.replied) rest
    since =
        let rs = take n (recs_of b.bytes) in
        (running did start w).state
        ∙ ap (λ (room : List ℕ). end_after did start (length room) (recs_of b.bytes)) (sym s.room)
        ∙ ap (λ (all : List Rec). end_after did start (length a.room) all) (sym (take-append-drop n (recs_of b.bytes)))
        ∙ end_append did start (length a.room) rs rest
        ∙ (λ i. end_after did (sym state_is i) (room_is i) rest)

    holds : Holds a.ran.state
    holds = subst Holds (sym state_is) (end_holds (take n (recs_of b.bytes)) start (length a.room) f.starts)

    pub since_lived : left_by pack b ≡ lived (left_by pack a) (heard_since pack did n a b)
    since_lived = ap pack.gauge since ∙ end_lived rest a.ran.state (length a.room - a.ran.replied) holds

    pub since_imageless : pack.there a.ran.state ≡ true → Imageless (heard_since pack did n a b)
    since_imageless t = end_imageless rest a.ran.state (length a.room - a.ran.replied) holds t

  born_of : (c : Call S) → Within did start c → pack.there c.ran.state ≡ true → Born did start pack c
  born_of c w there =
      let rs = recs_of c.bytes in
      let state = (running did start w).state in
      let b = end_begins rs start (length c.room) f.starts f.nowhere (ap pack.there (sym state) ∙ there) in
      record {
        profile = b.profile;
        image = b.image;
        later = b.later;
        life = b.life;
        once = b.once;
        gauge =
            ap pack.gauge state
            ∙ end_lived rs start (length c.room) f.starts
            ∙ ap (λ (hs : List Happening). lived (pack.gauge start) hs) b.life;
      }

  pub known_of : Known did start pack
  known_of = record { since = since_lived; born = born_of }

  -- THE BOOKS CLOSE
  pub books_of : BooksClose did start pack
  books_of n a b w s k =
      let g = left_by pack a in
      let hs = heard_since pack did n a b in
      subst (λ (f : Gauge). count_in f.meter -ℤ count_in g.meter ≡ sum_over g hs) (sym (since_lived n a b w s)) (books_close g hs k)

  -- THE EEPROM HOLDS
  pub eeprom_of_lem : EepromHolds did start pack
  eeprom_of_lem = record {
    locked = λ m n a b w s there lock.
        let g = left_by pack a in
        subst (λ (f : Gauge). eeprom_in m f ≡ eeprom_in m g) (sym (since_lived n a b w s))
        (locked_lasts m (eeprom_in m g) (heard_since pack did n a b) g (since_imageless n a b w s there) (lock, refl)).1;
    stored = λ m c w there.
        let b = born_of c w there in
        record {
          profile = b.profile;
          image = b.image;
          later = b.later;
          life = b.life;
          once = b.once;
          bytes =
              ap (eeprom_in m) b.gauge
              ∙ stored_last_lem m b.later (image_of b.profile b.image)
              ∙ ap (λ (bytes : List ℕ). stored_last m (image_of b.profile b.image) bytes b.later) (stored_image m b.profile b.image);
        };
  }

-- The gauge of a session

module _ (σ : Session) (room : ℕ) where
  session_goes : (r : Rec) → (did_of σ room r).state.gauge ≡ lived σ.gauge (heard_in of_gauge σ room r)
  unfolding did_of
  session_goes (whole kind p) = by (fitted_of room (of_session.told σ kind p))
    where
      by : (t : Taken) → (answered_by of_session σ p t).state.gauge ≡ lived σ.gauge (heard_by of_gauge σ p t)
      by (Ok (Image f)) = refl
      by (Ok (Change c)) = refl
      by (Ok (Transact t)) = refl
      by (Err r) = refl
  session_goes cut = refl

  abbrev Stays : List ℕ → Taken → Type 0
  Stays p t = ((answered_by of_session σ p t).state.loaded ≡ true) × Imageless (heard_by of_gauge σ p t)

  session_stays : (r : Rec) → σ.loaded ≡ true → ((did_of σ room r).state.loaded ≡ true) × Imageless (heard_in of_gauge σ room r)
  unfolding did_of
  session_stays (whole kind p) there = fitted_has (Stays p) (there, tt) room asks (by asks (timed_taking σ.loaded p (last_tick σ) kind))
    where
      asks : Taken
      asks = timed_of (last_tick σ) (taken_of kind σ.loaded p)

      by : (t : Taken) → Taking false σ.loaded p t → Stays p t
      by (Ok (Image f)) h = let z : ◌≡◌ {A = Bool} true false = sym there ∙ h.0 in contrary cc
      by (Ok (Change c)) h = (refl, (tt, tt))
      by (Ok (Transact t)) h = (refl, (tt, tt))
      by (Err r) h = (there, tt)
  session_stays cut there = (there, tt)

  session_comes : (r : Rec) → σ.loaded ≡ false → Brings (did_of σ room r).state.loaded (heard_in of_gauge σ room r)
  unfolding did_of
  session_comes (whole kind p) none = fitted_has Comes (rw none refl) room asks (by asks (timed_taking σ.loaded p (last_tick σ) kind))
    where
      asks : Taken
      asks = timed_of (last_tick σ) (taken_of kind σ.loaded p)

      Comes : Taken → Type 0
      Comes t = Brings (answered_by of_session σ p t).state.loaded (heard_by of_gauge σ p t)

      by : (t : Taken) → Taking false σ.loaded p t → Comes t
      by (Ok (Image f)) h = (f, (p, refl))
      by (Ok (Change c)) h = let z : ◌≡◌ {A = Bool} true false = sym h ∙ none in contrary cc
      by (Ok (Transact t)) h = let z : ◌≡◌ {A = Bool} true false = sym h.0 ∙ none in contrary cc
      by (Err r) h = rw none refl
  session_comes cut none = rw none refl

pub session_follows : Follows did_of empty_of of_gauge (λ σ. Unit)
session_follows = record {
  starts = tt;
  nowhere = refl;
  keeps = λ σ room r h. tt;
  goes = λ σ room r h. session_goes σ room r;
  comes = λ σ room r h none. session_comes σ room r none;
  stays = λ σ room r h there. session_stays σ room r there;
}

pub session_known : Known did_of empty_of of_gauge
session_known = known_of session_follows

pub session_history : HistoryHolds did_of empty_of of_gauge
session_history = since_lived session_follows

pub session_books : BooksClose did_of empty_of of_gauge
session_books = books_of session_follows

pub session_eeprom : EepromHolds did_of empty_of of_gauge
session_eeprom = eeprom_of_lem session_follows

-- Each slot of a tray

module _ (τ : Tray) (eight : Eight τ) (j : ℕ) where
  -- what the slot hears it goes through, and else its pack is as it was
  heard_lives : (p : List ℕ) (e : Event) → pack_after τ p e j ≡ lived (pack_of τ j) (pick (slot_hears j τ p e) (event_happens p e ∷ []) [])
  heard_lives p (Image f) = sym (through (lived (pack_of τ j)) (eqb j τ.count) _ [])
  heard_lives p (Change c) = sym (through (lived (pack_of τ j)) (eqb j (slot_in p)) _ [])
  heard_lives p (Transact t) = sym (through (lived (pack_of τ j)) (hears_of (tray_reach τ t (master_of t p)) τ.count j) _ [])

  abbrev SlotGoes : List ℕ → Taken → Type 0
  SlotGoes p t = pack_of (answered_by of_tray τ p t).state j ≡ lived (pack_of τ j) (heard_by (of_slot j) τ p t)

  slot_goes : (room : ℕ) (r : Rec) → pack_of (tray_did τ room r).state j ≡ lived (pack_of τ j) (heard_in (of_slot j) τ room r)
  unfolding tray_did
  slot_goes room (whole n p) = fitted_has (SlotGoes p) refl room (tray_told τ n p) (by (tray_told τ n p) (tray_asks τ n p))
    where
      by : (t : Taken) → Asks τ (tray_kind_of n) p t → SlotGoes p t
      by (Ok e) a = event_pack τ eight (tray_kind_of n) p e a j ∙ heard_lives p e
      by (Err r) a = refl
  slot_goes room cut = refl

  abbrev SlotStays : List ℕ → Taken → Type 0
  SlotStays p t = (ltb j (answered_by of_tray τ p t).state.count ≡ true) × Imageless (heard_by (of_slot j) τ p t)

  slot_stays : (room : ℕ) (r : Rec) → ltb j τ.count ≡ true →
      (ltb j (tray_did τ room r).state.count ≡ true) × Imageless (heard_in (of_slot j) τ room r)
  unfolding tray_did
  slot_stays room (whole n p) there = fitted_has (SlotStays p) (there, tt) room (tray_told τ n p) (by (tray_told τ n p))
    where
      grows : (e : Event) → ltb j (tray_event τ p e).state.count ≡ true
      grows e = rw (event_count τ eight (tray_kind_of n) p e) (more e)
        where
          more : (e : Event) → ltb j (count_after τ e) ≡ true
          more (Image f) = lt-ltb j (τ.count + 1) (omega (arith, ltb-true j τ.count there))
          more (Change c) = there
          more (Transact t) = there

      quiet : (e : Event) → Imageless (pick (slot_hears j τ p e) (event_happens p e ∷ []) [])
      quiet (Image f) =
          picked Imageless (eqb j τ.count) _ _ (λ e. absurd (omega (arith, ltb-true j τ.count there, eqb-true j τ.count e))) (λ e. tt)
      quiet (Change c) = picked Imageless (eqb j (slot_in p)) _ _ (λ e. (tt, tt)) (λ e. tt)
      quiet (Transact t) = picked Imageless (hears_of (tray_reach τ t (master_of t p)) τ.count j) _ _ (λ e. (tt, tt)) (λ e. tt)

      by : (t : Taken) → SlotStays p t
      by (Ok e) = (grows e, quiet e)
      by (Err r) = (there, tt)
  slot_stays room cut there = (there, tt)

  slot_comes : (room : ℕ) (r : Rec) → ltb j τ.count ≡ false → Brings (ltb j (tray_did τ room r).state.count) (heard_in (of_slot j) τ room r)
  unfolding tray_did
  slot_comes room (whole n p) none = fitted_has Comes (rw none refl) room (tray_told τ n p) (by (tray_told τ n p) (tray_asks τ n p))
    where
      Comes : Taken → Type 0
      Comes t = Brings (ltb j (answered_by of_tray τ p t).state.count) (heard_by (of_slot j) τ p t)

      high : τ.count ≤ j
      high = ltb-false j τ.count none

      -- the image is this slot's, or that of one below it
      joins : (f : Profile) (t : Bool) → eqb j τ.count ≡ t → Brings (ltb j (τ.count + 1)) (pick t (imaged f p ∷ []) [])
      joins f true e = rw (lt-ltb j (τ.count + 1) (omega (arith, eqb-true j τ.count e))) (f, (p, refl))
      joins f false e = rw (le-ltb j (τ.count + 1) (omega (arith, high, eqb-false j τ.count e))) refl

      -- no transaction reaches it
      deaf : (reach : Reach) → There reach τ.count → hears_of reach τ.count j ≡ false
      deaf (one i) low = ne_eqb j i (λ e. omega (arith, high))
      deaf every low = none
      deaf nobody low = refl

      by : (t : Taken) → Asks τ (tray_kind_of n) p t → Comes t
      by (Ok (Image f)) a = joins f (eqb j τ.count) refl
      by (Ok (Change c)) a = rw (none, ne_eqb j (slot_in p) (λ e. omega (arith, high, a.pack))) refl
      by (Ok (Transact t)) a =
          let master = master_of t p in
          let reach = tray_reach τ t master in
          rw (acted_count t master τ reach, none, deaf reach (reach_there τ t master)) refl
      by (Err r) a = rw none refl
  slot_comes room cut none = rw none refl

pub slot_follows : (j : ℕ) → Follows tray_did empty_tray (of_slot j) Eight
slot_follows j = record {
  starts = empty_filled.eight;
  nowhere = le-ltb j 0 zero-le;
  keeps = λ τ room r h. did_eight τ room r h;
  goes = λ τ room r h. slot_goes τ h j room r;
  comes = λ τ room r h none. slot_comes τ h j room r none;
  stays = λ τ room r h there. slot_stays τ h j room r there;
}

pub slot_known : (j : ℕ) → Known tray_did empty_tray (of_slot j)
slot_known j = known_of (slot_follows j)

pub slot_history : (j : ℕ) → HistoryHolds tray_did empty_tray (of_slot j)
slot_history j = since_lived (slot_follows j)

pub slot_books : (j : ℕ) → BooksClose tray_did empty_tray (of_slot j)
slot_books j = books_of (slot_follows j)

pub slot_eeprom : (j : ℕ) → EepromHolds tray_did empty_tray (of_slot j)
slot_eeprom j = eeprom_of_lem (slot_follows j)
