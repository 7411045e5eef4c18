-- A transaction that both forms allow gives one answer, proved.
use mathlib.Core.Path.{◌≡◌, refl, sym, ap, ◌∙◌}
use mathlib.Core.Bool.{Bool, true, false}
use mathlib.Core.List.{List, [], ◌∷◌, ◌++◌, map}
use Prim.Native.Nat.{ℕ, zero, suc, ◌+◌, ◌-◌, ◌≤◌, zero-le}
use native.Mathlib.Omega.{arith}
use borrow.Author.Tests.{le-ltb, le-leb}
use lib.Dec.{ltb}
use lib.ListN.{length, drop, replicate}
use Rattle.std.specs.Prelude.{Ok, Err}
use Rattle.numbers.specs.Choice.{pick, either}
use Rattle.state.specs.State.{no_tick}
use Rattle.bus.specs.declared.Rom.{Rom}
use Rattle.bus.specs.declared.Rom.TheVariants as rom
use Rattle.bus.specs.declared.Transaction.{Transaction}
use Rattle.bus.specs.Ask.{rom_by, rom_of, command_of, asked_at, asked_by, asked_of}
use Rattle.bus.proofs.Laws.{asked_placed}
use Rattle.replies.specs.Reply.{selected_of, read_byte, source_byte, listed}
use Rattle.replies.proofs.Listed.{listed_length}
use Rattle.gauge.specs.declared.Gauge.{Gauge}
use Rattle.gauge.specs.Act.{ran_of, act_of, reply_of}
use Rattle.record.specs.declared.Form.{Form}
use Rattle.record.specs.declared.Form.TheVariants.{Short, Long}
use Rattle.record.specs.declared.Kind.{Kind}
use Rattle.record.specs.declared.Kind.TheVariants as kind
use Rattle.record.specs.declared.Refusal.TheVariants as refusal
use Rattle.record.specs.declared.Event.TheVariants.{Transact}
use Rattle.record.specs.Record.{head_of, limit_of, read_count, kind_of, master_of, taken_by, taken_of, fitted_of, Taken}
use Rattle.record.proofs.Fits.{transaction_timely}
use Rattle.runs.specs.Record.{Rec, kind_in}
use Rattle.runs.specs.Run.{Did, lines_after, end_after, replies_of}
use Rattle.runs.specs.declared.Session.{Session}
use Rattle.runs.specs.AnyRecord.{Steps, answered_by, record_by}
use Rattle.runs.specs.SessionRecord.{loaded_with, last_tick, of_session, did_of}
use Rattle.tray_record.specs.declared.Tray.{Tray}
use Rattle.tray_record.specs.Tray.{pack_of, stored_of, closed_of, again_of, slot_tick, Reach, one, every, nobody, tray_reach}
use Rattle.tray_record.specs.Tray.{acted_first, wired_first, tray_acted, tray_reply, of_tray, tray_did}
use Rattle.tray_record.specs.Wire.{and_bytes}
use Rattle.demands.specs.Class.{Selects, touched_of, taken_class, class_by, session_asked, class_of, tray_asked, some_selected, tray_class}
use Rattle.demands.specs.Longer.{form_kind, payload_of, record_in, AllowedIn, Reformed, none, kept, reformed, answered}
use Rattle.demands.specs.Longer.{OneAnswer, OneClass, reading, quarters, Longer, LongerMet, whole_map, AsBefore}
use Rattle.demands.proofs.Alone.{transaction_kind, session_kind}

-- What a form writes is what it reads

module _ (count : ℕ) (master : List ℕ) where
  count_read : (f : Form) → read_count f (payload_of f count master) ≡ count
  count_read Short = refl
  count_read Long = omega arith

  master_read : (f : Form) → drop (head_of f) (payload_of f count master) ≡ master
  master_read Short = refl
  master_read Long = refl

  payload_length : (f : Form) → length (payload_of f count master) ≡ head_of f + length master
  payload_length Short = omega arith
  payload_length Long = omega arith

-- Where the master bytes start in a payload tells nothing

abbrev started_at : ℕ → Transaction → Transaction
started_at s t = record { start = s; from = t.from; address = t.address; rom = t.rom; command = t.command; count = t.count }

asked_started : (s start count : ℕ) (master : List ℕ) → started_at s (asked_of start count master) ≡ asked_of s count master
unfolding asked_of asked_at
asked_started s start count master = by (rom_of master)
  where
    at : (r : Rom) (i : ℕ) (b : Bool) → ltb (length master) (i + 2) ≡ b → started_at s (asked_at start count r i master) ≡ asked_at s count r i master
    at r i true e = rw e refl
    at r i false e = rw e refl

    by : (r : Rom) → started_at s (asked_by start count master r) ≡ asked_by s count master r
    by rom.Skip = at rom.Skip 1 _ refl
    by rom.Match = at rom.Match 9 _ refl
    by rom.Net33 = refl
    by rom.Net39 = refl
    by rom.Quiet = refl

-- What a transaction asks, where a flag says whether there is a gauge to hear it

module _ (count : ℕ) (master : List ℕ) where
  abbrev asking : Form → Transaction
  asking f = asked_of (head_of f) count master

  module _ (told : ℕ → List ℕ → Taken) (ready : Bool)
      (tells : (f : Form) (p : List ℕ) → told (form_kind f) p ≡ taken_by false (kind.Transaction f) ready p) where
    asks : (f : Form) → AllowedIn f count master →
        told (form_kind f) (payload_of f count master) ≡ pick ready (Ok (Transact (asking f))) (Err refusal.Order)
    asks f a =
        let some : head_of f ≤ length (payload_of f count master) = omega (arith, payload_length count master f) in
        let few : length (payload_of f count master) ≤ head_of f + limit_of f = omega (arith, payload_length count master f, a.sends) in
        tells f (payload_of f count master)
        ∙ rw (le-leb _ _ some, le-leb _ _ few, count_read count master f, master_read count master f, le-leb _ _ a.reads) refl

-- What a transaction does, in runs of any state

-- it hangs on the state by the flag, and not on where the master bytes start
record Hears {S : Type 0} (k : Steps S) : Type 0 where
  ready : S → Bool
  told : (σ : S) (f : Form) (p : List ℕ) → k.told σ (form_kind f) p ≡ taken_by false (kind.Transaction f) (ready σ) p
  event : (σ : S) (p q : List ℕ) (s : ℕ) (t : Transaction) → master_of t p ≡ drop s q →
      k.event σ p (Transact t) ≡ k.event σ q (Transact (started_at s t))

master_sent : (count : ℕ) (master : List ℕ) (f g : Form) →
    master_of (asking count master f) (payload_of f count master) ≡ drop (head_of g) (payload_of g count master)
master_sent count master f g =
    ap (λ (s : ℕ). drop s (payload_of f count master)) (asked_placed (head_of f) count master).starts
    ∙ master_read count master f
    ∙ sym (master_read count master g)

module _ {S : Type 0} (k : Steps S) (h : Hears k) (count : ℕ) (master : List ℕ) (f g : Form) (σ : S) (room : ℕ) where
  abbrev said : Form → Taken → Did S
  said x t = answered_by k σ (payload_of x count master) t

  event_same : said f (Ok (Transact (asking count master f))) ≡ said g (Ok (Transact (asking count master g)))
  event_same =
      h.event σ (payload_of f count master) (payload_of g count master) (head_of g) (asking count master f) (master_sent count master f g)
      ∙ ap (λ (t : Transaction). said g (Ok (Transact t))) (asked_started (head_of g) (head_of f) count master)

  counts : (x : Form) (b : Bool) → ltb room count ≡ b → ltb room (asking count master x).count ≡ b
  counts x b e = ap (ltb room) (asked_placed (head_of x) count master).counts ∙ e

  fits : (b : Bool) → ltb room count ≡ b →
      said f (fitted_of room (Ok (Transact (asking count master f)))) ≡ said g (fitted_of room (Ok (Transact (asking count master g))))
  fits true e = rw (counts f true e, counts g true e) refl
  fits false e = rw (counts f false e, counts g false e) event_same

  taken : (ready : Bool)
      → said f (fitted_of room (pick ready (Ok (Transact (asking count master f))) (Err refusal.Order)))
      ≡ said g (fitted_of room (pick ready (Ok (Transact (asking count master g))) (Err refusal.Order)))
  taken true = fits (ltb room count) refl
  taken false = refl

  did_same : AllowedIn f count master → AllowedIn g count master →
      record_by k σ room (record_in f count master) ≡ record_by k σ room (record_in g count master)
  did_same a b =
      let asked = asks count master (k.told σ) (h.ready σ) (h.told σ) in
      ap (λ (t : Taken). said f (fitted_of room t)) (asked f a) ∙ taken (h.ready σ) ∙ sym (ap (λ (t : Taken). said g (fitted_of room t)) (asked g b))

-- And so of all records of a run

module _ {S : Type 0} (did : S → ℕ → Rec → Did S)
    (same : (f g : Form) (count : ℕ) (master : List ℕ) → AllowedIn f count master → AllowedIn g count master
    → (σ : S) (room : ℕ) → did σ room (record_in f count master) ≡ did σ room (record_in g count master)) where
  lines_same : (σ : S) (room : ℕ) (rs ss : List Rec) → Reformed rs ss →
      map answered (lines_after did σ room rs) ≡ map answered (lines_after did σ room ss)
  lines_same σ room rs ss none = refl
  lines_same σ room rs ss (kept {r = r} {rs = xs} {ss = ys} h) =
      let d = did σ room r in
      ap (λ (ls : List (ℕ × List ℕ)). (d.answer, d.reply) ∷ ls) (lines_same d.state (room - length d.reply) xs ys h)
  lines_same σ room rs ss (reformed f g {count = count} {master = master} {rs = xs} {ss = ys} a b h) =
      let d = did σ room (record_in f count master) in
      ap (λ (ls : List (ℕ × List ℕ)). (d.answer, d.reply) ∷ ls) (lines_same d.state (room - length d.reply) xs ys h)
      ∙ ap (λ (e : Did S). (e.answer, e.reply) ∷ map answered (lines_after did e.state (room - length e.reply) ys))
      (same f g count master a b σ room)

  ends_same : (σ : S) (room : ℕ) (rs ss : List Rec) → Reformed rs ss → end_after did σ room rs ≡ end_after did σ room ss
  ends_same σ room rs ss none = refl
  ends_same σ room rs ss (kept {r = r} {rs = xs} {ss = ys} h) = let d = did σ room r in ends_same d.state (room - length d.reply) xs ys h
  ends_same σ room rs ss (reformed f g {count = count} {master = master} {rs = xs} {ss = ys} a b h) =
      let d = did σ room (record_in f count master) in
      ends_same d.state (room - length d.reply) xs ys h
      ∙ ap (λ (e : Did S). end_after did e.state (room - length e.reply) ys) (same f g count master a b σ room)

  one_answer : OneAnswer did
  one_answer = record { records = same; lines = lines_same; ends = ends_same }

-- Sessions

session_hears : Hears of_session
unfolding taken_of reply_of act_of ran_of selected_of
session_hears = record {
  ready = λ σ. σ.loaded;
  told = λ σ f p. rw (session_kind f) (sym (transaction_timely (last_tick σ) false σ.loaded p f));
  event = λ σ p q s t e. λ i. event_with σ t (e i);
}
  where
    event_with : Session → Transaction → List ℕ → Did Session
    event_with σ t master = record { state = loaded_with (act_of σ.gauge t master); answer = 0; reply = reply_of σ.gauge t master }

pub sessions_one : OneAnswer did_of
unfolding did_of
sessions_one = one_answer did_of (λ f g count master a b σ room. did_same of_session session_hears count master f g σ room a b)

-- Trays

module _ (t : Transaction) (s : ℕ) (master : List ℕ) (τ : Tray) where
  acted_first_lem : (n : ℕ) → acted_first t master τ n ≡ acted_first (started_at s t) master τ n
  unfolding act_of ran_of selected_of
  acted_first_lem zero = refl
  acted_first_lem (suc n) = ap (λ (σ : Tray). stored_of σ n (act_of (pack_of τ n) t master)) (acted_first_lem n)

  wired_first_lem : (n : ℕ) → wired_first t master τ n ≡ wired_first (started_at s t) master τ n
  unfolding reply_of selected_of
  wired_first_lem zero = refl
  wired_first_lem (suc n) = ap (λ (l : List ℕ). and_bytes l (reply_of (pack_of τ n) t master)) (wired_first_lem n)

  tray_acted_lem : (reach : Reach) → tray_acted t master reach τ ≡ tray_acted (started_at s t) master reach τ
  unfolding act_of ran_of selected_of
  tray_acted_lem (one i) = refl
  tray_acted_lem every = acted_first_lem τ.count
  tray_acted_lem nobody = refl

  tray_replied : (reach : Reach) → tray_reply t master reach τ ≡ tray_reply (started_at s t) master reach τ
  unfolding reply_of selected_of
  tray_replied (one i) = refl
  tray_replied every = wired_first_lem τ.count
  tray_replied nobody = refl

tray_hears : Hears of_tray
tray_hears = record {
  ready = λ τ. ltb 0 τ.count;
  told = λ τ f p.
      rw (transaction_kind f, le-leb 0 (length p) zero-le) (sym (transaction_timely (slot_tick τ p) (again_of τ p) (ltb 0 τ.count) p f));
  event = λ τ p q s t e.
      (λ i. event_with τ t (e i))
      ∙ (λ i. record {
        state = closed_of (tray_acted_lem t s (drop s q) τ (tray_reach τ t (drop s q)) i);
        answer = 0;
        reply = tray_replied t s (drop s q) τ (tray_reach τ t (drop s q)) i;
      });
}
  where
    event_with : Tray → Transaction → List ℕ → Did Tray
    event_with τ t master = record {
      state = closed_of (tray_acted t master (tray_reach τ t master) τ);
      answer = 0;
      reply = tray_reply t master (tray_reach τ t master) τ;
    }

pub trays_one : OneAnswer tray_did
unfolding tray_did
trays_one = one_answer tray_did (λ f g count master a b σ room. did_same of_tray tray_hears count master f g σ room a b)

-- Classes

module _ (asked : ℕ → List ℕ → Taken) (ready : Bool)
    (tells : (f : Form) (p : List ℕ) → asked (form_kind f) p ≡ taken_by false (kind.Transaction f) ready p)
    (selects : Selects) (hears : (t : Transaction) (s : ℕ) (master : List ℕ) → selects t master ≡ selects (started_at s t) master) where
  event_class_lem : (t : Transaction) (s : ℕ) (p q : List ℕ) → master_of t p ≡ drop s q →
      taken_class selects p (Ok (Transact t)) ≡ taken_class selects q (Ok (Transact (started_at s t)))
  unfolding touched_of
  event_class_lem t s p q e = rw (e, hears t s (drop s q)) refl

  taken_class_lem : (b : Bool) (count : ℕ) (master : List ℕ) (f g : Form)
      → taken_class selects (payload_of f count master) (pick b (Ok (Transact (asking count master f))) (Err refusal.Order))
      ≡ taken_class selects (payload_of g count master) (pick b (Ok (Transact (asking count master g))) (Err refusal.Order))
  taken_class_lem true count master f g =
      event_class_lem (asking count master f) (head_of g) (payload_of f count master) (payload_of g count master) (master_sent count master f g)
      ∙ ap (λ (t : Transaction). taken_class selects (payload_of g count master) (Ok (Transact t))) (asked_started (head_of g) (head_of f) count master)
  taken_class_lem false count master f g = refl

  class_same : OneClass (class_by asked selects)
  class_same f g count master a b =
      let e = asks count master asked ready tells in
      ap (taken_class selects (payload_of f count master)) (e f a)
      ∙ taken_class_lem ready count master f g
      ∙ sym (ap (taken_class selects (payload_of g count master)) (e g b))

pub session_classes : (address : List ℕ) → OneClass (class_of address)
unfolding taken_of selected_of
session_classes address =
    class_same session_asked true (λ f p. ap (λ (k : Kind). taken_by false k true p) (session_kind f)) (selected_of address) (λ t s master. refl)

some_started : (addresses : List (List ℕ)) (t : Transaction) (s : ℕ) (master : List ℕ) →
    some_selected addresses t master ≡ some_selected addresses (started_at s t) master
unfolding selected_of
some_started [] t s master = refl
some_started (address ∷ rest) t s master = ap (either (selected_of address t master)) (some_started rest t s master)

pub tray_classes : (addresses : List (List ℕ)) → OneClass (tray_class addresses)
tray_classes addresses =
    class_same (tray_asked (length addresses)) (ltb 0 (length addresses))
    (λ f p. rw (transaction_kind f, le-leb 0 (length p) zero-le) (sym (transaction_timely no_tick false (ltb 0 (length addresses)) p f)))
    (some_selected addresses) (some_started addresses)

-- The whole map

listed_split : (f : ℕ → ℕ) (n i m : ℕ) → listed f i (n + m) ≡ listed f i n ++ listed f (i + n) m
listed_split f zero i m =
    let left : 0 + m ≡ m = omega arith in
    let right : i ≡ i + 0 = omega arith in
    ap (listed f i) left ∙ ap (λ (j : ℕ). listed f j m) right
listed_split f (suc n) i m =
    let left : suc n + m ≡ suc (n + m) = omega arith in
    let right : i + 1 + n ≡ i + suc n = omega arith in
    ap (listed f i) left ∙ ap (λ (l : List ℕ). f i ∷ l) (listed_split f n (i + 1) m)
    ∙ ap (λ (j : ℕ). f i ∷ (listed f (i + 1) n ++ listed f j m)) right

listed_from : (f : ℕ → ℕ) (c n i : ℕ) → listed f (c + i) n ≡ listed (λ j. f (c + j)) i n
listed_from f c zero i = refl
listed_from f c (suc n) i = ap (λ (l : List ℕ). f (c + i) ∷ l) (ap (λ (j : ℕ). listed f j n) (omega arith) ∙ listed_from f c n (i + 1))

module _ (g : Gauge) where
  -- the bytes from an address on
  abbrev piece : ℕ → ℕ → List ℕ
  piece a n = listed (λ i. read_byte g.common g.label g.meter (a + i)) 0 n

  read_did : (f : Form) (a count room : ℕ) → count ≤ limit_of f → 3 ≤ limit_of f → count ≤ room
      → did_of (loaded_with g) room (reading f a count) ≡ record { state = loaded_with g; answer = 0; reply = piece a count }
  unfolding did_of asked_of asked_at rom_by command_of reply_of act_of ran_of selected_of source_byte session_hears
  read_did f a count room few sent roomy =
      rw (
        asks count (0xcc ∷ 0x69 ∷ a ∷ []) (of_session.told (loaded_with g)) true (session_hears.told (loaded_with g)) f
            (record { reads = few; sends = sent }),
        le-ltb room count roomy,
      )
      refl

  quarter : (a room : ℕ) (rs : List Rec) → 64 ≤ room
      → replies_of (lines_after did_of (loaded_with g) room (reading Short a 64 ∷ rs))
      ≡ piece a 64 ++ replies_of (lines_after did_of (loaded_with g) (room - 64) rs)
  quarter a room rs roomy =
      rw (read_did Short a 64 room (omega arith) (omega arith) roomy, listed_length (λ i. read_byte g.common g.label g.meter (a + i)) 0 64) refl

  next : (a n : ℕ) → piece a (64 + n) ≡ piece a 64 ++ piece (a + 64) n
  next a n =
      let byte : ℕ → ℕ = read_byte g.common g.label g.meter in
      listed_split (λ i. byte (a + i)) 64 0 n
      ∙ ap (λ (l : List ℕ). piece a 64 ++ l)
      (listed_from (λ i. byte (a + i)) 64 n 0 ∙ ap (λ (h : ℕ → ℕ). listed h 0 n) (λ x i. byte (over i x)))
    where
      over : (i : ℕ) → a + (64 + i) ≡ a + 64 + i
      over i = omega arith

  map_read : (room : ℕ) → 256 ≤ room
      → did_of (loaded_with g) room (reading Long 0x00 256) ≡ record { state = loaded_with g; answer = 0; reply = whole_map g }
  map_read room all = read_did Long 0x00 256 room (omega arith) (omega arith) all

  map_quarters : (room : ℕ) → 256 ≤ room → replies_of (lines_after did_of (loaded_with g) room quarters) ≡ whole_map g
  map_quarters room all =
      let four : replies_of (lines_after did_of (loaded_with g) room quarters) ≡ piece 0x00 64 ++ (piece 0x40 64 ++ (piece 0x80 64 ++ (piece 0xc0 64 ++ []))) =
      rw (
        quarter 0x00 room _ (omega arith),
        quarter 0x40 (room - 64) _ (omega arith),
        quarter 0x80 (room - 64 - 64) _ (omega arith),
        quarter 0xc0 (room - 64 - 64 - 64) _ (omega arith),
      )
      refl in
      four ∙ sym (rw (next 0x00 192, next 0x40 128, next 0x80 64, next 0xc0 0) refl)

as_before : AsBefore
as_before = record { sizes = λ n. refl; asks = λ p. refl }

pub longer : Longer
longer = record {
  sessions = sessions_one;
  trays = trays_one;
  classes = session_classes;
  tray_classes = tray_classes;
  kept = as_before;
  map_read = map_read;
  map_quarters = map_quarters;
}

-- ITS HYPOTHESES CAN BE MET
pub longer_met : LongerMet
unfolding did_of taken_of kind_of asked_of asked_at rom_by command_of
longer_met = record {
  count = 64;
  master = 0xcc ∷ 0x69 ∷ replicate 62 0x00;
  full = (refl, refl);
  short = record { reads = omega arith; sends = omega arith };
  long = record { reads = omega arith; sends = omega arith };
  differ = λ e. let z : ◌≡◌ {A = ℕ} 4 7 = ap kind_in e in omega arith;
  done = λ g. refl;
}
