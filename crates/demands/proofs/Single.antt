-- A tray of one pack answers a session as a plain gauge does, proved: record by record, with the same gauge in slot 0.
use mathlib.Core.Path.{◌≡◌, refl, sym, ap, subst, ◌∙◌}
use mathlib.Core.Bool.{Bool, true, false, not}
use mathlib.Core.List.{List, [], ◌∷◌, ◌++◌, map}
use Prim.Native.Nat.{ℕ, zero, suc, ◌-◌, ◌≤◌, ◌<◌, zero-le}
use native.Mathlib.Omega.{arith}
use borrow.Author.Tests.{le-leb, lt-leb, le-ltb, ne_eqb}
use lib.Dec.{ltb, leb, eqb}
use lib.ListN.{length, get_or}
use Rattle.std.specs.Prelude.{Ok, Err}
use Rattle.numbers.specs.Choice.{pick}
use Rattle.numbers.proofs.Bounds.{picked, both_true}
use Rattle.slices.specs.Slices.{pair_at}
use Rattle.state.specs.declared.Profile.{Profile}
use Rattle.state.specs.declared.Tick.{Tick}
use Rattle.state.specs.State.{image_size_of}
use Rattle.bus.specs.declared.Transaction.{Transaction}
use Rattle.gauge.specs.declared.Gauge.{Gauge}
use Rattle.gauge.specs.Change.{changed_of}
use Rattle.gauge.specs.Act.{act_of, reply_of}
use Rattle.record.specs.declared.Form.{Form}
use Rattle.record.specs.declared.Kind.{Kind}
use Rattle.record.specs.declared.Kind.TheVariants as kind
use Rattle.record.specs.declared.Refusal.{Refusal}
use Rattle.record.specs.declared.Refusal.TheVariants as refusal
use Rattle.record.specs.declared.Change.{Change as Changes}
use Rattle.record.specs.declared.Change.TheVariants as change
use Rattle.record.specs.declared.Event.TheVariants.{Image, Change, Transact}
use Rattle.record.specs.Image.{image_address, image_breaks}
use Rattle.record.specs.Record.{refusal_number, addressed_of, lockable_of, ordered_of, judged_among, kind_of, count_at, taken_by}
use Rattle.record.specs.Record.{taken_of, limit_of, read_count, sized_of, transaction_of, event_timely, timed_of, fitted_of, master_of, Taken}
use Rattle.record.proofs.Fits.{Taking, timed_by, passes, transaction_timely, refusal_range}
use Rattle.runs.specs.declared.Session.{Session}
use Rattle.runs.specs.Record.{Rec, whole, cut, kind_in, recs_of}
use Rattle.runs.specs.Run.{Did, Line, line_of, lines_after, end_after, replies_of}
use Rattle.runs.specs.AnyRecord.{answered_by}
use Rattle.runs.specs.SessionRecord.{last_tick, event_did, of_session, did_of}
use Rattle.session_run.specs.SessionRun.{empty_of}
use Rattle.tray_record.specs.declared.Tray.{Tray}
use Rattle.std.specs.Prelude.{is_some}
use Rattle.tray_record.specs.Tray.{empty_tray, pack_of, search_of, tray_kind_of, ahead_of}
use Rattle.tray_record.specs.Tray.{tray_asked_by, again_of, slot_tick, tray_told, tray_reach, tray_event, of_tray, tray_did}
use Rattle.intel_hex.specs.Theorems.{Bytes}
use Rattle.demands.specs.Call.{Call, lines_in}
use Rattle.demands.specs.Single.{tray_kind, has_slot, in_tray, line_in_tray, none_again, one_image, Translated, AnswersAlike, SingleAsPlain}
use Rattle.demands.proofs.Choice.{contrary, by_number}
use Rattle.demands.proofs.Moments.{running, tells}
use Rattle.demands.proofs.Fitted.{fitted_has}
use Rattle.demands.proofs.Packs.{Eight}
use Rattle.demands.proofs.Asked.{Asks, tray_asks}
use Rattle.demands.proofs.Filled.{event_pack, event_count, event_eight, empty_filled}
use Rattle.demands.proofs.Distinct.{Distinct, whom}
use Rattle.demands.proofs.EachPack.{each_acts, single_reply}
use Rattle.demands.proofs.SmallRuns.{replies_bytes}

-- The kinds

-- a kind of a session is the same kind in a tray, with a slot byte where it has one there
record SameKind (n : ℕ) : Type 0 where
  known : tray_kind_of (tray_kind n) ≡ kind_of n
  slot : has_slot n ≡ eqb (ahead_of (kind_of n)) 1

same_kind : (n : ℕ) → SameKind n
unfolding tray_kind_of kind_of
same_kind n =
    let it : (m : ℕ) → SameKind m → (eqb n m ≡ false → SameKind n) → SameKind n = by_number SameKind n in
    it 1 (record { known = refl; slot = refl }) (λ a.
    it 2 (record { known = refl; slot = refl }) (λ b.
    it 3 (record { known = refl; slot = refl }) (λ c.
    it 4 (record { known = refl; slot = refl }) (λ d.
    it 5 (record { known = refl; slot = refl }) (λ e.
    it 6 (record { known = refl; slot = refl }) (λ f.
    it 7 (record { known = refl; slot = refl }) (λ g.
    it 8 (record { known = refl; slot = refl }) (λ h.
    it 18 (record { known = refl; slot = refl }) (λ i.
    it 19 (record { known = refl; slot = refl }) (λ j.
    it 21 (record { known = refl; slot = refl }) (λ k.
    it 22 (record { known = refl; slot = refl }) (λ l.
    record { known = rw (b, c, e, f, i, j, k, l) (rw (a, d, g, h, i, j, k, l) refl); slot = rw (a, b, c, d, e, f, g, h) refl }))))))))))))

-- the payload that a kind has in a tray
abbrev slot_payload : Kind → List ℕ → List ℕ
slot_payload k p = pick (eqb (ahead_of k) 1) (0 ∷ p) p

-- What a record asks

-- what no state decides is not refused for its tick
stateless_timely : (last : Tick) (t : Taken) → t ≡ fitted_of 0 (timed_of last t) → timed_of last t ≡ t
stateless_timely last (Ok e) =
    picked (λ u. Ok e ≡ fitted_of 0 u → u ≡ Ok e) (event_timely last e) (Ok e) (Err refusal.Interval) (λ timely z. refl) (λ other z. contrary cc)
stateless_timely last (Err r) = λ z. refl

-- a session and a tray of one pack: the gauge is in slot 0
pub record Alike (σ : Session) (τ : Tray) : Type 0 where
  pub eight : Eight τ
  pub count : τ.count ≡ pick σ.loaded 1 0
  pub opening : σ.loaded ≡ false → τ.closed ≡ false
  pub pack : pack_of τ 0 ≡ σ.gauge

module _ (σ : Session) (τ : Tray) (h : Alike σ τ) (p : List ℕ) where
  some : ltb 0 τ.count ≡ σ.loaded
  some = ap (ltb 0) h.count ∙ go σ.loaded
    where
      go : (b : Bool) → ltb 0 (pick b 1 0) ≡ b
      go true = refl
      go false = refl

  tick : slot_tick τ (0 ∷ p) ≡ last_tick σ
  tick = ap (λ (g : Gauge). g.meter.flow.tick) h.pack

  abbrev plain : Kind → Taken
  plain k = timed_of (last_tick σ) (taken_by false k σ.loaded p)

  abbrev asks : Kind → Taken
  asks k = tray_asked_by τ.count τ.closed (again_of τ (slot_payload k p)) (slot_tick τ (slot_payload k p)) k (slot_payload k p)

  -- an image, which a tray that is open takes further on
  abbrev Later : Kind → Type 0
  Later k = σ.loaded ≡ true → τ.closed ≡ false → plain k ≡ Err refusal.Order → ⊥

  image_timely : (f : Profile) (last : Tick) (again loaded : Bool) →
      timed_of last (taken_by again (kind.Image f) loaded p) ≡ taken_by again (kind.Image f) loaded p
  image_timely f last again loaded = stateless_timely last _ (passes last again loaded p 0 (kind.Image f) tt)

  -- before the first image no pack has its address
  none_yet : σ.loaded ≡ false → τ.count ≡ 0
  none_yet e = h.count ∙ rw e refl

  new : σ.loaded ≡ false → again_of τ p ≡ false
  unfolding search_of
  new e = ap (λ (n : ℕ). is_some (search_of τ.commons n (image_address p))) (none_yet e)

  image_alike : (f : Profile) (loaded closed sized : Bool) → σ.loaded ≡ loaded → τ.closed ≡ closed → eqb (length p) (image_size_of f) ≡ sized
      → Later (kind.Image f) → asks (kind.Image f) ≡ plain (kind.Image f)
  image_alike f false closed sized e c s later =
      rw (le-leb 0 (length p) zero-le, new e, h.opening e, none_yet e, e)
      (image_timely f (slot_tick τ p) false false ∙ sym (image_timely f (last_tick σ) false false))
  image_alike f true true sized e c s later =
      rw (le-leb 0 (length p) zero-le, c, e)
      (image_timely f (slot_tick τ p) (again_of τ p) true ∙ sym (image_timely f (last_tick σ) false true))
  image_alike f true false true e c s later = absurd (later e c (rw (e, s) refl))
  image_alike f true false false e c s later = rw (le-leb 0 (length p) zero-le, s) refl

  asks_alike : (k : Kind) → Later k → asks k ≡ plain k
  asks_alike (kind.Image f) later = image_alike f σ.loaded τ.closed (eqb (length p) (image_size_of f)) refl refl refl later
  asks_alike kind.Reading later = rw (le-leb 1 (length (0 ∷ p)) (omega arith), some, tick) refl
  asks_alike kind.Conversion later = rw (le-leb 1 (length (0 ∷ p)) (omega arith), some, tick) refl
  asks_alike (kind.Transaction f) later =
      rw (le-leb 0 (length p) zero-le, some)
      (sym (transaction_timely (slot_tick τ p) (again_of τ p) σ.loaded p f) ∙ transaction_timely (last_tick σ) false σ.loaded p f)
  asks_alike kind.PowerOn later = rw (le-leb 1 (length (0 ∷ p)) (omega arith), some, tick) refl
  asks_alike kind.Sample later = rw (le-leb 1 (length (0 ∷ p)) (omega arith), some, tick) refl
  asks_alike kind.Unknown later = rw (le-leb 0 (length p) zero-le) refl

-- What a record does

-- a tray of one pack, and a session, after a record that both were given
record Does (d : Did Tray) (e : Did Session) : Type 0 where
  answer : d.answer ≡ e.answer
  reply : ((k : ℕ) → get_or e.reply k 0 < 256) → d.reply ≡ e.reply
  alike : Alike e.state d.state

-- what is to come, by whether the image was accepted and by whether the opening is closed
abbrev ready_by : Bool → Bool → List Line → Bool
ready_by false closed ls = one_image ls
ready_by true false ls = none_again ls
ready_by true true ls = true

abbrev Ready : Session → Tray → List Line → Type 0
Ready σ τ ls = ready_by σ.loaded τ.closed ls ≡ true

-- an answer that refuses: what was ready stays so
refused_ready : (loaded closed : Bool) (l : Line) (ls : List Line) → eqb l.answer 0 ≡ false → ready_by loaded closed (l ∷ ls) ≡ true
    → ready_by loaded closed ls ≡ true
refused_ready false closed l ls other e = rw other at e
refused_ready true false l ls other e = (both_true (not (eqb l.answer 5)) (none_again ls) (rw other at e)).1
refused_ready true true l ls other e = refl

-- and the other way, where no image is refused with 5 that an open tray would take
refused_before : (loaded closed : Bool) (l : Line) (ls : List Line) → eqb l.answer 0 ≡ false
    → (loaded ≡ true → closed ≡ false → eqb l.answer 5 ≡ false) → ready_by loaded closed ls ≡ true → ready_by loaded closed (l ∷ ls) ≡ true
refused_before false closed l ls other five e = rw other e
refused_before true false l ls other five e = rw (other, five refl refl) e
refused_before true true l ls other five e = refl

done_before : (closed : Bool) (l : Line) (ls : List Line) → l.answer ≡ 0 → ready_by true closed (l ∷ ls) ≡ true
done_before true l ls done = refl
done_before false l ls done = rw done refl

not_five : (r : Refusal) → (r ≡ refusal.Order → ⊥) → eqb (refusal_number r) 5 ≡ false
not_five refusal.Kind other = refl
not_five refusal.Size other = refl
not_five refusal.Order other = absurd (other refl)
not_five refusal.Address other = refl
not_five refusal.Locks other = refl
not_five refusal.Count other = refl
not_five refusal.Room other = refl
not_five refusal.Breaks other = refl
not_five refusal.Interval other = refl
not_five refusal.Repeated other = refl

refusal_other : (r : Refusal) → eqb (refusal_number r) 0 ≡ false
refusal_other r = ne_eqb (refusal_number r) 0 (λ e. absurd (omega (arith, (refusal_range r).0)))

-- where the tray has at most one pack no two have one address
single_distinct : (τ : Tray) → Eight τ → τ.count ≤ 1 → Distinct τ
single_distinct τ h few = record { eight = h; own = λ i j low high e. omega arith }

module _ (σ : Session) (τ : Tray) (h : Alike σ τ) where
  few : τ.count ≤ 1
  few = rw h.count (go σ.loaded)
    where
      go : (b : Bool) → pick b 1 0 ≤ 1
      go true = omega arith
      go false = omega arith

  full : σ.loaded ≡ true → τ.count ≡ 1
  full e = h.count ∙ rw e refl

  distinct : Distinct τ
  distinct = single_distinct τ h.eight few

  module _ (k : Kind) (p : List ℕ) where
    abbrev q : List ℕ
    q = slot_payload k p

    -- an event
    image_does : (f : Profile) → σ.loaded ≡ false → Asks τ k q (Ok (Image f)) → Does (tray_event τ q (Image f)) (event_did σ p (Image f))
    image_does f e a =
        let same : q ≡ p = ap (λ (x : Kind). slot_payload x p) a.kind in
        let none = none_yet σ τ h p e in
        record {
          answer = refl;
          reply = λ bytes. refl;
          alike = record {
            eight = event_eight τ h.eight k q (Image f) a;
            count = omega (arith, none);
            opening = λ z. contrary cc;
            pack = event_pack τ h.eight k q (Image f) a 0 ∙ rw (none, same) refl;
          };
        }

    change_does : (c : Changes) → σ.loaded ≡ true → Asks τ k q (Ok (Change c)) → Does (tray_event τ q (Change c)) (event_did σ p (Change c))
    change_does c e a =
        let same : q ≡ 0 ∷ p = ap (λ (n : ℕ). pick (eqb n 1) (0 ∷ p) p) a.ahead in
        record {
          answer = refl;
          reply = λ bytes. refl;
          alike = record {
            eight = event_eight τ h.eight k q (Change c) a;
            count = full e;
            opening = λ z. contrary cc;
            pack = event_pack τ h.eight k q (Change c) a 0 ∙ rw same (ap (λ (g : Gauge). changed_of g c) h.pack);
          };
        }

    transact_does : (t : Transaction) → σ.loaded ≡ true → Asks τ k q (Ok (Transact t)) → Does (tray_event τ q (Transact t)) (event_did σ p (Transact t))
    transact_does t e a =
        let same : q ≡ p = ap (λ (x : Kind). slot_payload x p) a.kind in
        let master = master_of t p in
        let one = full e in
        let heard = each_acts t master τ h.eight (tray_reach τ t master) (whom t master τ distinct) 0 (omega (arith, one)) in
        subst (λ (x : List ℕ). Does (tray_event τ x (Transact t)) (event_did σ p (Transact t))) (sym same)
        (record {
          answer = refl;
          reply = λ bytes.
              single_reply t master τ distinct one (λ n. rw h.pack (bytes n)) ∙ ap (λ (g : Gauge). reply_of g t master) h.pack;
          alike = record {
            eight = event_eight τ h.eight k p (Transact t) (subst (λ (x : List ℕ). Asks τ k x (Ok (Transact t))) same a);
            count = event_count τ h.eight k p (Transact t) ∙ one;
            opening = λ z. contrary cc;
            pack = heard ∙ ap (λ (g : Gauge). act_of g t master) h.pack;
          };
        })

    taken_does : (t : Taken) → Taking false σ.loaded p t → Asks τ k q t → Does (answered_by of_tray τ q t) (answered_by of_session σ p t)
    taken_does (Ok (Image f)) now a = image_does f now.0 a
    taken_does (Ok (Change c)) now a = change_does c now a
    taken_does (Ok (Transact t)) now a = transact_does t now.0 a
    taken_does (Err r) now a = record { answer = refl; reply = λ bytes. refl; alike = h }

    taken_ready : (n : ℕ) (t : Taken) (ls : List Line) → Taking false σ.loaded p t
        → Ready σ τ (line_of (whole n p) (answered_by of_session σ p t) ∷ ls)
        → Ready (answered_by of_session σ p t).state (answered_by of_tray τ q t).state ls
    taken_ready n (Ok (Image f)) ls now ready = rw (h.opening now.0) (rw now.0 at ready)
    taken_ready n (Ok (Change c)) ls now ready = refl
    taken_ready n (Ok (Transact t)) ls now ready = refl
    taken_ready n (Err r) ls now ready = refused_ready σ.loaded τ.closed _ ls (refusal_other r) ready

    -- no 5 where an open tray has its pack
    abbrev Unless : Taken → Type 0
    Unless t = σ.loaded ≡ true → τ.closed ≡ false → t ≡ Err refusal.Order → ⊥

    taken_before : (n : ℕ) (t : Taken) (ls : List Line) → Taking false σ.loaded p t → Unless t
        → Ready (answered_by of_session σ p t).state (answered_by of_tray τ q t).state ls
        → Ready σ τ (line_of (whole n p) (answered_by of_session σ p t) ∷ ls)
    taken_before n (Ok (Image f)) ls now other ready = rw now.0 (rw (h.opening now.0) at ready)
    taken_before n (Ok (Change c)) ls now other ready = rw now (done_before τ.closed _ ls refl)
    taken_before n (Ok (Transact t)) ls now other ready = rw now.0 (done_before τ.closed _ ls refl)
    taken_before n (Err r) ls now other ready =
        refused_before σ.loaded τ.closed _ ls (refusal_other r)
        (λ loaded closed. not_five r (λ e. other loaded closed (ap (λ (x : Refusal). Err x) e))) ready

  -- A record of a kind and a payload

  module _ (n : ℕ) (p : List ℕ) where
    abbrev told : Taken
    told = plain σ τ h p (kind_of n)

    told_alike : Later σ τ h p (kind_of n) → tray_told τ (tray_kind n) (q (kind_of n) p) ≡ told
    told_alike later = rw (same_kind n).known (asks_alike σ τ h p (kind_of n) later)

    told_asks : Later σ τ h p (kind_of n) → Asks τ (kind_of n) (q (kind_of n) p) told
    told_asks later =
        subst (Asks τ (kind_of n) (q (kind_of n) p)) (told_alike later)
        (subst (λ (k : Kind). Asks τ k (q (kind_of n) p) (tray_told τ (tray_kind n) (q (kind_of n) p))) (same_kind n).known
        (tray_asks τ (tray_kind n) (q (kind_of n) p)))

    told_now : Taking false σ.loaded p told
    told_now = timed_by false σ.loaded p (last_tick σ) (kind_of n)

    -- what both do, by what is asked
    record Goes (t : Taken) : Type 0 where
      does : Does (answered_by of_tray τ (q (kind_of n) p) t) (answered_by of_session σ p t)
      after : (ls : List Line) → Ready σ τ (line_of (whole n p) (answered_by of_session σ p t) ∷ ls)
          → Ready (answered_by of_session σ p t).state (answered_by of_tray τ (q (kind_of n) p) t).state ls
      before : (ls : List Line) → Ready (answered_by of_session σ p t).state (answered_by of_tray τ (q (kind_of n) p) t).state ls
          → Ready σ τ (line_of (whole n p) (answered_by of_session σ p t) ∷ ls)

    goes : (room : ℕ) → Later σ τ h p (kind_of n) → Goes (fitted_of room told)
    goes room later = fitted_has Goes (go (Err refusal.Room) tt tt (λ a b e. contrary cc)) room told (go told told_now (told_asks later) later)
      where
        go : (t : Taken) → Taking false σ.loaded p t → Asks τ (kind_of n) (q (kind_of n) p) t → Unless (kind_of n) p t → Goes t
        go t now asks other = record {
          does = taken_does (kind_of n) p t now asks;
          after = λ ls. taken_ready (kind_of n) p n t ls now;
          before = λ ls. taken_before (kind_of n) p n t ls now other;
        }

-- One record

abbrev LaterIn : (σ : Session) (τ : Tray) → Alike σ τ → Rec → Type 0
LaterIn σ τ h (whole n p) = Later σ τ h p (kind_of n)
LaterIn σ τ h cut = Unit

record Both (σ : Session) (τ : Tray) (room : ℕ) (r : Rec) : Type 0 where
  does : Does (tray_did τ room (in_tray r)) (did_of σ room r)
  after : (ls : List Line) → Ready σ τ (line_of r (did_of σ room r) ∷ ls) → Ready (did_of σ room r).state (tray_did τ room (in_tray r)).state ls
  before : (ls : List Line) → Ready (did_of σ room r).state (tray_did τ room (in_tray r)).state ls → Ready σ τ (line_of r (did_of σ room r) ∷ ls)
  kind : kind_in (in_tray r) ≡ tray_kind (kind_in r)

both_do : (σ : Session) (τ : Tray) (room : ℕ) (r : Rec) (h : Alike σ τ) → LaterIn σ τ h r → Both σ τ room r
unfolding did_of tray_did taken_of
both_do σ τ room (whole n p) h later =
    let g = goes σ τ h n p room later in
    let same = (same_kind n).slot in
    let asks = told_alike σ τ h n p later in
    record { does = rw (same, asks) g.does; after = rw (same, asks) g.after; before = rw (same, asks) g.before; kind = refl }
both_do σ τ room cut h later = record {
  does = record { answer = refl; reply = λ bytes. refl; alike = h };
  after = λ ls. refused_ready σ.loaded τ.closed _ ls refl;
  before = λ ls. refused_before σ.loaded τ.closed _ ls refl (λ loaded closed. refl);
  kind = refl;
}

-- the condition on the lines says so
ready_later : (σ : Session) (τ : Tray) (room : ℕ) (r : Rec) (ls : List Line) (h : Alike σ τ) → Ready σ τ (line_of r (did_of σ room r) ∷ ls) → LaterIn σ τ h r
unfolding did_of taken_of
ready_later σ τ room (whole n p) ls h ready = λ loaded closed order. let z = rw (order, loaded, closed) at ready in contrary cc
ready_later σ τ room cut ls h ready = tt

-- The bytes of replies, one after the other

bytes_front : (xs ys : List ℕ) → ((k : ℕ) → get_or (xs ++ ys) k 0 < 256) → (k : ℕ) → get_or xs k 0 < 256
bytes_front [] ys h k = omega arith
bytes_front (x ∷ xs) ys h zero = h 0
bytes_front (x ∷ xs) ys h (suc k) = bytes_front xs ys (λ n. h (suc n)) k

bytes_back : (xs ys : List ℕ) → ((k : ℕ) → get_or (xs ++ ys) k 0 < 256) → (k : ℕ) → get_or ys k 0 < 256
bytes_back [] ys h k = h k
bytes_back (x ∷ xs) ys h k = bytes_back xs ys (λ n. h (suc n)) k

-- A run

record Runs (σ : Session) (τ : Tray) (room : ℕ) (rs : List Rec) : Type 0 where
  lines : lines_after tray_did τ room (map in_tray rs) ≡ map line_in_tray (lines_after did_of σ room rs)
  end : Alike (end_after did_of σ room rs) (end_after tray_did τ room (map in_tray rs))

runs_more : (σ : Session) (τ : Tray) (room : ℕ) (r : Rec) (rs : List Rec) → Both σ τ room r
    → (tray_did τ room (in_tray r)).reply ≡ (did_of σ room r).reply
    → Runs (did_of σ room r).state (tray_did τ room (in_tray r)).state (room - length (did_of σ room r).reply) rs → Runs σ τ room (r ∷ rs)
runs_more σ τ room r rs b reply h = record {
  lines = rw (b.kind, b.does.answer, reply) (ap (λ (ls : List Line). line_in_tray (line_of r (did_of σ room r)) ∷ ls) h.lines);
  end =
      subst (λ (x : List ℕ). Alike (end_after did_of σ room (r ∷ rs)) (end_after tray_did (tray_did τ room (in_tray r)).state (room - length x)
      (map in_tray rs)))
      (sym reply) h.end;
}

runs_alike : (σ : Session) (τ : Tray) (room : ℕ) (rs : List Rec) → Alike σ τ → Ready σ τ (lines_after did_of σ room rs)
    → ((k : ℕ) → get_or (replies_of (lines_after did_of σ room rs)) k 0 < 256) → Runs σ τ room rs
runs_alike σ τ room [] h ready bytes = record { lines = refl; end = h }
runs_alike σ τ room (r ∷ rs) h ready bytes =
    let e = did_of σ room r in
    let ls = lines_after did_of e.state (room - length e.reply) rs in
    let b = both_do σ τ room r h (ready_later σ τ room r ls h ready) in
    let reply = b.does.reply (bytes_front e.reply (replies_of ls) bytes) in
    runs_more σ τ room r rs b reply
    (runs_alike e.state (tray_did τ room (in_tray r)).state (room - length e.reply) rs b.does.alike (b.after ls ready)
    (bytes_back e.reply (replies_of ls) bytes))

-- before the first record
empty_alike : Alike empty_of empty_tray
empty_alike = record { eight = empty_filled.eight; count = refl; opening = λ e. refl; pack = refl }

single_alike : (c : Call Session) (d : Call Tray) → Translated c d → Bytes c.bytes → one_image (lines_in did_of empty_of c) ≡ true → AnswersAlike c d
single_alike c d t bytes once =
    let h = runs_alike empty_of empty_tray (length c.room) (recs_of c.bytes) empty_alike once (replies_bytes c.bytes (length c.room) bytes) in
    let left = (running did_of empty_of t.plain).state in
    let right : d.ran.state ≡ end_after tray_did empty_tray (length c.room) (map in_tray (recs_of c.bytes)) =
    (running tray_did empty_tray t.tray).state ∙ rw (t.records, t.room) refl in
    record {
      lines = rw (t.records, t.room) h.lines;
      count = rw (left, right) h.end.count;
      pack = rw (left, right) h.end.pack;
      one = tells did_of empty_of t.plain;
      other = tells tray_did empty_tray t.tray;
    }

-- And nowhere else: an image that is refused with 5 where the tray is open is answered otherwise there

-- where an image was accepted only an image is refused with 5, and it has its size
abbrev Imaged : Kind → List ℕ → Type 0
Imaged k p = (f : Profile) × ((k ≡ kind.Image f) × (eqb (length p) (image_size_of f) ≡ true))

module _ (last : Tick) (p : List ℕ) where
  abbrev Unordered : Taken → Type 0
  Unordered t = timed_of last t ≡ Err refusal.Order → ⊥

  sized_unordered : (b : Bool) (t : Taken) → Unordered t → Unordered (pick b t (Err refusal.Size))
  sized_unordered true t h = h
  sized_unordered false t h = λ z. contrary cc

  sized_change : (b : Bool) (c : Changes) → Unordered (pick b (Ok (Change c)) (Err refusal.Size))
  sized_change b c =
      sized_unordered b (Ok (Change c))
      (picked (λ t. t ≡ Err refusal.Order → ⊥) (event_timely last (Change c)) (Ok (Change c)) (Err refusal.Interval)
      (λ timely z. contrary cc) (λ other z. contrary cc))

  transaction_unordered : (f : Form) → Unordered (transaction_of f p)
  transaction_unordered f = picked Unordered (leb (read_count f p) (limit_of f)) _ _ (λ few z. contrary cc) (λ many z. contrary cc)

  order_image : (k : Kind) → timed_of last (taken_by false k true p) ≡ Err refusal.Order → Imaged k p
  order_image (kind.Image f) e = go (eqb (length p) (image_size_of f)) refl e
    where
      go : (b : Bool) → eqb (length p) (image_size_of f) ≡ b
          → timed_of last (pick b (Err refusal.Order) (Err refusal.Size)) ≡ Err refusal.Order → Imaged (kind.Image f) p
      go true s z = (f, (refl, s))
      go false s z = contrary cc
  order_image kind.Reading e = absurd (sized_change (eqb (length p) 8) (change.Reading (count_at p 0) (count_at p 4)) e)
  order_image kind.Conversion e = absurd (sized_change (eqb (length p) 4) (change.Conversion (count_at p 0)) e)
  order_image (kind.Transaction f) e = absurd (sized_unordered (sized_of (kind.Transaction f) (length p)) _ (transaction_unordered f) e)
  order_image kind.PowerOn e = absurd (sized_change (eqb (length p) 0) change.PowerOn e)
  order_image kind.Sample e = absurd (sized_change (eqb (length p) 6) (change.Sample (count_at p 0) (pair_at p 4)) e)
  order_image kind.Unknown e = contrary cc

-- an open tray answers an image of its size, and never with 5
module _ (τ : Tray) (p : List ℕ) (room : ℕ) where
  judged_other : (f : Profile) (again : Bool) (last : Tick) →
      (answered_by of_tray τ p (fitted_of room (timed_of last (judged_among f again p)))).answer ≡ 5 → ⊥
  unfolding judged_among
  judged_other f again last =
      let Not : Taken → Type 0 = λ t. (answered_by of_tray τ p (fitted_of room (timed_of last t))).answer ≡ 5 → ⊥ in
      picked Not (eqb (length p) (image_size_of f)) _ _
      (λ a. picked Not (addressed_of f (image_address p)) _ _
      (λ b. picked Not (lockable_of p) _ _
      (λ c. picked Not (not again) _ _
      (λ d. picked Not (ordered_of (image_breaks p)) _ _ (λ o e. absurd (omega (arith, joins f e))) (λ o e. absurd (omega arith)))
      (λ d e. absurd (omega arith)))
      (λ c e. absurd (omega arith)))
      (λ b e. absurd (omega arith)))
      (λ a e. absurd (omega arith))
    where
      joins : (g : Profile) → (answered_by of_tray τ p (fitted_of room (Ok (Image g)))).answer ≡ 5 → ◌≡◌ {A = ℕ} 0 5
      joins g e = rw (le-ltb room 0 zero-le) at e

module _ (σ : Session) (τ : Tray) (h : Alike σ τ) (n : ℕ) (p : List ℕ) (f : Profile) (is : kind_of n ≡ kind.Image f) (closed : τ.closed ≡ false)
    (sized : eqb (length p) (image_size_of f) ≡ true) where
  open_told : tray_told τ (tray_kind n) p ≡ timed_of (slot_tick τ p) (judged_among f (again_of τ p) p)
  open_told =
      rw ((same_kind n).known, is, le-leb 0 (length p) zero-le, closed, lt-leb 8 τ.count (omega (arith, few σ τ h)), sized) refl

  open_answer : (room : ℕ) → (tray_did τ room (in_tray (whole n p))).answer ≡ 5 → ⊥
  unfolding tray_did
  open_answer room e =
      let bare : has_slot n ≡ false = (same_kind n).slot ∙ rw is refl in
      judged_other τ p room f (again_of τ p) (slot_tick τ p) (rw (bare, open_told) at e)

-- answers that are the same say so too
lines_later : (σ : Session) (τ : Tray) (room : ℕ) (r : Rec) (h : Alike σ τ) → (tray_did τ room (in_tray r)).answer ≡ (did_of σ room r).answer
    → LaterIn σ τ h r
unfolding did_of taken_of
lines_later σ τ room (whole n p) h same = λ loaded closed order.
    let now = subst (λ (b : Bool). timed_of (last_tick σ) (taken_by false (kind_of n) b p) ≡ Err refusal.Order) loaded order in
    let i = order_image (last_tick σ) p (kind_of n) now in
    open_answer σ τ h n p i.0 i.1.0 closed i.1.1 room (same ∙ rw order refl)
lines_later σ τ room cut h same = tt

nothing_ready : (loaded closed : Bool) → ready_by loaded closed [] ≡ true
nothing_ready false closed = refl
nothing_ready true false = refl
nothing_ready true true = refl

runs_only : (σ : Session) (τ : Tray) (room : ℕ) (rs : List Rec) → Alike σ τ
    → lines_after tray_did τ room (map in_tray rs) ≡ map line_in_tray (lines_after did_of σ room rs) → Ready σ τ (lines_after did_of σ room rs)
runs_only σ τ room [] h same = nothing_ready σ.loaded τ.closed
runs_only σ τ room (r ∷ rs) h same =
    let d = tray_did τ room (in_tray r) in
    let e = did_of σ room r in
    let ls = lines_after did_of e.state (room - length e.reply) rs in
    let head : line_of (in_tray r) d ≡ line_in_tray (line_of r e) = cc in
    let tail : lines_after tray_did d.state (room - length d.reply) (map in_tray rs) ≡ map line_in_tray ls = cc in
    let b = both_do σ τ room r h (lines_later σ τ room r h (ap (λ (l : Line). l.answer) head)) in
    b.before ls (runs_only e.state d.state (room - length e.reply) rs b.does.alike
    (subst (λ (x : List ℕ). lines_after tray_did d.state (room - length x) (map in_tray rs) ≡ map line_in_tray ls) (ap (λ (l : Line). l.reply) head) tail))

single_only : (c : Call Session) (d : Call Tray) → Translated c d → lines_in tray_did empty_tray d ≡ map line_in_tray (lines_in did_of empty_of c)
    → one_image (lines_in did_of empty_of c) ≡ true
single_only c d t same = runs_only empty_of empty_tray (length c.room) (recs_of c.bytes) empty_alike (rw (t.records, t.room) at same)

pub single_as_plain : SingleAsPlain
single_as_plain = record { alike = single_alike; only = single_only }
