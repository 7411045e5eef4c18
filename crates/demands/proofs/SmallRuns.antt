-- And so it is at the end of every run whose bytes are below 256, of each pack that it holds; and of every reply of a session.
use mathlib.Core.Path.{◌≡◌, refl, sym, subst}
use mathlib.Core.List.{List, [], ◌∷◌}
use Prim.Native.Nat.{ℕ, zero, suc, ◌-◌}
use lib.ListN.{length, get_or, drop, replicate}
use Rattle.std.specs.Prelude.{Ok, Err}
use Rattle.numbers.proofs.Bounds.{picked}
use Rattle.slices.specs.Slices.{pair_at}
use Rattle.state.specs.declared.Profile.TheVariants.{Ds2781}
use Rattle.gauge.specs.declared.Gauge.{Gauge}
use Rattle.record.specs.declared.Event.{Event}
use Rattle.record.specs.declared.Event.TheVariants.{Image, Change, Transact}
use Rattle.record.specs.Image.{image_size}
use Rattle.record.specs.Record.{master_of, fitted_of, Taken}
use Rattle.runs.specs.Record.{Rec, whole, cut, whole_of, rec_of, size_of, recs_from, recs_of}
use Rattle.runs.specs.Run.{Did, lines_after, end_after, replies_of}
use Rattle.runs.specs.AnyRecord.{answered_by}
use Rattle.runs.specs.declared.Session.{Session}
use Rattle.runs.specs.SessionRecord.{last_tick, told_of, of_session, did_of}
use Rattle.session_run.specs.SessionRun.{empty_of}
use Rattle.tray_record.specs.declared.Tray.{Tray}
use Rattle.tray_record.specs.Tray.{empty_tray, pack_of, no_gauge, tray_did}
use Rattle.intel_hex.specs.Theorems.{Bytes}
use Rattle.demands.specs.Call.{Call, Within}
use Rattle.demands.specs.History.{Happening, imaged, changed, transacted, happened, lived, Pack, event_happens, heard_by, heard_in}
use Rattle.demands.proofs.Moments.{running}
use Rattle.demands.proofs.History.{Follows, session_follows, slot_follows}
use Rattle.demands.proofs.Small.{none_bytes, take_bytes, drop_bytes, append_bytes, replicate_bytes, SmallGauge, imaged_small, changed_small, acted_small}
use Rattle.demands.proofs.Small.{reply_bytes}

-- What a pack goes through

abbrev HappeningBytes : Happening → Type 0
HappeningBytes (imaged f p) = Bytes p
HappeningBytes (changed c) = Unit {0}
HappeningBytes (transacted t master) = Bytes master

abbrev HistoryBytes : List Happening → Type 0
HistoryBytes [] = Unit {0}
HistoryBytes (h ∷ hs) = HappeningBytes h × HistoryBytes hs

happened_small : (g : Gauge) (h : Happening) → SmallGauge g → HappeningBytes h → SmallGauge (happened g h)
happened_small g (imaged f p) s b = imaged_small f p b
happened_small g (changed c) s b = changed_small g c s
happened_small g (transacted t master) s b = acted_small g t master s b

lived_small : (hs : List Happening) (g : Gauge) → SmallGauge g → HistoryBytes hs → SmallGauge (lived g hs)
lived_small [] g s b = s
lived_small (h ∷ hs) g s b = lived_small hs (happened g h) (happened_small g h s b.0) b.1

event_bytes : (p : List ℕ) (e : Event) → Bytes p → HappeningBytes (event_happens p e)
event_bytes p (Image f) b = b
event_bytes p (Change c) b = tt
event_bytes p (Transact t) b = drop_bytes t.start p b

-- The records

abbrev RecBytes : Rec → Type 0
RecBytes (whole kind p) = Bytes p
RecBytes cut = Unit {0}

abbrev AllRecBytes : List Rec → Type 0
AllRecBytes [] = Unit {0}
AllRecBytes (r ∷ rs) = RecBytes r × AllRecBytes rs

rec_bytes : (s : List ℕ) → Bytes s → RecBytes (rec_of s)
unfolding rec_of
rec_bytes s h = picked RecBytes (whole_of s) _ cut (λ e. take_bytes (pair_at s 0) (drop 4 s) (drop_bytes 4 s h)) (λ e. tt)

recs_bytes : (k : ℕ) (s : List ℕ) → Bytes s → AllRecBytes (recs_from k s)
recs_bytes k [] h = tt
recs_bytes zero (x ∷ xs) h = (rec_bytes (x ∷ xs) h, recs_bytes (size_of (x ∷ xs) - 1) xs (λ i. h (suc i)))
recs_bytes (suc k) (x ∷ xs) h = recs_bytes k xs (λ i. h (suc i))

module _ {S : Type 0} (pack : Pack S) where
  heard_bytes : (σ : S) (room : ℕ) (r : Rec) → RecBytes r → HistoryBytes (heard_in pack σ room r)
  heard_bytes σ room (whole kind p) b = by (fitted_of room (pack.steps.told σ kind p))
    where
      by : (t : Taken) → HistoryBytes (heard_by pack σ p t)
      by (Ok e) = picked HistoryBytes (pack.hears σ p e) (event_happens p e ∷ []) [] (λ z. (event_bytes p e b, tt)) (λ z. tt)
      by (Err r) = tt
  heard_bytes σ room cut b = tt

module _ {S : Type 0} {did : S → ℕ → Rec → Did S} {start : S} {pack : Pack S} {Holds : S → Type 0} (f : Follows did start pack Holds) where
  did_small : (σ : S) (room : ℕ) (r : Rec) → Holds σ → RecBytes r → SmallGauge (pack.gauge σ) → SmallGauge (pack.gauge (did σ room r).state)
  did_small σ room r h b s =
      subst SmallGauge (sym (f.goes σ room r h)) (lived_small (heard_in pack σ room r) (pack.gauge σ) s (heard_bytes pack σ room r b))

  end_small : (rs : List Rec) (σ : S) (room : ℕ) → Holds σ → AllRecBytes rs → SmallGauge (pack.gauge σ)
      → SmallGauge (pack.gauge (end_after did σ room rs))
  end_small [] σ room h b s = s
  end_small (r ∷ rs) σ room h b s =
      let d = did σ room r in
      end_small rs d.state (room - length d.reply) (f.keeps σ room r h) b.1 (did_small σ room r h b.0 s)

-- A slot of a tray

no_gauge_small : SmallGauge no_gauge
no_gauge_small = imaged_small Ds2781 (replicate image_size 0) (replicate_bytes image_size)

-- a slot without a pack
get_d_same : {A : Type 0} (n i : ℕ) (a : A) → get_or (replicate n a) i a ≡ a
get_d_same zero i a = refl
get_d_same (suc n) zero a = refl
get_d_same (suc n) (suc i) a = get_d_same n i a

empty_small : (j : ℕ) → SmallGauge (pack_of empty_tray j)
empty_small j =
    let e : pack_of empty_tray j ≡ no_gauge = λ i. record {
      common = get_d_same 8 j no_gauge.common i;
      label = get_d_same 8 j no_gauge.label i;
      meter = get_d_same 8 j no_gauge.meter i;
    } in
    subst SmallGauge (sym e) no_gauge_small

pub slot_small : (c : Call Tray) → Within tray_did empty_tray c → Bytes c.bytes → (j : ℕ) → SmallGauge (pack_of c.ran.state j)
slot_small c w h j =
    let f = slot_follows j in
    subst (λ (τ : Tray). SmallGauge (pack_of τ j)) (sym (running tray_did empty_tray w).state)
    (end_small f (recs_of c.bytes) empty_tray (length c.room) f.starts (recs_bytes 0 c.bytes h) (empty_small j))

-- The replies of a session

reply_small : (σ : Session) (room : ℕ) (r : Rec) → SmallGauge σ.gauge → Bytes (did_of σ room r).reply
unfolding did_of
reply_small σ room (whole kind p) s = by (fitted_of room (told_of σ.loaded (last_tick σ) kind p))
  where
    by : (t : Taken) → Bytes (answered_by of_session σ p t).reply
    by (Ok (Image f)) = none_bytes
    by (Ok (Change c)) = none_bytes
    by (Ok (Transact t)) = reply_bytes σ.gauge s t (master_of t p)
    by (Err r) = none_bytes
reply_small σ room cut s = none_bytes

replies_after : (rs : List Rec) (σ : Session) (room : ℕ) → AllRecBytes rs → SmallGauge σ.gauge → Bytes (replies_of (lines_after did_of σ room rs))
replies_after [] σ room b s = none_bytes
replies_after (r ∷ rs) σ room b s =
    let d = did_of σ room r in
    append_bytes d.reply _ (reply_small σ room r s)
    (replies_after rs d.state (room - length d.reply) b.1 (did_small session_follows σ room r tt b.0 s))

pub replies_bytes : (s : List ℕ) (room : ℕ) → Bytes s → Bytes (replies_of (lines_after did_of empty_of room (recs_of s)))
replies_bytes s room h = replies_after (recs_of s) empty_of room (recs_bytes 0 s h) no_gauge_small
