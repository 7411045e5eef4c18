-- Demand 2, proved: the read-back of any gauge that events reach, and of sessions and slots.
use mathlib.Core.Path.{◌≡◌, refl, sym, ap, ◌∙◌}
use mathlib.Core.Bool.{Bool, true, false}
use mathlib.Core.List.{List, [], ◌∷◌, map, append-nil}
use Prim.Native.Nat.{ℕ, ◌≤◌, ◌<◌, zero-le}
use native.Mathlib.Omega.{arith}
use lib.ListN.{length, get_or, take, drop}
use lib.Seq.{take_at}
use lib.Dec.{eqb, leb}
use borrow.Author.Tests.{le-leb, le-ltb, lt-ltb}
use Rattle.std.specs.Prelude.{Ok, Err}
use Rattle.state.specs.declared.Profile.{Profile}
use Rattle.state.specs.State.{image_size_of}
use Rattle.demands.specs.Images.{image_kind, profile_of}
use Rattle.demands.specs.Programming.{JudgedAsRecord}
use Rattle.demands.proofs.Images.{session_image}
use Rattle.numbers.specs.Choice.{pick}
use Rattle.gauge.specs.declared.Gauge.{Gauge}
use Rattle.gauge.specs.Gauge.{power_on_of}
use Rattle.gauge.specs.Image.{image_of, bytes_of, size_for, room_after}
use Rattle.gauge.specs.Reach.{Reached}
use Rattle.gauge.proofs.Image.{image_length}
use Rattle.gauge.proofs.Reached.{reached_sized, out_judged, out_in}
use Rattle.record.specs.declared.Event.TheVariants.{Image}
use Rattle.record.specs.declared.Refusal.TheVariants.{Breaks}
use Rattle.record.specs.Record.{kind_of, ordered_of, judged_among, taken_of}
use Rattle.runs.specs.Record.{Rec, whole, recs_of, record_of}
use Rattle.runs.specs.Run.{Did, Line, silently, end_after}
use Rattle.runs.specs.declared.Session.{Session}
use Rattle.runs.specs.SessionRecord.{loaded_with, did_of}
use Rattle.session_run.specs.SessionRun.{empty_of}
use Rattle.tray_record.specs.declared.Tray.{Tray}
use Rattle.tray_record.specs.Tray.{empty_tray, pack_of, tray_kind_of, tray_did}
use Rattle.tray_run.specs.TrayRun.{slot_held}
use Rattle.demands.specs.Call.{Call, Within}
use Rattle.demands.specs.Demand2.{Fresh, eeprom_breaks, Crossed, AnswersImage, PoweredOn, Restored, ReadBack, Carried}
use Rattle.demands.specs.Demand2.{PowersOn, SlotCarried, SlotPowersOn, Demand2, TrayDemand2}
use Rattle.demands.proofs.Choice.{contrary, pick_twice}
use Rattle.runs.proofs.Records.{recs_record}
use Rattle.demands.proofs.Reached.{end_reached}
use Rattle.demands.proofs.Moments.{left_of, end_append, running, tells}
use Rattle.demands.proofs.Every.{run_exact}
use Rattle.demands.proofs.Packs.{Eight, stored_here}
use Rattle.demands.proofs.Filled.{Filled, end_filled}

-- An image that is accepted first, or refused for its breakpoints, and a power-on

pub did_image : (f : Profile) (p : List ℕ) (room : ℕ) → taken_of (image_kind f) false p ≡ Ok (Image f)
    → did_of empty_of room (whole (image_kind f) p) ≡ silently (loaded_with (image_of f p)) 0
unfolding did_of
did_image f p room accepted = rw (accepted, le-ltb room 0 zero-le) refl

did_crossed : (f : Profile) (p : List ℕ) (room : ℕ) → taken_of (image_kind f) false p ≡ Err Breaks
    → did_of empty_of room (whole (image_kind f) p) ≡ silently empty_of 10
unfolding did_of
did_crossed f p room refused = rw refused refl

did_power_on : (σ : Session) (room : ℕ) → σ.loaded ≡ true → did_of σ room (whole 5 []) ≡ silently (loaded_with (power_on_of σ.gauge)) 0
unfolding did_of taken_of kind_of
did_power_on σ room loaded = rw (loaded, le-ltb room 0 zero-le) refl

-- The image taken out

-- no session has two answers
never_both : {kind : ℕ} {ls : List Line} → ls ≡ record { kind = kind; answer = 10; reply = [] } ∷ [] →
    ls ≡ record { kind = kind; answer = 0; reply = [] } ∷ [] → ⊥
never_both a b = let z : ◌≡◌ {A = ℕ} 10 0 = ap (λ (ls : List Line). get_or (map (λ l. l.answer) ls) 0 0) (sym a ∙ b) in omega arith

-- what an image record gets is what the judge says, of any size
pub taken_image : JudgedAsRecord
unfolding taken_of judged_among
taken_image f p = rw (session_image f) (pick_twice (eqb (length p) (image_size_of f)) _ _)

-- of any gauge that events reach, whose image the room holds
module _ (g : Gauge) (reached : Reached g) {after : List ℕ} (written : take (size_for g) after ≡ bytes_of g) {e : Call Session}
    (k : Fresh (profile_of g) after e) where
  abbrev f : Profile
  f = profile_of g

  abbrev p : List ℕ
  p = bytes_of g

  records : recs_of e.bytes ≡ whole (image_kind f) p ∷ []
  records =
      ap recs_of (k.image ∙ ap (record_of (image_kind f)) written ∙ sym (append-nil (record_of (image_kind f) p)))
      ∙ recs_record (image_kind f) p []

  judged : {t : Bool} → ordered_of (eeprom_breaks g) ≡ t → taken_of (image_kind f) false p ≡ pick t (Ok (Image f)) (Err Breaks)
  judged h = taken_image f p ∙ out_judged g reached ∙ rw h refl

  -- what the image does is what the fresh session does
  gives : {τ : Session} {n : ℕ} → did_of empty_of (length e.room) (whole (image_kind f) p) ≡ silently τ n →
      AnswersImage f e n × (e.ran.state ≡ τ)
  gives does = (
    rw (records, does) refl,
    (running did_of empty_of k.run).state ∙ ap (end_after did_of empty_of (length e.room)) records ∙ ap (λ (x : Did Session). x.state) does,
  )

  declines : Crossed g → AnswersImage f e 10 × (e.ran.state ≡ empty_of)
  declines h = gives (did_crossed f p (length e.room) (judged h))

  restores : ordered_of (eeprom_breaks g) ≡ true → AnswersImage f e 0 × (e.ran.state ≡ loaded_with (power_on_of g))
  restores h =
      gives (did_image f p (length e.room) (judged h) ∙ ap (λ (x : Gauge). silently (loaded_with x) 0) (out_in g reached))

  -- 10 is answered in no other case
  only : (t : Bool) → ordered_of (eeprom_breaks g) ≡ t → AnswersImage f e 10 → Crossed g
  only true h a = absurd (never_both a (restores h).0)
  only false h a = h

  module _ {There : Gauge → Type 0} (powered : (h : Gauge) → There h → h ≡ power_on_of g) where
    restored : (t : Bool) → ordered_of (eeprom_breaks g) ≡ t → (Crossed g → ⊥) → Restored g There e
    restored true h other =
        record { accepted = (restores h).0; state = (restores h).1; there = λ x y. (restores h).1 ∙ ap loaded_with (sym (powered x y)) }
    restored false h other = absurd (other h)

    read_back : ReadBack g There e
    read_back = record {
      told = tells did_of empty_of k.run;
      declined = λ h. record { refused = (declines h).0; state = (declines h).1 };
      crossed = only _ refl;
      restored = restored _ refl;
    }

-- the state after a power-on at the end of the same records
powered_state : {S : Type 0} {did : S → ℕ → Rec → Did S} {start : S} {r : Rec} {Leaves : S → Gauge → Type 0} {d : Call S} {h : Gauge}
    → Within did start d → (x : PoweredOn did start r Leaves d h)
    → x.longer.ran.state ≡ (did d.ran.state (left_of did start (length d.room) (recs_of d.bytes)) r).state
powered_state {S} {did} {start} {r} {Leaves} {d} {h} w x =
    let n = left_of did start (length d.room) (recs_of d.bytes) in
    (running did start x.run).state
    ∙ rw (x.last, x.room) (end_append did start (length d.room) (recs_of d.bytes) (r ∷ []))
    ∙ ap (λ (τ : S). (did τ n r).state) (sym (running did start w).state)

-- what stands in the room after an image was written into it
room_written : (g : Gauge) → Reached g → (room : List ℕ) → size_for g ≤ length room →
    take (size_for g) (room_after (leb (size_for g) (length room)) g room) ≡ bytes_of g
room_written g reached room fits =
    rw (le-leb (size_for g) (length room) fits) (take_at (bytes_of g) (drop (size_for g) room) (size_for g) (image_length g (reached_sized g reached)))

-- Sessions

module _ {d : Call Session} {room : List ℕ} {answer : ℕ} {after : List ℕ} (k : Carried d room answer after) where
  abbrev σ : Session
  σ = d.ran.state

  session_reached : Reached σ.gauge
  session_reached =
      let s = (running did_of empty_of k.run).state in
      rw s (end_reached empty_of (length d.room) (recs_of d.bytes) (λ z. contrary cc) (rw s at k.loaded))

  session_powered : (h : Gauge) → PowersOn d h → h ≡ power_on_of σ.gauge
  session_powered h x =
      let n = left_of did_of empty_of (length d.room) (recs_of d.bytes) in
      ap (λ (τ : Session). τ.gauge) (sym x.leaves ∙ powered_state k.run x ∙ ap (λ (y : Did Session). y.state) (did_power_on σ n k.loaded))

  session_images : (answer ≡ 0) × ((e : Call Session) → Fresh (profile_of σ.gauge) after e → ReadBack σ.gauge (PowersOn d) e)
  session_images = (
    k.out.number ∙ rw (k.loaded, le-leb (size_for σ.gauge) (length room) k.fits) refl,
    λ e f. read_back σ.gauge session_reached
        (ap (take (size_for σ.gauge)) k.out.written ∙ rw k.loaded (room_written σ.gauge session_reached room k.fits)) f session_powered,
  )

pub demand_2 : Demand2
demand_2 = record { events = run_exact did_of empty_of; images = λ d room answer after k. session_images k }

-- Slots

-- a power-on of a slot that has a pack
did_slot_power_on : (τ : Tray) (room i : ℕ) → Eight τ → i < τ.count →
    pack_of (tray_did τ room (whole 21 (i ∷ []))).state i ≡ power_on_of (pack_of τ i)
unfolding tray_did tray_kind_of
did_slot_power_on τ room i h low =
    rw (lt-ltb i τ.count low, le-ltb room 0 zero-le) (stored_here τ i (power_on_of (pack_of τ i)) h (omega (arith, h.few)))

module _ {d : Call Tray} {i : ℕ} {room : List ℕ} {answer : ℕ} {after : List ℕ} (k : SlotCarried d i room answer after) where
  abbrev τ : Tray
  τ = d.ran.state

  filled : Filled τ
  filled = rw (running tray_did empty_tray k.run).state (end_filled (length d.room) (recs_of d.bytes))

  held : slot_held τ i ≡ true
  held = rw (lt-ltb i 8 (omega (arith, k.pack, filled.eight.few)), lt-ltb i τ.count k.pack) refl

  slot_powered_lem : (h : Gauge) → SlotPowersOn i d h → h ≡ power_on_of (pack_of τ i)
  slot_powered_lem h x =
      let n = left_of tray_did empty_tray (length d.room) (recs_of d.bytes) in
      sym x.leaves ∙ ap (λ (y : Tray). pack_of y i) (powered_state k.run x) ∙ did_slot_power_on τ n i filled.eight k.pack

  slot_images : (answer ≡ 0) × ((e : Call Session) → Fresh (profile_of (pack_of τ i)) after e → ReadBack (pack_of τ i) (SlotPowersOn i d) e)
  slot_images = (
    k.out.number ∙ rw (held, le-leb (size_for (pack_of τ i)) (length room) k.fits) refl,
    λ e f.
        read_back (pack_of τ i) (filled.reached i k.pack)
        (ap (take (size_for (pack_of τ i))) k.out.written ∙ rw held (room_written (pack_of τ i) (filled.reached i k.pack) room k.fits))
        f slot_powered_lem,
  )

pub tray_demand_2 : TrayDemand2
tray_demand_2 = record { events = run_exact tray_did empty_tray; images = λ d i room answer after k. slot_images k }
