-- Each theorem at the edge of its premises: one that is narrowed by one does not reach it.
use mathlib.Core.Path.{◌≡◌, refl, sym, ap, subst, ◌∙◌}
use mathlib.Core.Bool.{true, false}
use mathlib.Core.Logic.{inl, inr}
use mathlib.Core.List.{List, [], ◌∷◌, ◌++◌, append-nil}
use Prim.Native.Nat.{ℕ, suc, ◌+◌, ◌-◌, ◌*◌, ◌/◌, ◌^◌, ◌≤◌, ◌<◌}
use native.Mathlib.Omega.{arith}
use lib.ListN.{length, get_or, take, drop}
use Rattle.params.specs.Params.{capacity_of}
use Rattle.state.specs.declared.Meter.{Meter}
use Rattle.state.specs.declared.Profile.TheVariants.{Ds2775}
use Rattle.state.specs.State.{acr_of, elapsed_of}
use Rattle.conversion.specs.Conversion.{corrects_full, convert_of}
use Rattle.samples.specs.Samples.{sampled_of}
use Rattle.reading.specs.Reading.{seen_in}
use Rattle.reading.specs.Hundred.{FullLeft, left_at_full, left_in, usable_in, Says}
use Rattle.reading.proofs.Hundred.{hundred_holds}
use Rattle.bus.specs.declared.Transaction.{Transaction}
use Rattle.gauge.specs.declared.Gauge.{Gauge}
use Rattle.gauge.specs.Aging.{aging_of}
use Rattle.gauge.specs.Image.{size_for}
use Rattle.gauge.specs.Profiles.{base_meter, edge_in}
use Rattle.gauge.proofs.Profiles.{only_two}
use Rattle.record.specs.declared.Form.{Form}
use Rattle.record.specs.declared.Form.TheVariants.{Long}
use Rattle.record.specs.declared.Change.TheVariants.{Reading, Conversion, Sample, PowerOn}
use Rattle.record.specs.Image.{image_size, image_aging}
use Rattle.runs.specs.Record.{Rec, whole, whole_of, rec_of, record_of}
use Rattle.runs.specs.Run.{Did, Line, lines_after, replies_of, outcome_number}
use Rattle.runs.specs.Step.{own_room}
use Rattle.runs.specs.Divided.{left_over}
use Rattle.runs.proofs.Divided.{divided}
use Rattle.runs.specs.declared.Session.{Session}
use Rattle.runs.specs.SessionRecord.{did_of, loaded_with}
use Rattle.session_run.specs.SessionRun.{empty_of, TakenOut}
use Rattle.tray_record.specs.declared.Tray.{Tray}
use Rattle.tray_record.specs.Tray.{empty_tray, pack_of, slot_in, tray_did}
use Rattle.tray_record.specs.Tray as reach
use Rattle.tray_run.specs.TrayRun.{SlotOut}
use Rattle.preset_session.specs.PresetSession.{Written, programming_size, Programming}
use Rattle.mending.specs.Mending.{Mended, Listed, mend_done, mended_of, Mending, Listing}
use Rattle.mending.specs.Worth.{Accepted, SoundImage, StaysByCalls}
use Rattle.mending.proofs.Worth as worth
use Rattle.intel_hex.specs.Export.{Answer, done, Exporting}
use Rattle.intel_hex.specs.Import.{Importing}
use Rattle.intel_hex.specs.Theorems.{InSomeOrder, Reordered, Returned}
use Rattle.intel_hex.proofs.RoundTrip.{round_trip}
use Rattle.demands.specs.Call.{Call, Allowed, Within, lines_in, got_of, first_of, Stopped, SessionRun, Taking}
use Rattle.demands.specs.Demand1.{Unchanged}
use Rattle.demands.specs.Numbers.{OnlyWhen, session_cases, front_cases}
use Rattle.demands.specs.History.{Happening, changed, transacted, happened, of_gauge, heard_since, left_by}
use Rattle.demands.specs.Hundred.{FindsFull, by_conversion, by_sample, KeepsFull, charged_in}
use Rattle.demands.specs.Mending.{MendedFirst}
use Rattle.demands.specs.Slow as slowly
use Rattle.demands.specs.Slots.{Stands, AsOld}
use Rattle.demands.specs.Slots as Slots
use Rattle.demands.specs.Single.{Translated, one_image, AnswersAlike}
use Rattle.demands.specs.Aging.{AsLeft}
use Rattle.demands.specs.Saved.{cells_saved, Unsaved}
use Rattle.demands.specs.Stored.{block0, block1}
use Rattle.demands.specs.Alone.{slot_event, reach_in, Goes, slotted, matched}
use Rattle.demands.specs.Isolation.{Agree, Differs, here, there, Twins, SameAt}
use Rattle.demands.specs.Longer.{form_kind, Reformed, reading, quarters, whole_map}
use Rattle.demands.specs.Longer as Longer
use Rattle.demands.specs.Programming.{Bench, bench_lines, Answers}
use Rattle.demands.proofs.Called.{called, called_stopped, runs_exist}
use Rattle.demands.proofs.Demand1.{demand_1, tray_demand_1}
use Rattle.demands.proofs.Alone.{alone}
use Rattle.demands.proofs.Isolation.{isolation, isolated_throughout}
use Rattle.demands.proofs.Single.{single_as_plain}
use Rattle.demands.proofs.Stepwise.{sessions_stepwise, trays_stepwise}
use Rattle.demands.proofs.History.{session_eeprom}
use Rattle.demands.proofs.TrayExample.{isolation_met}
use Rattle.demands.proofs.Numbers.{each_number_holds}
use Rattle.demands.proofs.Demand2.{demand_2, tray_demand_2}
use Rattle.demands.proofs.Lives.{saved_cells_hold, own_as_holds, full_pack_holds}
use Rattle.demands.proofs.Mending.{mended_first}
use Rattle.demands.proofs.Slow.{slow}
use Rattle.demands.proofs.Slots.{slots_as_old}
use Rattle.demands.proofs.EachPack.{transactions_as_plain}
use Rattle.demands.proofs.Longer.{longer}

-- the run of a call that is stopped after so many records
abbrev stopped_at : {S : Type 0} → (S → ℕ → Rec → Did S) → S → ℕ → Call S → Call S
stopped_at did start n c = called did start (first_of n c.bytes) c.room c.answers

-- DEMAND 2: an image taken out into a room of just its size, of a session and of the last slot that has a pack
pub image_in_its_size : (d : Call Session) (room : List ℕ) (answer : ℕ) (after : List ℕ) → Within did_of empty_of d → d.ran.state.loaded ≡ true
    → length room ≡ size_for d.ran.state.gauge → TakenOut d.ran.state room answer after → answer ≡ 0
image_in_its_size d room answer after w loaded size out =
    (demand_2.images d room answer after (record { run = w; loaded = loaded; fits = omega (arith, size); out = out })).0

pub slot_image_in_its_size : (d : Call Tray) (i : ℕ) (room : List ℕ) (answer : ℕ) (after : List ℕ) → Within tray_did empty_tray d
    → suc i ≡ d.ran.state.count → length room ≡ size_for (pack_of d.ran.state i) → SlotOut d.ran.state i room answer after → answer ≡ 0
slot_image_in_its_size d i room answer after w last size out =
    (tray_demand_2.images d i room answer after (record { run = w; pack = omega (arith, last); fits = omega (arith, size); out = out })).0

-- SLOTS: the last slot that has a pack
pub last_slot_as_old : (c : Call Tray) → Within tray_did empty_tray c → (i : ℕ) → suc i ≡ c.ran.state.count → (n m : ℕ) → Stands n m
    → (room : ℕ) (p : List ℕ)
    → AsOld c.ran.state i (tray_did c.ran.state room (whole n (i ∷ p))) (did_of (loaded_with (pack_of c.ran.state i)) room (whole m p))
last_slot_as_old c w i last n m stands room p = slots_as_old.events c w i (omega (arith, last)) n m stands room p

-- PROGRAMMING: with 30 answers lent; with reply room for 32 bytes, and for one less
pub bench_of_30_answers : (image wanted room : List ℕ) (said : Written) (after : List ℕ) (c : Call Session) → Programming image wanted room said after
    → c.bytes ≡ take programming_size after → Allowed did_of empty_of c → length c.answers ≡ 30 → Bench image wanted room said after c
bench_of_30_answers image wanted room said after c wrote session run lent =
    record { wrote = wrote; session = session; run = run; lent = omega (arith, lent) }

pub replied_in_32 : (wanted : List ℕ) (c : Call Session) → Answers wanted c → length c.room ≡ 32 → lines_in did_of empty_of c ≡ bench_lines 0 wanted
replied_in_32 wanted c answers size = answers.replied (omega (arith, size))

pub refused_in_31 : (wanted : List ℕ) (c : Call Session) → Answers wanted c → length c.room ≡ 31 → lines_in did_of empty_of c ≡ bench_lines 9 []
refused_in_31 wanted c answers size = answers.short (omega (arith, size))

-- LONGER TRANSACTIONS: the whole map with room for just 256 bytes
pub map_in_256 : (g : Gauge) → (did_of (loaded_with g) 256 (reading Long 0x00 256)).answer ≡ 0
map_in_256 g = ap (λ (d : Did Session). d.answer) (longer.map_read g 256 (omega arith))

pub quarters_in_256 : (g : Gauge) → replies_of (lines_after did_of (loaded_with g) 256 quarters) ≡ whole_map g
quarters_in_256 g = longer.map_quarters g 256 (omega arith)

-- and any record may stand beside the one that is in another form
pub any_record_kept : (r : Rec) (rs ss : List Rec) → Reformed rs ss → Reformed (r ∷ rs) (r ∷ ss)
any_record_kept r rs ss same = Longer.kept same

-- A FULL PACK: D is 1
pub hundred_at_1 : (k : Meter) (raw : ℕ) → corrects_full k raw ≡ true → (m : Meter) (v t : ℕ) → acr_of (left_in m v t).count ≡ (left_at_full k raw).acr
    → (left_in m v t).aging ≡ (left_at_full k raw).aging → (seen_in m v t).lines.full ≡ (left_at_full k raw).full
    → (capacity_of m.cells.block.shadow).full40 ≡ (left_at_full k raw).full40 → usable_in m v t ≡ 1 → Says m v t 100 m.shown.flags.chgtf
hundred_at_1 k raw found m v t acr aging full full40 one =
    hundred_holds.stays k raw found m v t (record { acr = acr; aging = aging; full = full; full40 = full40; some = omega (arith, one) })

-- DEMAND 1 and THE NUMBERS: a session of 32,769 bytes, of one pack and of a tray
abbrev OverAt : {S : Type 0} → (S → ℕ → Rec → Did S) → S → Type 0
OverAt {S} did start = (c : Call S) → Allowed did start c → length c.bytes ≡ 32769 → outcome_number c.ran.outcome ≡ 1

pub over_at_32769 : OverAt did_of empty_of
over_at_32769 c allowed size = (demand_1.over c allowed (omega (arith, size))).0

pub tray_over_at_32769 : OverAt tray_did empty_tray
tray_over_at_32769 c allowed size = (tray_demand_1.over c allowed (omega (arith, size))).0

pub numbered_at_32769 : OverAt did_of empty_of
numbered_at_32769 c allowed size = each_number_holds.session.over c allowed (omega (arith, size))

pub tray_numbered_at_32769 : OverAt tray_did empty_tray
tray_numbered_at_32769 c allowed size = each_number_holds.tray.over c allowed (omega (arith, size))

-- RUNS EXIST: a session of 32,768 bytes with 8,192 answers has one
pub run_of_32768 : {S : Type 0} (did : S → ℕ → Rec → Did S) (start : S) (s room answers : List ℕ) → length s ≡ 32768 → length answers ≡ 8192
    → SessionRun did start s room answers
run_of_32768 did start s room answers size lent =
    (runs_exist did start).sessions s room answers (omega (arith, size)) (subst (λ (n : ℕ). (n + 3) / 4 ≤ length answers) (sym size) (omega (arith, lent)))

-- and every record of a session, not the last alone, is one that runs stop before and after
pub each_record_taken : {S : Type 0} (did : S → ℕ → Rec → Did S) (start : S) (c : Call S) → Within did start c
    → (n : ℕ) (r : Rec) (l : Line) (later : List (Rec × Line)) → drop n (got_of did start c) ≡ (r, l) ∷ later
    → Taking did start c r l (stopped_at did start n c) (stopped_at did start (suc n) c)
each_record_taken did start c w n r l later found =
    record { earlier = n; later = later; here = found; before = called_stopped did start n c w; after = called_stopped did start (suc n) c w }

-- READ BY READ: a read of just four bytes for each record that is answered
pub completed_at_4 : (most : ℕ) (left read : List ℕ) → whole_of left ≡ false → length read ≡ 4 * most → whole_of (left_over most (left ++ read)) ≡ false
completed_at_4 most left read cut size = divided.completed most left read cut (omega (arith, size))

-- EVERY PACK: the last of a tray, with any transaction
pub last_pack_as_plain : (c : Call Tray) → Within tray_did empty_tray c → (room : ℕ) (f : Form) (p : List ℕ) (i : ℕ) → suc i ≡ c.ran.state.count
    → pack_of (tray_did c.ran.state room (whole (form_kind f) p)).state i
    ≡ (did_of (loaded_with (pack_of c.ran.state i)) room (whole (form_kind f) p)).state.gauge
last_pack_as_plain c w room f p i last = (transactions_as_plain c w room f p).pack i (omega (arith, last))

-- A FULL PACK: full is found by the last conversion of a sample
pub found_by_the_last : (g : Gauge) (raw tick i : ℕ) → suc i ≡ elapsed_of g.meter.flow.tick tick → corrects_full (sampled_of g.meter raw i) raw ≡ true
    → FindsFull g (changed (Sample raw tick)) (left_at_full (sampled_of g.meter raw i) raw)
found_by_the_last g raw tick i last found = by_sample raw tick i (omega (arith, last)) found

-- and by its first; or by any conversion
pub found_by_the_first : (g : Gauge) (raw tick : ℕ) → 0 < elapsed_of g.meter.flow.tick tick → corrects_full g.meter raw ≡ true
    → FindsFull g (changed (Sample raw tick)) (left_at_full g.meter raw)
unfolding sampled_of
found_by_the_first g raw tick some found = by_sample raw tick 0 some found

pub found_by_a_conversion : (g : Gauge) (raw : ℕ) → corrects_full g.meter raw ≡ true → FindsFull g (changed (Conversion raw)) (left_at_full g.meter raw)
found_by_a_conversion g raw found = by_conversion raw found

-- and then it is kept over any conversion, any sample and any transaction
pub kept_over_conversion : (f : FullLeft) (g : Gauge) (raw : ℕ) → KeepsFull f g (changed (Conversion raw))
kept_over_conversion f g raw = tt

pub kept_over_sample : (f : FullLeft) (g : Gauge) (raw tick : ℕ) → KeepsFull f g (changed (Sample raw tick))
kept_over_sample f g raw tick = tt

pub kept_over_transaction : (f : FullLeft) (g : Gauge) (t : Transaction) (master : List ℕ) → KeepsFull f g (transacted t master)
kept_over_transaction f g t master = tt

pub charged_over_others : (n : ℕ) (a b : Call Session) → Within did_of empty_of b → Stopped did_of empty_of n b a → (h : Happening) (raw tick : ℕ)
    (t : Transaction) (master : List ℕ)
    → heard_since of_gauge did_of n a b ≡ h ∷ changed (Conversion raw) ∷ changed (Sample raw tick) ∷ transacted t master ∷ []
    → (f : FullLeft) → FindsFull (left_by of_gauge a) h f → charged_in (left_by of_gauge b) ≡ true
charged_over_others n a b w stopped h raw tick t master heard f finds =
    let one = happened (left_by of_gauge a) h in
    let two = happened one (changed (Conversion raw)) in
    let three = happened two (changed (Sample raw tick)) in
    (full_pack_holds.session.full n a b w stopped h (changed (Conversion raw) ∷ changed (Sample raw tick) ∷ transacted t master ∷ []) heard f finds
    (kept_over_conversion f one raw, (kept_over_sample f two raw tick, (kept_over_transaction f three t master, tt)))).0

-- PROFILES: at the edge of blanking the counts differ where the DS2775's is 1, and where the DS2781's is one below its largest
module _ (m : Meter) (raw : ℕ) (second : m.cells.profile ≡ Ds2775) (edge : edge_in m raw ≡ true) (unmarked : m.charge.mark ≡ false)
    (unfilled : corrects_full m raw ≡ false) where
  abbrev Differ : Type 0
  Differ = (convert_of m raw).charge.count ≡ (convert_of (base_meter m) raw).charge.count → ⊥

  pub differs_at_1 : (convert_of m raw).charge.count ≡ 1 → (convert_of (base_meter m) raw).charge.count < 2 ^ 28 - 1 → Differ
  differs_at_1 one low = only_two.differs m raw second edge unmarked unfilled (omega (arith, one)) low

  pub differs_below_the_largest : 0 < (convert_of m raw).charge.count → (convert_of (base_meter m) raw).charge.count ≡ 2 ^ 28 - 2 → Differ
  differs_below_the_largest some high = only_two.differs m raw second edge unmarked unfilled some (omega (arith, high))

-- bytes up to 255
abbrev UpTo255 : List ℕ → Type 0
UpTo255 s = (i : ℕ) → get_or s i 0 ≤ 255

-- MENDING: an acceptable image with an AS of 63, and of 128, comes out unchanged
module _ (image : List ℕ) (bytes : UpTo255 image) (accepted : Accepted image) where
  pub unchanged_at_63 : image_aging image ≡ 63 → mended_of image ≡ image
  unchanged_at_63 e =
      (worth.unchanged image (record { bytes = λ i. omega (arith, bytes i); accepted = accepted; young = omega (arith, e); old = omega (arith, e) })).0

  pub unchanged_at_128 : image_aging image ≡ 128 → mended_of image ≡ image
  unchanged_at_128 e =
      (worth.unchanged image (record { bytes = λ i. omega (arith, bytes i); accepted = accepted; young = omega (arith, e); old = omega (arith, e) })).0

-- a sound image stays in a room of just 60 bytes
pub stays_in_60 : (image : List ℕ) → SoundImage image → (room : List ℕ) (said : Mended) (after : List ℕ) → length room ≡ 60
    → Mending image room said after → (lent : List ℕ) (heard : Listed) (last : List ℕ) → Listing image lent heard last
    → StaysByCalls image room said after lent heard last
stays_in_60 image sound room said after size mended lent heard last listed =
    (worth.listing).stays image sound room said after (omega (arith, size)) mended lent heard last listed

-- and a mended image is the only record of a session
pub mended_alone : (image room after : List ℕ) (c : Call Session) → Mending image room mend_done after → c.bytes ≡ record_of 1 (take image_size after)
    → Within did_of empty_of c → MendedFirst image room after [] c
mended_alone image room after c mended session run =
    record { mended = mended; session = session ∙ sym (append-nil (record_of 1 (take image_size after))); run = run }

pub mended_alone_accepted : (image room after : List ℕ) (c : Call Session) → Mending image room mend_done after
    → c.bytes ≡ record_of 1 (take image_size after) → Within did_of empty_of c → lines_in did_of empty_of c ≡ record { kind = 1; answer = 0; reply = [] } ∷ []
mended_alone_accepted image room after c mended session run =
    (mended_first image room after [] c (mended_alone image room after c mended session run)).lines

-- THE ROUND TRIP: into a room of just 48 bytes
pub returned_in_48 : (pack factory room after : List ℕ) → UpTo255 pack → UpTo255 factory → Exporting pack factory room done after
    → (ls : List (List ℕ)) (text : List ℕ) → Reordered pack factory ls text → (lent : List ℕ) (said : Answer) (last : List ℕ) → length lent ≡ 48
    → Importing text lent said last → Returned pack factory lent said last
returned_in_48 pack factory room after small other wrote ls text order lent said last size read =
    round_trip pack factory room after (λ i. omega (arith, small i)) (λ i. omega (arith, other i)) wrote ls text order lent said last (omega (arith, size)) read

-- and the data lines in each of the six orders
module _ (x y z : List ℕ) where
  abbrev Ordered : List (List ℕ) → Type 0
  Ordered = InSomeOrder x y z

  pub in_each_order : Ordered (x ∷ y ∷ z ∷ []) × Ordered (x ∷ z ∷ y ∷ []) × Ordered (y ∷ x ∷ z ∷ [])
      × Ordered (y ∷ z ∷ x ∷ []) × Ordered (z ∷ x ∷ y ∷ []) × Ordered (z ∷ y ∷ x ∷ [])
  in_each_order = (
    record { many = refl; first = inl refl; second = inr (inl refl); third = inr (inr (inl refl)) },
    record { many = refl; first = inl refl; second = inr (inr (inl refl)); third = inr (inl refl) },
    record { many = refl; first = inr (inl refl); second = inl refl; third = inr (inr (inl refl)) },
    record { many = refl; first = inr (inr (inl refl)); second = inl refl; third = inr (inl refl) },
    record { many = refl; first = inr (inl refl); second = inr (inr (inl refl)); third = inl refl },
    record { many = refl; first = inr (inr (inl refl)); second = inr (inl refl); third = inl refl },
  )

-- NUMBERS: a session of just 32,768 bytes, and one byte that is left
pub done_at_32768 : (c : Call Session) → Allowed did_of empty_of c → length c.bytes ≡ 32768 → outcome_number c.ran.outcome ≡ 0
done_at_32768 c a size = each_number_holds.session.within c a (omega (arith, size))

pub one_byte_left : (σ : Session) (room x : ℕ) → OnlyWhen (did_of σ room (rec_of (x ∷ []))).answer (front_cases did_of empty_of session_cases σ room (x ∷ []))
one_byte_left σ room x = each_number_holds.session.records σ room (x ∷ []) (omega arith)

-- SLOW: a record of kind 6 that has another size stands behind a sample
pub missized_behind_sample : (g : Gauge) (room : ℕ) (s : slowly.Sample)
    → slowly.AsConversions g room (slowly.sample s ∷ slowly.other (whole 6 []) ∷ [])
missized_behind_sample g room s = slow.conversions g room (slowly.sample s ∷ slowly.other (whole 6 []) ∷ []) (refl, tt)

-- ISOLATION: either session may have any event of the slot that the other has not, whatever it is answered; and a record that both refuse may be refused
-- with other numbers
module _ {k n e : ℕ} {p : List ℕ} {xs ys : List (Rec × Line)} (slot : slot_event e ≡ true) (at : slot_in p ≡ k) (l : Line) (rest : Differs k n xs ys) where
  pub one_holds_more : Differs k n ((whole e p, l) ∷ xs) ys
  one_holds_more = here slot at rest

  pub other_holds_more : Differs k n xs ((whole e p, l) ∷ ys)
  other_holds_more = there slot at rest

pub refused_either_way : (l m : Line) → l.answer ≡ 4 → m.answer ≡ 10 → Agree l m
refused_either_way l m four ten = rw (four, ten) refl

-- the example meets all that the theorem asks
pub example_isolated : SameAt isolation_met.slot isolation_met.first isolation_met.second isolation_met.before isolation_met.other_before
example_isolated =
    isolated_throughout isolation_met.slot isolation_met.first isolation_met.second isolation_met.twins isolation_met.taking.earlier
    isolation_met.other_taking.earlier isolation_met.place isolation_met.before isolation_met.other_before isolation_met.taking.before
    isolation_met.other_taking.before

-- and so are the slots below and above the one that differs: their packs, and the reply of a transaction that is matched to one of them
module _ (k j : ℕ) (c d : Call Tray) (twins : Twins k c d) where
  pub lower_pack_same : j < k → pack_of c.ran.state j ≡ pack_of d.ran.state j
  lower_pack_same low = (isolation.states k c d twins).packs j (λ same. omega (arith, same, low))

  pub higher_pack_same : k < j → pack_of c.ran.state j ≡ pack_of d.ran.state j
  higher_pack_same high = (isolation.states k c d twins).packs j (λ same. omega (arith, same, high))

module _ (k j : ℕ) (c d a e : Call Tray) (x : Form) (p : List ℕ) (l m : Line) (b f : Call Tray) (same : SameAt k c d a e)
    (one-takes : Taking tray_did empty_tray c (whole (form_kind x) p) l a b) (other-takes : Taking tray_did empty_tray d (whole (form_kind x) p) m e f)
    (reached : reach_in a.ran.state x p ≡ reach.one j) where
  pub lower_reply_same : j < k → l ≡ m
  lower_reply_same low = same.replies j x p l m b f one-takes other-takes reached (λ e. omega (arith, e, low))

  pub higher_reply_same : k < j → l ≡ m
  higher_reply_same high = same.replies j x p l m b f one-takes other-takes reached (λ e. omega (arith, e, high))

-- ALONE: any event of a slot, and a matched transaction of either form, leave the slots below and above
module _ (τ : Tray) (i : ℕ) (p : List ℕ) where
  pub each_event_goes : (n : ℕ) → slot_event n ≡ true → Goes τ i (whole n (i ∷ p))
  each_event_goes n slot = slotted slot refl

  pub each_form_goes : (f : Form) → reach_in τ f p ≡ reach.one i → Goes τ i (whole (form_kind f) p)
  each_form_goes f reached = matched f reached

module _ (τ : Tray) (room : ℕ) (r : Rec) (i j : ℕ) (goes : Goes τ i r) where
  pub lower_left_alone : j < i → pack_of (tray_did τ room r).state j ≡ pack_of τ j
  lower_left_alone low = alone τ room r i j goes (λ same. omega (arith, same, low))

  pub higher_left_alone : i < j → pack_of (tray_did τ room r).state j ≡ pack_of τ j
  higher_left_alone high = alone τ room r i j goes (λ same. omega (arith, same, high))

-- SLOTS: each of the four kinds stands for an old one
pub each_kind_stands : Stands 18 2 × Stands 19 3 × Stands 22 6 × Stands 21 5
each_kind_stands = (Slots.reading, Slots.conversion, Slots.sample, Slots.power_on)

-- DEMAND 1: a record with any other answer than 0 changes nothing, one that is cut too
module _ (n : ℕ) (r : Rec) (l : Line) (other : l.answer ≡ suc n) where
  pub refused_changes_nothing : (c a b : Call Session) → Within did_of empty_of c → Taking did_of empty_of c r l a b → Unchanged a b
  refused_changes_nothing c a b w takes = demand_1.refusals c w r l a b takes (λ done. omega (arith, done, other))

  pub refused_changes_no_tray : (c a b : Call Tray) → Within tray_did empty_tray c → Taking tray_did empty_tray c r l a b → Unchanged a b
  refused_changes_no_tray c a b w takes = tray_demand_1.refusals c w r l a b takes (λ done. omega (arith, done, other))

-- AS AND THE SAVED CELLS: what does not set them
pub as_left_over_others : (g : Gauge) (volt temp : ℕ) (t : Transaction) (master : List ℕ)
    → AsLeft g (changed (Reading volt temp) ∷ transacted t master ∷ [])
as_left_over_others g volt temp t master = (refl, (refl, tt))

pub unsaved_over_others : (g : Gauge) (raw tick : ℕ) (t : Transaction) (master : List ℕ)
    → Unsaved g (changed (Conversion raw) ∷ changed (Sample raw tick) ∷ changed PowerOn ∷ transacted t master ∷ [])
unsaved_over_others g raw tick t master = (refl, (refl, (refl, (refl, tt))))

module _ (n : ℕ) (a b : Call Session) (w : Within did_of empty_of b) (stopped : Stopped did_of empty_of n b a) where
  pub as_left_in_session : (volt temp : ℕ) (t : Transaction) (master : List ℕ)
      → heard_since of_gauge did_of n a b ≡ changed (Reading volt temp) ∷ transacted t master ∷ [] → aging_of (left_by of_gauge b) ≡
      aging_of (left_by of_gauge a)
  as_left_in_session volt temp t master heard =
      own_as_holds.session.left n a b w stopped (subst (AsLeft (left_by of_gauge a)) (sym heard) (as_left_over_others (left_by of_gauge a) volt temp t master))

  pub cells_stay_in_session : (raw tick : ℕ) (t : Transaction) (master : List ℕ)
      → heard_since of_gauge did_of n a b ≡ changed (Conversion raw) ∷ changed (Sample raw tick) ∷ changed PowerOn ∷ transacted t master ∷ []
      → cells_saved (left_by of_gauge b) ≡ cells_saved (left_by of_gauge a)
  cells_stay_in_session raw tick t master heard =
      saved_cells_hold.session.stay n a b w stopped
      (subst (Unsaved (left_by of_gauge a)) (sym heard) (unsaved_over_others (left_by of_gauge a) raw tick t master))

  -- THE EEPROM: either block that is locked
  pub locked_label_stays : a.ran.state.loaded ≡ true → (left_by of_gauge a).common.bl0 ≡ true
      → (left_by of_gauge b).label.eeprom ≡ (left_by of_gauge a).label.eeprom
  locked_label_stays loaded locked = session_eeprom.locked block0 n a b w stopped loaded locked

  pub locked_block_stays : a.ran.state.loaded ≡ true → (left_by of_gauge a).meter.cells.locks.bl1 ≡ true
      → (left_by of_gauge b).meter.cells.block.eeprom ≡ (left_by of_gauge a).meter.cells.block.eeprom
  locked_block_stays loaded locked = session_eeprom.locked block1 n a b w stopped loaded locked

-- ONE RECORD AT A TIME: with just 256 bytes of room for each
pub lines_in_256_each : (σ : Session) (rs : List Rec) → lines_after did_of σ (256 * length rs) rs ≡ lines_after (own_room 256 did_of) σ 256 rs
lines_in_256_each σ rs = sessions_stepwise.roomy_lines σ (256 * length rs) rs (omega arith)

pub tray_lines_in_256_each : (τ : Tray) (rs : List Rec) → lines_after tray_did τ (256 * length rs) rs ≡ lines_after (own_room 256 tray_did) τ 256 rs
tray_lines_in_256_each τ rs = trays_stepwise.roomy_lines τ (256 * length rs) rs (omega arith)

-- A TRAY OF ONE PACK: with bytes up to 255
pub alike_up_to_255 : (c : Call Session) (d : Call Tray) → Translated c d → UpTo255 c.bytes → one_image (lines_in did_of empty_of c) ≡ true → AnswersAlike c d
alike_up_to_255 c d translated bytes once = single_as_plain.alike c d translated (λ i. omega (arith, bytes i)) once
