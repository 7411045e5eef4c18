-- A label event is a function of the common part and the label, and keeps the meter; a gauge event is one of the common part and the meter,
-- and keeps the label.
use mathlib.Core.Path.{◌≡◌, refl, ap, ◌∙◌}
use mathlib.Core.Bool.{Bool, true, false}
use mathlib.Core.List.{List, [], ◌∷◌}
use Prim.Native.Nat.{ℕ, zero, suc, ◌+◌, ◌≤◌, ◌<◌}
use native.Mathlib.Omega.{arith}
use lib.Dec.{eqb}
use lib.ListN.{length, drop}
use Rattle.std.specs.Prelude.{Ok, Err}
use Rattle.numbers.specs.Choice.{pick, either}
use Rattle.state.specs.declared.Meter.{Meter}
use Rattle.params.specs.Params.{rnaop_of}
use Rattle.conversion.specs.Conversion.{convert_of}
use Rattle.reading.specs.Reading.{read_of}
use Rattle.samples.specs.Samples.{sample_of}
use Rattle.state.specs.State.{timely_of}
use Rattle.state.specs.declared.Common.{Common}
use Rattle.state.specs.declared.Label.{Label}
use Rattle.label.specs.Label.{in_label, label_byte, label_written_of, label_copied_of, label_recalled_of}
use Rattle.label.proofs.Addresses.{label_no_block}
use Rattle.label.proofs.Kept.{label_written_elsewhere, label_copied_elsewhere, label_recalled_elsewhere, common_locked_elsewhere}
use Rattle.registers.specs.Registers.{meter_byte}
use Rattle.block1.specs.Block1.{meter_written_of, meter_copied_of, meter_recalled_of, meter_locked_of}
use Rattle.block1.proofs.Kept.{written_elsewhere, copied_elsewhere, recalled_elsewhere}
use Rattle.bus.specs.declared.Rom.{Rom}
use Rattle.bus.specs.declared.Rom.TheVariants.{Net33, Net39, Skip, Match, Quiet}
use Rattle.bus.specs.declared.Command.{Command}
use Rattle.bus.specs.declared.Command.TheVariants.{Read, Write, Copy, Recall, Lock, Nothing}
use Rattle.bus.specs.declared.Transaction.{Transaction}
use Rattle.gauge.specs.declared.Gauge.{Gauge}
use Rattle.replies.specs.declared.Source.{Source}
use Rattle.replies.specs.declared.Source.TheVariants.{Address, Bytes, Idle}
use Rattle.gauge.specs.Gauge.{conversion_of, sampling_of, reading_of, written_of, copied_of, recalled_of, locked_of}
use Rattle.replies.specs.Reply.{read_byte, net_byte, selected_of, read_source_of, net_source_of, source_byte, listed}
use Rattle.gauge.specs.Act.{ran_by, ran_of, act_of, reply_of}
use Rattle.record.specs.declared.Change.{Change}
use Rattle.record.specs.declared.Change.TheVariants as change
use Rattle.record.specs.declared.Event.TheVariants.{Image, Change as Changed, Transact}
use Rattle.record.specs.declared.Refusal.TheVariants.{Interval}
use Rattle.runs.specs.Record.{Rec, whole, cut}
use Rattle.runs.specs.Run.{Did}
use Rattle.runs.specs.declared.Session.{Session}
use Rattle.runs.specs.SessionRecord.{loaded_with, taken_did}
use Rattle.record.specs.Record.{refusal_number, master_of, taken_of, Taken}
use Rattle.demands.specs.Sections.{Class, labelling, gauging, fence}
use Rattle.demands.specs.Class.{touched_by, touched_of, touched_class, change_class, taken_class, class_of}
use Rattle.demands.proofs.Choice.{contrary, pick_of}
use Rattle.demands.proofs.Touched.{RunsIn, class_labels, class_gauges, runs_label, runs_meter, runs_within, runs_beside, block_label, block_meter}
use Rattle.demands.proofs.Room.{timed_did, free_of}

-- The form, of either part

abbrev pub after : Gauge → ℕ → List ℕ → Did Session
after g answer reply = record { state = loaded_with g; answer = answer; reply = reply }

-- the bytes of a reply, by where they come from
abbrev bytes_from : Gauge → Source → ℕ → ℕ
bytes_from g = source_byte g.common g.label g.meter

-- x is the part that an event goes by and changes; y is the other, which it keeps and does not look at
pub record Form {A B : Type 0} (make : A → B → Gauge) (x : A) (f : Gauge → Did Session) : Type 0 where
  pub part : A
  pub answer : ℕ
  pub reply : List ℕ
  pub form : (y : B) → f (make x y) ≡ after (make part y) answer reply

-- how a part is read, at the addresses a with in_label a ≡ side
record Part {A B : Type 0} (make : A → B → Gauge) : Type 0 where
  side : Bool
  byte : A → ℕ → ℕ
  reads : (x : A) (y : B) (a : ℕ) → in_label a ≡ side → read_byte (make x y).common (make x y).label (make x y).meter a ≡ byte x a

-- values of two functions that agree from i on
listed_same : (f g : ℕ → ℕ) (i n : ℕ) → ((j : ℕ) → i ≤ j → j < i + n → f j ≡ g j) → listed f i n ≡ listed g i n
listed_same f g i zero e = refl
listed_same f g i (suc n) e =
    rw (e i (omega arith) (omega arith))
    (ap (λ (l : List ℕ). g i ∷ l) (listed_same f g (i + 1) n (λ j low high. e j (omega arith) (omega arith))))

module _ {A B : Type 0} {make : A → B → Gauge} where
  same_form : {x : A} {f k : Gauge → Did Session} → ((y : B) → f (make x y) ≡ k (make x y)) → Form make x k → Form make x f
  same_form e h = record { part = h.part; answer = h.answer; reply = h.reply; form = λ y. e y ∙ h.form y }

  -- a command that replies FFh
  idle_form : {x : A} (n : ℕ) (f : Gauge → Gauge) (part : A) → ((y : B) → f (make x y) ≡ make part y)
      → Form make x (λ g. after (f g) 0 (listed (bytes_from g Idle) 0 n))
  unfolding source_byte
  idle_form n f part e = record { part = part; answer = 0; reply = listed (λ i. 0xff) 0 n; form = λ y. rw (e y) refl }

  read_form : (p : Part make) (x : A) (a n : ℕ) → RunsIn p.side a n → Form make x (λ g. after g 0 (listed (bytes_from g (Bytes a)) 0 n))
  unfolding source_byte
  read_form p x a n e = record {
    part = x;
    answer = 0;
    reply = listed (λ i. p.byte x (a + i)) 0 n;
    form = λ y. ap (after (make x y) 0) (listed_same _ _ 0 n (λ j low high. p.reads x y (a + j) (e (a + j) (omega arith) (omega arith))));
  }

-- A transaction, by whether it is selected and by its command

abbrev asked : Bool → Command → Rom → ℕ → ℕ → List ℕ → Gauge → Did Session
asked selected command rom a n bytes g =
    after (pick selected (ran_by command g a bytes) g) 0
    (listed (bytes_from g (pick selected (read_source_of command a) (net_source_of rom (rnaop_of g.meter.cells.block.shadow)))) 0 n)

asked_is : (g : Gauge) (p : List ℕ) (t : Transaction)
    → taken_did (loaded_with g) p (Ok (Transact t))
    ≡ asked (selected_of g.common.address t (master_of t p)) t.command t.rom t.address t.count (drop t.from (master_of t p)) g
unfolding act_of ran_of reply_of
asked_is g p t = refl

module _ (c : Common) where
  abbrev pub labelled : Label → Meter → Gauge
  labelled l m = record { common = c; label = l; meter = m }

  abbrev pub metered : Meter → Label → Gauge
  metered m l = record { common = c; label = l; meter = m }

  label_part : Part labelled
  unfolding read_byte
  label_part = record { side = true; byte = label_byte; reads = λ l m a e. rw e refl }

  meter_part : Part metered
  unfolding read_byte
  meter_part = record { side = false; byte = meter_byte c; reads = λ m l a e. rw e refl }

  label_asked : (l : Label) (selected : Bool) (command : Command) (rom : Rom) (a n : ℕ) (bytes : List ℕ)
      → touched_class command (pick selected (touched_by command a n (length bytes)) []) ≡ labelling
      → Form labelled l (asked selected command rom a n bytes)
  unfolding written_of copied_of recalled_of label_part
  label_asked l false command rom a n bytes e = let h = (class_labels command [] e).some in contrary cc
  label_asked l true Read rom a n bytes e =
      let h = class_labels Read _ e in
      read_form label_part l a n (runs_label a n h.some h.all)
  label_asked l true Write rom a n bytes e =
      let h = class_labels Write _ e in
      let w = runs_within a (length bytes) h.some (runs_label a (length bytes) h.some h.all) in
      idle_form n (λ g. written_of g a bytes) (label_written_of l c.bl0 a bytes) (λ m. rw (written_elsewhere m a bytes w.0 w.1) refl)
  label_asked l true Copy rom a n bytes e =
      let h = class_labels Copy _ e in
      let b = label_no_block a (block_label a h.some h.all) in
      idle_form n (λ g. copied_of g a) (label_copied_of l c.bl0 a) (λ m. rw (copied_elsewhere m a b) refl)
  label_asked l true Recall rom a n bytes e =
      let h = class_labels Recall _ e in
      let b = label_no_block a (block_label a h.some h.all) in
      idle_form n (λ g. recalled_of g a) (label_recalled_of l a) (λ m. rw (recalled_elsewhere m a b) refl)
  label_asked l true Lock rom a n bytes e = let h = (class_labels Lock _ e).no_lock in contrary cc
  label_asked l true Nothing rom a n bytes e = let h = (class_labels Nothing [] e).some in contrary cc

  -- nothing is selected: the net address, or FFh

  abbrev Replies : Meter → ℕ → Source → Type 0
  Replies m n source = Form metered m (λ g. after g 0 (listed (bytes_from g source) 0 n))

  address_form : (m : Meter) (n : ℕ) → Replies m n Address
  unfolding source_byte
  address_form m n =
      record { part = m; answer = 0; reply = listed (net_byte c.address) 0 n; form = λ l. refl }

  quiet_form : (m : Meter) (n : ℕ) → Replies m n Idle
  quiet_form m n = idle_form n (λ g. g) m (λ l. refl)

  net_form : (m : Meter) (rom : Rom) (rnaop : Bool) (n : ℕ) → Replies m n (net_source_of rom rnaop)
  net_form m Net33 rnaop n = pick_of (Replies m n) rnaop Idle Address (quiet_form m n) (address_form m n)
  net_form m Net39 rnaop n = pick_of (Replies m n) rnaop Address Idle (address_form m n) (quiet_form m n)
  net_form m Skip rnaop n = quiet_form m n
  net_form m Match rnaop n = quiet_form m n
  net_form m Quiet rnaop n = quiet_form m n

  gauge_asked : (m : Meter) (selected : Bool) (command : Command) (rom : Rom) (a n : ℕ) (bytes : List ℕ)
      → touched_class command (pick selected (touched_by command a n (length bytes)) []) ≡ gauging
      → Form metered m (asked selected command rom a n bytes)
  unfolding written_of copied_of recalled_of locked_of meter_part
  gauge_asked m false command rom a n bytes e = same_form (λ l. refl) (net_form m rom (rnaop_of m.cells.block.shadow) n)
  gauge_asked m true Read rom a n bytes e = read_form meter_part m a n (runs_meter a n (class_gauges Read _ e))
  gauge_asked m true Write rom a n bytes e =
      let h = runs_beside a (length bytes) (runs_meter a (length bytes) (class_gauges Write _ e)) in
      idle_form n (λ g. written_of g a bytes) (meter_written_of m a bytes) (λ l. rw (label_written_elsewhere l c.bl0 a bytes h) refl)
  gauge_asked m true Copy rom a n bytes e =
      let h = block_meter a (class_gauges Copy _ e) in
      idle_form n (λ g. copied_of g a) (meter_copied_of m a) (λ l. rw (label_copied_elsewhere l c.bl0 a h) refl)
  gauge_asked m true Recall rom a n bytes e =
      let h = block_meter a (class_gauges Recall _ e) in
      idle_form n (λ g. recalled_of g a) (meter_recalled_of m a) (λ l. rw (label_recalled_elsewhere l a h) refl)
  gauge_asked m true Lock rom a n bytes e =
      let h = block_meter a (class_gauges Lock _ e) in
      idle_form n (λ g. locked_of g a) (meter_locked_of m a) (λ l. rw (common_locked_elsewhere c m.cells.locks.lock a h) refl)
  gauge_asked m true Nothing rom a n bytes e = quiet_form m n

-- A record, of a class that is judged by the gauge's own address

module _ (c : Common) where
  transact_class : {k : Class} (p : List ℕ) (t : Transaction) → taken_class (selected_of c.address) p (Ok (Transact t)) ≡ k
      → touched_class t.command
      (pick (selected_of c.address t (master_of t p)) (touched_by t.command t.address t.count (length (drop t.from (master_of t p)))) [])
      ≡ k
  unfolding touched_of
  transact_class p t e = e

  no_label : {A : Type 0} (x : Change) → change_class x ≡ labelling → A
  no_label (change.Reading volt temp) e = contrary cc
  no_label (change.Conversion raw) e = contrary cc
  no_label (change.Sample raw tick) e = contrary cc
  no_label change.PowerOn e = contrary cc

  pub label_taken : (l : Label) (p : List ℕ) (t : Taken) → taken_class (selected_of c.address) p t ≡ labelling
      → Form (labelled c) l (timed_did p t)
  label_taken l p (Ok (Image f)) e = contrary cc
  label_taken l p (Ok (Changed x)) e = no_label x e
  label_taken l p (Ok (Transact t)) e =
      same_form (λ m. asked_is (labelled c l m) p t)
      (label_asked c l (selected_of c.address t (master_of t p)) t.command t.rom t.address t.count _ (transact_class p t e))
  label_taken l p (Err r) e = refused (either (eqb (refusal_number r) 3) (either (eqb (refusal_number r) 4) (eqb (refusal_number r) 8))) e
    where
      refused : {A : Type 0} (t : Bool) → pick t gauging fence ≡ labelling → A
      refused true f = contrary cc
      refused false f = contrary cc

  -- a sample: the tick is the meter's
  sample_form : (m : Meter) (p : List ℕ) (raw tick : ℕ) (timely : Bool)
      → Form (metered c) m (λ g. taken_did (loaded_with g) p (pick timely (Ok (Changed (change.Sample raw tick))) (Err Interval)))
  unfolding sampling_of
  sample_form m p raw tick true = record { part = sample_of m raw tick; answer = 0; reply = []; form = λ l. refl }
  sample_form m p raw tick false = record { part = m; answer = refusal_number Interval; reply = []; form = λ l. refl }

  change_form : (m : Meter) (p : List ℕ) (x : Change) → change_class x ≡ gauging → Form (metered c) m (timed_did p (Ok (Changed x)))
  unfolding reading_of conversion_of
  change_form m p (change.Reading volt temp) e = record { part = read_of m volt temp; answer = 0; reply = []; form = λ l. refl }
  change_form m p (change.Conversion raw) e = record { part = convert_of m raw; answer = 0; reply = []; form = λ l. refl }
  change_form m p (change.Sample raw tick) e = same_form (λ l. refl) (sample_form m p raw tick (timely_of m.flow.tick tick))
  change_form m p change.PowerOn e = contrary cc

  pub gauge_taken : (m : Meter) (p : List ℕ) (t : Taken) → taken_class (selected_of c.address) p t ≡ gauging
      → Form (metered c) m (timed_did p t)
  gauge_taken m p (Ok (Image f)) e = contrary cc
  gauge_taken m p (Ok (Changed x)) e = change_form m p x e
  gauge_taken m p (Ok (Transact t)) e =
      same_form (λ l. asked_is (metered c m l) p t)
      (gauge_asked c m (selected_of c.address t (master_of t p)) t.command t.rom t.address t.count _ (transact_class p t e))
  gauge_taken m p (Err r) e = record { part = m; answer = refusal_number r; reply = []; form = λ l. refl }

  -- a cut record is a fence
  free_form : {A B : Type 0} {make : A → B → Gauge} {x : A} (k : Class) → (fence ≡ k → ⊥)
      → ((p : List ℕ) (t : Taken) → taken_class (selected_of c.address) p t ≡ k → Form make x (timed_did p t))
      → (r : Rec) → class_of c.address r ≡ k → Form make x (λ g. free_of g r)
  free_form k none taken (whole kind p) e = taken p (taken_of kind true p) e
  free_form k none taken cut e = absurd (none e)

  pub label_form : (l : Label) (r : Rec) → class_of c.address r ≡ labelling → Form (labelled c) l (λ g. free_of g r)
  label_form l = free_form labelling (λ e. contrary cc) (label_taken l)

  pub gauge_form : (m : Meter) (r : Rec) → class_of c.address r ≡ gauging → Form (metered c) m (λ g. free_of g r)
  gauge_form m = free_form gauging (λ e. contrary cc) (gauge_taken m)
