-- A gauge that stands among bytes: where other parts are written over its own, it became a gauge with these parts.
use mathlib.Core.Path.{◌≡◌, refl, sym, ap, subst, ◌∙◌}
use mathlib.Core.Bool.{Bool, true, false}
use mathlib.Core.List.{List, ◌++◌}
use Prim.Native.Nat.{ℕ, ◌+◌, ◌-◌, min}
use native.Mathlib.Omega.{arith}
use lib.ListN.{length, get_or, drop}
use Rattle.numbers.specs.Choice.{both}
use Rattle.slices.specs.Slices.{part, put, Stored}
use Rattle.slices.proofs.Laws.{put_length, put_next, put_there, put_second, part_behind}
use Rattle.bus.specs.declared.Command.TheVariants.{Read, Write, Copy, Recall, Lock, Nothing}
use Rattle.bus.specs.declared.Transaction.{Transaction}
use Rattle.state.specs.declared.Common.{Common}
use Rattle.state.specs.declared.Label.{Label}
use Rattle.state.specs.declared.Meter.{Meter}
use Rattle.state.specs.State.{MeterWf, restarted_of}
use Rattle.conversion.specs.Conversion.{convert_of}
use Rattle.reading.specs.Reading.{read_of}
use Rattle.samples.specs.Samples.{sample_of}
use Rattle.label.specs.Label.{label_written_of, label_copied_of, label_powered_of, label_recalled_of, common_locked_of}
use Rattle.block1.specs.Block1.{meter_written_of, meter_copied_of, meter_recalled_of, meter_locked_of}
use Rattle.replies.specs.Reply.{selected_of, replied_of}
use Rattle.record.specs.declared.Change.{Change}
use Rattle.record.specs.declared.Change.TheVariants.{Reading, Conversion, Sample, PowerOn}
use Rattle.gauge.specs.declared.Gauge.{Gauge}
use Rattle.gauge.specs.Gauge.{with_parts, with_meter, conversion_of, sampling_of, reading_of, power_on_of, written_of, copied_of, recalled_of, locked_of}
use Rattle.gauge.specs.Change.{changed_of}
use Rattle.gauge.specs.Act.{can_change, ran_of, act_of, reply_of}
use Rattle.gauge.proofs.Acting.{ran_by_lem, bytes_after, acts, replies, act_idle}
use Rattle.state_bytes.specs.Layout.{flag_in}
use Rattle.state_bytes.specs.State.{label_layout, common_layout, meter_layout, gauge_layout}
use Rattle.state_bytes.specs.Places.{gauge_at, with_common, Placed, Became}
use Rattle.state_bytes.proofs.Laws.{part_both}
use Rattle.state_bytes.proofs.Plain as exact

-- ---- what it became, said otherwise

pub became_as : {s after : List ℕ} {i : ℕ} {g h : Gauge} → Became s i g after → g ≡ h → Became s i h after
became_as {s} {after} {i} b e = subst (λ (x : Gauge). Became s i x after) e b

-- ---- the parts of a gauge

module _ {s : List ℕ} {i : ℕ} (p : Placed s i) where
  abbrev own : Gauge
  own = gauge_at s i

  label_long : length (label_layout.out own.label) ≡ 32
  unfolding gauge_at
  label_long = (exact.label).long s i (omega (arith, p.inside))

  common_long : length (common_layout.out own.common) ≡ 9
  unfolding gauge_at
  common_long = (exact.common).long s (i + 32) (omega (arith, p.inside))

  behind_label : (part 32 s i ≡ label_layout.out own.label)
      × (part 138 s (i + 32) ≡ common_layout.out own.common ++ meter_layout.out own.meter)
  behind_label = part_both 32 138 s i _ _ label_long p.whole

  common_there : part 9 s (i + 32) ≡ common_layout.out own.common
  common_there = (part_both 9 129 s (i + 32) _ (meter_layout.out own.meter) common_long behind_label.1).0

  module _ {m : Meter} {after : List ℕ} (wf : MeterWf m) where
    -- its meter was written
    pub meter_became : Stored 129 (meter_layout.out m) s (i + 32 + 9) after → Became s i (with_meter own m) after
    meter_became e = record {
      written =
          e.written
          ∙ put_second s (i + 32) 9 (common_layout.out own.common) (meter_layout.out m) common_long common_there (omega (arith, p.inside))
          ∙ put_second s i 32 (label_layout.out own.label) _ label_long behind_label.0 (omega (arith, p.inside));
      wf = record { meter = wf };
    }

    -- its label and its meter
    pub parts_became : {l : Label} {between : List ℕ} → Stored 32 (label_layout.out l) s i between
        → Stored 129 (meter_layout.out m) between (i + 32 + 9) after → Became s i (with_parts own l m) after
    parts_became {l} {between} el em =
        let there : part 9 between (i + 32) ≡ common_layout.out own.common =
        ap (λ (b : List ℕ). part 9 b (i + 32)) el.written
        ∙ part_behind s i 32 9 (label_layout.out l) el.sized (omega (arith, p.inside)) ∙ common_there in
        let long : length between ≡ length s = ap length el.written ∙ put_length s i (label_layout.out l) in
        record {
          written =
              em.written
              ∙ put_second between (i + 32) 9 (common_layout.out own.common) (meter_layout.out m) common_long there (omega (arith, p.inside, long))
              ∙ ap (λ (b : List ℕ). put b (i + 32) (common_layout.out own.common ++ meter_layout.out m)) el.written
              ∙ put_next s i (i + 32) (label_layout.out l) _ (omega (arith, el.sized));
          wf = record { meter = wf };
        }

    -- its common part and its meter
    pub locks_became : {c : Common} {between : List ℕ} → Stored 9 (common_layout.out c) s (i + 32) between
        → Stored 129 (meter_layout.out m) between (i + 32 + 9) after → Became s i (with_common own c m) after
    locks_became {c} ec em = record {
      written =
          em.written
          ∙ ap (λ (b : List ℕ). put b (i + 32 + 9) (meter_layout.out m)) ec.written
          ∙ put_next s (i + 32) (i + 32 + 9) (common_layout.out c) (meter_layout.out m) (omega (arith, ec.sized))
          ∙ put_second s i 32 (label_layout.out own.label) _ label_long behind_label.0 (omega (arith, p.inside));
      wf = record { meter = wf };
    }

  -- nothing was written
  pub stays : Became s i own s
  stays = record { written = sym (put_there s i 170 (gauge_layout.out own) p.whole p.inside); wf = p.wf }

  -- ---- by the functions of its parts, on what was read

  -- the meter, as it was read, is well-formed
  pub meter_good : {m : Meter} → m ≡ meter_layout.at s (i + 32 + 9) → MeterWf m
  unfolding gauge_at
  meter_good e = subst MeterWf (sym e) p.wf.meter

  module _ {m next : Meter} {after : List ℕ} (em : m ≡ meter_layout.at s (i + 32 + 9)) where
    -- a function of the meter alone
    meter_by : (M : Meter → Meter) → next ≡ M m → MeterWf next → Stored 129 (meter_layout.out next) s (i + 32 + 9) after
        → Became s i (with_meter own (M own.meter)) after
    unfolding gauge_at
    meter_by M en wf out =
        let is : next ≡ M own.meter = en ∙ ap M em in
        subst (λ (x : Meter). Became s i (with_meter own x) after) is (meter_became wf out)

    pub reading_became : (volt temp : ℕ) → next ≡ read_of m volt temp → MeterWf next → Stored 129 (meter_layout.out next) s (i + 32 + 9) after
        → Became s i (reading_of own volt temp) after
    unfolding reading_of
    reading_became volt temp = meter_by (λ (x : Meter). read_of x volt temp)

    pub conversion_became : (raw : ℕ) → next ≡ convert_of m raw → MeterWf next → Stored 129 (meter_layout.out next) s (i + 32 + 9) after
        → Became s i (conversion_of own raw) after
    unfolding conversion_of
    conversion_became raw = meter_by (λ (x : Meter). convert_of x raw)

    pub sample_became : (raw tick : ℕ) → next ≡ sample_of m raw tick → MeterWf next → Stored 129 (meter_layout.out next) s (i + 32 + 9) after
        → Became s i (sampling_of own raw tick) after
    unfolding sampling_of
    sample_became raw tick = meter_by (λ (x : Meter). sample_of x raw tick)

  -- another label and another meter
  module _ {l label : Label} {m meter : Meter} {after : List ℕ} (el : l ≡ label_layout.at s i) (em : m ≡ meter_layout.at s (i + 32 + 9))
      (b : Became s i (with_parts own label meter) after) where
    parts_by : (L : Label → Label) (M : Meter → Meter) → label ≡ L l → meter ≡ M m → Became s i (with_parts own (L own.label) (M own.meter)) after
    unfolding gauge_at
    parts_by L M ll mm =
        subst (λ (x : Label × Meter). Became s i (with_parts own x.0 x.1) after) (λ k. ((ll ∙ ap L el) k, (mm ∙ ap M em) k)) b

    pub power_became : label ≡ label_powered_of l → meter ≡ restarted_of m → Became s i (power_on_of own) after
    unfolding power_on_of
    power_became = parts_by label_powered_of restarted_of

    pub recall_became : (a : ℕ) → label ≡ label_recalled_of l a → meter ≡ meter_recalled_of m a → Became s i (recalled_of own a) after
    unfolding recalled_of
    recall_became a = parts_by (λ (x : Label). label_recalled_of x a) (λ (x : Meter). meter_recalled_of x a)

    module _ {bl0 : Bool} (eb : bl0 ≡ flag_in (get_or s (i + 32 + 8) 0)) where
      locked_is : bl0 ≡ own.common.bl0
      unfolding gauge_at
      locked_is = eb

      pub write_became : (a : ℕ) (bytes : List ℕ) → label ≡ label_written_of l bl0 a bytes → meter ≡ meter_written_of m a bytes
          → Became s i (written_of own a bytes) after
      unfolding written_of
      write_became a bytes ll =
          parts_by (λ (x : Label). label_written_of x own.common.bl0 a bytes) (λ (x : Meter). meter_written_of x a bytes)
          (ll ∙ ap (λ (b : Bool). label_written_of l b a bytes) locked_is)

      pub copy_became : (a : ℕ) → label ≡ label_copied_of l bl0 a → meter ≡ meter_copied_of m a → Became s i (copied_of own a) after
      unfolding copied_of
      copy_became a ll =
          parts_by (λ (x : Label). label_copied_of x own.common.bl0 a) (λ (x : Meter). meter_copied_of x a)
          (ll ∙ ap (λ (b : Bool). label_copied_of l b a) locked_is)

  -- another common part and another meter
  pub lock_became : (a : ℕ) {c common : Common} {m meter : Meter} {after : List ℕ} → c ≡ common_layout.at s (i + 32) → m ≡ meter_layout.at s (i + 32 + 9)
      → common ≡ common_locked_of c m.cells.locks.lock a → meter ≡ meter_locked_of m a → Became s i (with_common own common meter) after
      → Became s i (locked_of own a) after
  unfolding gauge_at locked_of
  lock_became a {after = after} ec em cc' mm b =
      let common = cc' ∙ (λ k. common_locked_of (ec k) (em k).cells.locks.lock a) in
      let meter = mm ∙ ap (λ (x : Meter). meter_locked_of x a) em in
      subst (λ (x : Common × Meter). Became s i (with_common own x.0 x.1) after) (λ k. (common k, meter k)) b

  -- the reply, by its parts
  pub parts_reply : (chosen : Bool) (t : Transaction) (room : List ℕ) {c : Common} {l : Label} {m : Meter} {after : List ℕ}
      → c ≡ common_layout.at s (i + 32) → l ≡ label_layout.at s i → m ≡ meter_layout.at s (i + 32 + 9)
      → after ≡ replied_of chosen c l m t ++ drop t.count room
      → after ≡ replied_of chosen own.common own.label own.meter t ++ drop t.count room
  unfolding gauge_at
  parts_reply chosen t room ec el em e = e ∙ (λ k. replied_of chosen (ec k) (el k) (em k) t ++ drop t.count room)

-- ---- a change, by its kind

module _ {s after : List ℕ} {i : ℕ} (g : Gauge) where
  pub changed_reading : {change : Change} {volt temp : ℕ} → change ≡ Reading volt temp → Became s i (reading_of g volt temp) after
      → Became s i (changed_of g change) after
  changed_reading e b = became_as b (ap (changed_of g) (sym e))

  pub changed_conversion : {change : Change} {raw : ℕ} → change ≡ Conversion raw → Became s i (conversion_of g raw) after →
      Became s i (changed_of g change) after
  changed_conversion e b = became_as b (ap (changed_of g) (sym e))

  pub changed_sample : {change : Change} {raw tick : ℕ} → change ≡ Sample raw tick → Became s i (sampling_of g raw tick) after
      → Became s i (changed_of g change) after
  changed_sample e b = became_as b (ap (changed_of g) (sym e))

  pub changed_power : {change : Change} → change ≡ PowerOn → Became s i (power_on_of g) after → Became s i (changed_of g change) after
  changed_power e b = became_as b (ap (changed_of g) (sym e))

-- ---- a function command that is run, by its kind

module _ {s : List ℕ} {i : ℕ} (t : Transaction) (master : List ℕ) where
  module _ {a : ℕ} (ea : a ≡ t.address) where
    pub ran_read : Placed s i → t.command ≡ Read → Became s i (ran_of (gauge_at s i) t master) s
    ran_read p e = became_as (stays p) (ran_by_lem Read _ _ t master a e ea refl)

    pub ran_nothing : Placed s i → t.command ≡ Nothing → Became s i (ran_of (gauge_at s i) t master) s
    ran_nothing p e = became_as (stays p) (ran_by_lem Nothing _ _ t master a e ea refl)

    module _ {after : List ℕ} where
      pub ran_write : {from n : ℕ} → t.command ≡ Write → from ≡ t.from → n ≡ min from (length master)
          → Became s i (written_of (gauge_at s i) a (part (length master - n) master n)) after → Became s i (ran_of (gauge_at s i) t master) after
      ran_write {from} {n} e ef en b =
          became_as b (ran_by_lem Write (gauge_at s i) _ t master a e ea (ap (written_of (gauge_at s i) a) (bytes_after master from t.from n ef en)))

      pub ran_copy : t.command ≡ Copy → Became s i (copied_of (gauge_at s i) a) after → Became s i (ran_of (gauge_at s i) t master) after
      ran_copy e b = became_as b (ran_by_lem Copy _ _ t master a e ea refl)

      pub ran_recall : t.command ≡ Recall → Became s i (recalled_of (gauge_at s i) a) after → Became s i (ran_of (gauge_at s i) t master) after
      ran_recall e b = became_as b (ran_by_lem Recall _ _ t master a e ea refl)

      pub ran_lock : t.command ≡ Lock → Became s i (locked_of (gauge_at s i) a) after → Became s i (ran_of (gauge_at s i) t master) after
      ran_lock e b = became_as b (ran_by_lem Lock _ _ t master a e ea refl)

-- ---- a transaction, by whether the gauge of a session is selected

module _ (s : List ℕ) (t : Transaction) (master : List ℕ) {address : List ℕ} {chosen : Bool} (ea : address ≡ part 8 s 34)
    (ec : chosen ≡ selected_of address t master) where
  chosen_is : chosen ≡ selected_of (gauge_at s 2).common.address t master
  unfolding gauge_at
  chosen_is = ec ∙ ap (λ (x : List ℕ). selected_of x t master) ea

  pub reply_is : (room : List ℕ) {after : List ℕ}
      → after ≡ replied_of chosen (gauge_at s 2).common (gauge_at s 2).label (gauge_at s 2).meter t ++ drop t.count room
      → after ≡ reply_of (gauge_at s 2) t master ++ drop t.count room
  reply_is room = replies (gauge_at s 2) t master room chosen_is

  pub unchosen_became : chosen ≡ false → Placed s 2 → Became s 2 (act_of (gauge_at s 2) t master) s
  unchosen_became e p =
      became_as (stays p) (sym (act_idle (gauge_at s 2) t master (ap (λ (b : Bool). both b (can_change t.command)) (sym chosen_is ∙ e))))

  module _ {can : Bool} (et : can ≡ can_change t.command) where
    tested : {b : Bool} → chosen ≡ true → can ≡ b → both (selected_of (gauge_at s 2).common.address t master) (can_change t.command) ≡ b
    tested h e = λ k. both ((sym chosen_is ∙ h) k) ((sym et ∙ e) k)

    pub act_became : {after : List ℕ} → chosen ≡ true → can ≡ true → Became s 2 (ran_of (gauge_at s 2) t master) after
        → Became s 2 (act_of (gauge_at s 2) t master) after
    act_became h e b = became_as b (acts (gauge_at s 2) t master (tested h e))

    pub idle_became : chosen ≡ true → can ≡ false → Placed s 2 → Became s 2 (act_of (gauge_at s 2) t master) s
    idle_became h e p = became_as (stays p) (sym (act_idle (gauge_at s 2) t master (tested h e)))
