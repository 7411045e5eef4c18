-- Every byte that a gauge can be read by is below 256, where each byte that came in is.
use mathlib.Core.Path.{sym, subst}
use mathlib.Core.Bool.{Bool}
use mathlib.Core.List.{List, [], ◌∷◌, ◌++◌}
use Prim.Native.Nat.{ℕ, zero, suc, ◌+◌, ◌-◌, ◌*◌, ◌/◌, ◌%◌, ◌≤◌, ◌<◌, min}
use native.Mathlib.Omega.{arith}
use lib.Dec.{ltb}
use lib.ListN.{get_or, take, drop, set, replicate}
use Rattle.numbers.specs.Choice.{pick, both, but_not}
use Rattle.numbers.specs.Offset.{joined_of}
use Rattle.numbers.proofs.Bounds.{times, picked}
use Rattle.slices.specs.Slices.{part, put, laid_of}
use Rattle.params.specs.Params.{limits_of, counting_of, capacity_of, curves_of}
use Rattle.state.specs.declared.Profile.{Profile}
use Rattle.state.specs.declared.Charge.{Charge}
use Rattle.state.specs.declared.Cycles.{Cycles}
use Rattle.state.specs.declared.Cells.{Cells}
use Rattle.state.specs.declared.Block.{Block}
use Rattle.state.specs.declared.Common.{Common}
use Rattle.state.specs.declared.Label.{Label}
use Rattle.state.specs.declared.Meter.{Meter}
use Rattle.state.specs.declared.Shown.{Shown}
use Rattle.state.specs.State.{counts_cycles, elapsed_of, acr_of, ChargeWf, powered_of}
use Rattle.state.proofs.Laws.{power_wf}
use Rattle.conversion.specs.Conversion.{cycled_of, flowed_of, convert_of, charge_in, corrects_full}
use Rattle.conversion.proofs.ChargeLaws.{set_wf, marked_wf, counted_wf}
use Rattle.conversion.proofs.FullLaws.{settled_wf}
use Rattle.conversion.proofs.Corrections.{converted_charge}
use Rattle.reading.specs.Reading.{saves_of, model_lines, seen_of, left_of, percent_of, amount_of, results_of, rated_of, kept_of, results_shown, read_of}
use Rattle.reading.proofs.Laws.{seen_wf, drained_wf}
use Rattle.samples.specs.Samples.{ticked_of, sampled_of, sample_of}
use Rattle.label.specs.Label.{in_label, in_block, label_byte, label_written_of, label_copied_of, label_recalled_of, common_locked_of}
use Rattle.registers.specs.Registers.{word_of, flag_of, status_of, cycle_byte, eeprom_of, volt_register, temp_register, acrl_register, registers_of, meter_byte}
use Rattle.block1.specs.Block1.{reaches_of, acr_written_of, cycles_written_of, block_written_of, meter_written_of, block_copied_of, meter_copied_of}
use Rattle.block1.specs.Block1.{block_recalled_of, meter_recalled_of, meter_locked_of}
use Rattle.bus.specs.declared.Command.{Command}
use Rattle.bus.specs.declared.Command.TheVariants.{Read, Write, Copy, Recall, Lock, Nothing}
use Rattle.bus.specs.declared.Transaction.{Transaction}
use Rattle.replies.specs.declared.Source.{Source}
use Rattle.replies.specs.declared.Source.TheVariants as source
use Rattle.replies.specs.Reply.{selected_of, read_byte, source_byte, listed}
use Rattle.record.specs.declared.Change.{Change}
use Rattle.record.specs.declared.Change.TheVariants.{Reading, Conversion, Sample, PowerOn}
use Rattle.gauge.specs.declared.Gauge.{Gauge}
use Rattle.gauge.specs.Gauge.{conversion_of, sampling_of, reading_of, power_on_of, written_of, copied_of, recalled_of, locked_of}
use Rattle.gauge.specs.Change.{changed_of}
use Rattle.gauge.specs.Act.{ran_by, ran_of, act_of, reply_of}
use Rattle.gauge.specs.Image.{image_of}
use Rattle.intel_hex.specs.Theorems.{Bytes}

-- Lists of bytes

pub none_bytes : Bytes []
none_bytes i = omega arith

pub take_bytes : (n : ℕ) (s : List ℕ) → Bytes s → Bytes (take n s)
take_bytes zero s h i = omega arith
take_bytes (suc n) [] h i = omega arith
take_bytes (suc n) (x ∷ s) h zero = h 0
take_bytes (suc n) (x ∷ s) h (suc i) = take_bytes n s (λ j. h (suc j)) i

pub drop_bytes : (n : ℕ) (s : List ℕ) → Bytes s → Bytes (drop n s)
drop_bytes zero s h = h
drop_bytes (suc n) [] h = none_bytes
drop_bytes (suc n) (x ∷ s) h = drop_bytes n s (λ j. h (suc j))

pub append_bytes : (s t : List ℕ) → Bytes s → Bytes t → Bytes (s ++ t)
append_bytes [] t h k i = k i
append_bytes (x ∷ s) t h k zero = h 0
append_bytes (x ∷ s) t h k (suc i) = append_bytes s t (λ j. h (suc j)) k i

part_bytes : (n : ℕ) (s : List ℕ) (at : ℕ) → Bytes s → Bytes (part n s at)
part_bytes n s at h = take_bytes n (drop at s) (drop_bytes at s h)

set_bytes : (l : List ℕ) (i v : ℕ) → Bytes l → v < 256 → Bytes (set l i v)
set_bytes [] i v h low j = none_bytes j
set_bytes (x ∷ l) zero v h low zero = low
set_bytes (x ∷ l) zero v h low (suc j) = h (suc j)
set_bytes (x ∷ l) (suc i) v h low zero = h 0
set_bytes (x ∷ l) (suc i) v h low (suc j) = set_bytes l i v (λ k. h (suc k)) low j

put_bytes : (l : List ℕ) (i : ℕ) (vs : List ℕ) → Bytes l → Bytes vs → Bytes (put l i vs)
put_bytes l i [] h k = h
put_bytes l i (v ∷ vs) h k = put_bytes (set l i v) (suc i) vs (set_bytes l i v h (k 0)) (λ j. k (suc j))

laid_bytes : (low high : ℕ) (array : List ℕ) (a : ℕ) (bytes : List ℕ) → Bytes array → Bytes bytes → Bytes (laid_of low high array a bytes)
unfolding laid_of
laid_bytes low high array a bytes h k =
    let cut = take (high - a) bytes in
    put_bytes array (a - low) (drop (low - a) cut) h (drop_bytes (low - a) cut (take_bytes (high - a) bytes k))

pub replicate_bytes : (n : ℕ) → Bytes (replicate n 0)
replicate_bytes zero i = none_bytes i
replicate_bytes (suc n) zero = omega arith
replicate_bytes (suc n) (suc i) = replicate_bytes n i

listed_bytes : (f : ℕ → ℕ) → ((i : ℕ) → f i < 256) → (i n : ℕ) → Bytes (listed f i n)
listed_bytes f h i zero k = none_bytes k
listed_bytes f h i (suc n) zero = h i
listed_bytes f h i (suc n) (suc k) = listed_bytes f h (i + 1) n k

joined_small : (x y : ℕ) → x < 256 → y < 256 → joined_of x y ≤ 65535
joined_small x y h k = omega arith

-- What a meter shows and counts

record SmallShown (s : Shown) : Type 0 where
  full : s.model.full ≤ 16384
  ae : s.model.ae ≤ 8191
  se : s.model.se ≤ 8191
  rarc : s.results.rarc ≤ 100
  rsrc : s.results.rsrc ≤ 100
  raac : s.results.raac ≤ 65535
  rsac : s.results.rsac ≤ 65535
  volt : s.reading.volt ≤ 1023

record SmallMeter (m : Meter) : Type 0 where
  charge : ChargeWf m.charge
  cycles : m.cycles.count ≤ 255
  shadow : Bytes m.cells.block.shadow
  eeprom : Bytes m.cells.block.eeprom
  acr : m.cells.saved.acr ≤ 65535
  counter : m.cells.saved.cycles ≤ 255
  shown : SmallShown m.shown

pub record SmallGauge (g : Gauge) : Type 0 where
  address : Bytes g.common.address
  label : Bytes g.label.shadow
  label_eeprom : Bytes g.label.eeprom
  meter : SmallMeter g.meter

-- Power-on, and the image

powered_small : (c : Cells) → Bytes c.block.eeprom → c.saved.acr ≤ 65535 → c.saved.cycles ≤ 255 → SmallMeter (powered_of c)
unfolding powered_of
powered_small c h acr counter = record {
  charge = (power_wf c acr).charge;
  cycles = counter;
  shadow = h;
  eeprom = h;
  acr = acr;
  counter = counter;
  shown = record {
    full = omega arith;
    ae = omega arith;
    se = omega arith;
    rarc = omega arith;
    rsrc = omega arith;
    raac = omega arith;
    rsac = omega arith;
    volt = omega arith;
  };
}

pub imaged_small : (f : Profile) (p : List ℕ) → Bytes p → SmallGauge (image_of f p)
unfolding image_of
imaged_small f p h = record {
  address = part_bytes 8 p 0 h;
  label = part_bytes 16 p 8 h;
  label_eeprom = part_bytes 16 p 8 h;
  meter =
      powered_small _ (part_bytes 32 p 24 h) (omega (arith, h 56, h 57))
      (picked (λ (n : ℕ). n ≤ 255) (counts_cycles f) (get_or p 60 0) 0 (λ e. omega (arith, h 60)) (λ e. omega arith));
}

-- A conversion

at_most_255 : (n : ℕ) → min n 255 ≤ 255
at_most_255 n = omega arith

module _ (m : Meter) (s : SmallMeter m) where
  full40_small : (capacity_of m.cells.block.shadow).full40 ≤ 65535
  full40_small = joined_small _ _ (s.shadow 10) (s.shadow 11)

  ac_small : (counting_of m.cells.block.shadow).ac ≤ 65535
  ac_small = joined_small _ _ (s.shadow 2) (s.shadow 3)

  convert_charge : (raw : ℕ) → ChargeWf (convert_of m raw).charge
  convert_charge raw =
      let counted = counted_wf m.cells.profile _ m.charge m.flow.trace.last _ ac_small s.charge in
      subst ChargeWf (sym (converted_charge m raw))
      (settled_wf (charge_in m raw) m.shown.model.full _ counted (corrects_full m raw) s.shown.full (λ e. full40_small))

  convert_cycles : (raw : ℕ) → (convert_of m raw).cycles.count ≤ 255
  unfolding convert_of flowed_of cycled_of
  convert_cycles raw =
      picked (λ (y : Cycles). y.count ≤ 255) (counts_cycles m.cells.profile) _ m.cycles (λ e. at_most_255 _) (λ e. s.cycles)

  convert_small : (raw : ℕ) → SmallMeter (convert_of m raw)
  unfolding convert_of flowed_of
  convert_small raw = record {
    charge = convert_charge raw;
    cycles = convert_cycles raw;
    shadow = s.shadow;
    eeprom = s.eeprom;
    acr = s.acr;
    counter = s.counter;
    shown = record {
      full = s.shown.full;
      ae = s.shown.ae;
      se = s.shown.se;
      rarc = s.shown.rarc;
      rsrc = s.shown.rsrc;
      raac = s.shown.raac;
      rsac = s.shown.rsac;
      volt = s.shown.volt;
    };
  }

sampled_small : (m : Meter) (raw n : ℕ) → SmallMeter m → SmallMeter (sampled_of m raw n)
unfolding sampled_of
sampled_small m raw zero s = s
sampled_small m raw (suc n) s = convert_small (sampled_of m raw n) (sampled_small m raw n s) raw

ticked_small : (m : Meter) (tick : ℕ) → SmallMeter m → SmallMeter (ticked_of m tick)
ticked_small m tick s = record {
  charge = s.charge;
  cycles = s.cycles;
  shadow = s.shadow;
  eeprom = s.eeprom;
  acr = s.acr;
  counter = s.counter;
  shown = s.shown;
}

-- A reading

at_most_100 : (n : ℕ) → min n 100 ≤ 100
at_most_100 n = omega arith

at_most_8191 : (n : ℕ) → min n 8191 ≤ 8191
at_most_8191 n = omega arith

difference_low : (x y : ℕ) → x - y ≤ x
difference_low x y = omega arith

left_small : (acr empty full40 : ℕ) → acr ≤ 65535 → left_of acr empty full40 ≤ 16384 * 65535
unfolding left_of
left_small acr empty full40 h = let z = difference_low (16384 * acr) (empty * full40) in omega (arith, z, h)

amount_small : (n rsnsp : ℕ) → n ≤ 16384 * 65535 → rsnsp < 256 → amount_of n rsnsp ≤ 65535
unfolding amount_of
amount_small n rsnsp h k =
    let few : rsnsp ≤ 255 = omega arith in
    let z = times n rsnsp (16384 * 65535) 255 h few in
    omega (arith, z)

acr_small : (g : Charge) → ChargeWf g → acr_of g.count ≤ 65535
acr_small g w = let z = w.count in omega arith

module _ (m : Meter) (s : SmallMeter m) (volt temp : ℕ) where
  read_charge : ChargeWf (read_of m volt temp).charge
  unfolding read_of results_shown
  read_charge = drained_wf m (limits_of m.cells.block.shadow) _ _ (full40_small m s) (seen_wf _ _ volt temp) s.charge

  abbrev saves : Bool
  saves = saves_of m.shown.reading.known m.shown.results.rarc (read_of m volt temp).shown.results.rarc

  read_acr : (read_of m volt temp).cells.saved.acr ≤ 65535
  unfolding read_of results_shown kept_of
  read_acr = picked (λ (n : ℕ). n ≤ 65535) saves _ _ (λ e. acr_small _ read_charge) (λ e. s.acr)

  read_counter : (read_of m volt temp).cells.saved.cycles ≤ 255
  unfolding read_of results_shown kept_of
  read_counter = picked (λ (n : ℕ). n ≤ 255) saves _ _ (λ e. s.cycles) (λ e. s.counter)

  read_shown : SmallShown (read_of m volt temp).shown
  unfolding read_of results_shown seen_of model_lines rated_of results_of percent_of
  read_shown =
      let seen = seen_wf (limits_of m.cells.block.shadow) (curves_of m.cells.block.shadow) volt temp in
      let left : (empty : ℕ) → left_of (acr_of (read_of m volt temp).charge.count) empty (capacity_of m.cells.block.shadow).full40 ≤ 16384 * 65535 =
      λ empty. left_small _ empty _ (acr_small _ read_charge) in
      record {
        full = seen.full;
        ae = seen.ae;
        se = at_most_8191 _;
        rarc = at_most_100 _;
        rsrc = at_most_100 _;
        raac = amount_small _ _ (left _) (s.shadow 9);
        rsac = amount_small _ _ (left _) (s.shadow 9);
        volt = seen.volt;
      }

  read_small : SmallMeter (read_of m volt temp)
  unfolding read_of results_shown
  read_small = record {
    charge = read_charge;
    cycles = s.cycles;
    shadow = s.shadow;
    eeprom = s.eeprom;
    acr = read_acr;
    counter = read_counter;
    shown = read_shown;
  }

pub changed_small : (g : Gauge) (c : Change) → SmallGauge g → SmallGauge (changed_of g c)
unfolding reading_of conversion_of sampling_of sample_of power_on_of
changed_small g (Reading volt temp) s = record {
  address = s.address;
  label = s.label;
  label_eeprom = s.label_eeprom;
  meter = read_small g.meter s.meter volt temp;
}
changed_small g (Conversion raw) s = record {
  address = s.address;
  label = s.label;
  label_eeprom = s.label_eeprom;
  meter = convert_small g.meter s.meter raw;
}
changed_small g (Sample raw tick) s = record {
  address = s.address;
  label = s.label;
  label_eeprom = s.label_eeprom;
  meter = ticked_small _ tick (sampled_small g.meter raw (elapsed_of g.meter.flow.tick tick) s.meter);
}
changed_small g PowerOn s = record {
  address = s.address;
  label = s.label_eeprom;
  label_eeprom = s.label_eeprom;
  meter = powered_small g.meter.cells s.meter.eeprom s.meter.acr s.meter.counter;
}

-- A transaction

module _ (m : Meter) (s : SmallMeter m) (a : ℕ) (bytes : List ℕ) (h : Bytes bytes) where
  written_charge : ChargeWf (acr_written_of m.charge a bytes)
  unfolding acr_written_of
  written_charge =
      picked ChargeWf (both (reaches_of a bytes 0x10) (reaches_of a bytes 0x11)) _ _
      (λ e. marked_wf _ (set_wf m.charge _ _ (joined_small _ _ (h _) (h _)) s.charge)) (λ e. s.charge)

  written_cycles : (cycles_written_of m.cycles m.cells a bytes).count ≤ 255
  unfolding cycles_written_of
  written_cycles = picked (λ (y : Cycles). y.count ≤ 255) (both (reaches_of a bytes 0x1e) _) _ _ (λ e. let z = h (0x1e - a) in omega arith) (λ e. s.cycles)

  written_block : Bytes (block_written_of m.cells.block m.cells.locks.bl1 a bytes).shadow
  unfolding block_written_of
  written_block =
      picked (λ (b : Block). Bytes b.shadow) m.cells.locks.bl1 _ _ (λ e. s.shadow)
      (λ e. laid_bytes 0x60 0x80 m.cells.block.shadow a bytes s.shadow h)

  written_eeprom : Bytes (block_written_of m.cells.block m.cells.locks.bl1 a bytes).eeprom
  unfolding block_written_of
  written_eeprom = picked (λ (b : Block). Bytes b.eeprom) m.cells.locks.bl1 _ _ (λ e. s.eeprom) (λ e. s.eeprom)

  written_small : SmallMeter (meter_written_of m a bytes)
  unfolding meter_written_of
  written_small = record {
    charge = written_charge;
    cycles = written_cycles;
    shadow = written_block;
    eeprom = written_eeprom;
    acr = s.acr;
    counter = s.counter;
    shown = record {
      full = s.shown.full;
      ae = s.shown.ae;
      se = s.shown.se;
      rarc = s.shown.rarc;
      rsrc = s.shown.rsrc;
      raac = s.shown.raac;
      rsac = s.shown.rsac;
      volt = s.shown.volt;
    };
  }

-- a meter with another block of bytes
reblocked_small : (m : Meter) (block : Block) → SmallMeter m → Bytes block.shadow → Bytes block.eeprom
    → SmallMeter (record {
      cells = record { profile = m.cells.profile; block = block; locks = m.cells.locks; saved = m.cells.saved };
      charge = m.charge;
      cycles = m.cycles;
      flow = m.flow;
      shown = m.shown;
    })
reblocked_small m block s h k = record {
  charge = s.charge;
  cycles = s.cycles;
  shadow = h;
  eeprom = k;
  acr = s.acr;
  counter = s.counter;
  shown = s.shown;
}

copied_small : (m : Meter) (a : ℕ) → SmallMeter m → SmallMeter (meter_copied_of m a)
unfolding meter_copied_of block_copied_of
copied_small m a s =
    let acts = but_not (in_block a) m.cells.locks.bl1 in
    let block = m.cells.block in
    let copied : Block = record { shadow = block.shadow; eeprom = block.shadow } in
    reblocked_small m (pick acts copied block) s (picked (λ (b : Block). Bytes b.shadow) acts copied block (λ e. s.shadow) (λ e. s.shadow))
    (picked (λ (b : Block). Bytes b.eeprom) acts copied block (λ e. s.shadow) (λ e. s.eeprom))

recalled_small : (m : Meter) (a : ℕ) → SmallMeter m → SmallMeter (meter_recalled_of m a)
unfolding meter_recalled_of block_recalled_of
recalled_small m a s =
    let block = m.cells.block in
    let recalled : Block = record { shadow = block.eeprom; eeprom = block.eeprom } in
    reblocked_small m (pick (in_block a) recalled block) s
    (picked (λ (b : Block). Bytes b.shadow) (in_block a) recalled block (λ e. s.eeprom) (λ e. s.shadow))
    (picked (λ (b : Block). Bytes b.eeprom) (in_block a) recalled block (λ e. s.eeprom) (λ e. s.eeprom))

ran_small : (command : Command) (g : Gauge) (a : ℕ) (bytes : List ℕ) → SmallGauge g → Bytes bytes → SmallGauge (ran_by command g a bytes)
unfolding written_of copied_of recalled_of locked_of label_written_of label_copied_of label_recalled_of common_locked_of meter_locked_of
ran_small Read g a bytes s h = s
ran_small Write g a bytes s h = record {
  address = s.address;
  label =
      picked (λ (l : Label). Bytes l.shadow) g.common.bl0 _ _ (λ e. s.label)
      (λ e. laid_bytes 0x20 0x30 g.label.shadow a bytes s.label h);
  label_eeprom = picked (λ (l : Label). Bytes l.eeprom) g.common.bl0 _ _ (λ e. s.label_eeprom) (λ e. s.label_eeprom);
  meter = written_small g.meter s.meter a bytes h;
}
ran_small Copy g a bytes s h = record {
  address = s.address;
  label = picked (λ (l : Label). Bytes l.shadow) (but_not (in_label a) g.common.bl0) _ _ (λ e. s.label) (λ e. s.label);
  label_eeprom = picked (λ (l : Label). Bytes l.eeprom) (but_not (in_label a) g.common.bl0) _ _ (λ e. s.label) (λ e. s.label_eeprom);
  meter = copied_small g.meter a s.meter;
}
ran_small Recall g a bytes s h = record {
  address = s.address;
  label = picked (λ (l : Label). Bytes l.shadow) (in_label a) _ _ (λ e. s.label_eeprom) (λ e. s.label);
  label_eeprom = picked (λ (l : Label). Bytes l.eeprom) (in_label a) _ _ (λ e. s.label_eeprom) (λ e. s.label_eeprom);
  meter = recalled_small g.meter a s.meter;
}
ran_small Lock g a bytes s h = record {
  address = s.address;
  label = s.label;
  label_eeprom = s.label_eeprom;
  meter = record {
    charge = s.meter.charge;
    cycles = s.meter.cycles;
    shadow = s.meter.shadow;
    eeprom = s.meter.eeprom;
    acr = s.meter.acr;
    counter = s.meter.counter;
    shown = s.meter.shown;
  };
}
ran_small Nothing g a bytes s h = s

pub acted_small : (g : Gauge) (t : Transaction) (master : List ℕ) → SmallGauge g → Bytes master → SmallGauge (act_of g t master)
unfolding act_of ran_of
acted_small g t master s h =
    picked SmallGauge (selected_of g.common.address t master) _ g
    (λ e. ran_small t.command g t.address (drop t.from master) s (drop_bytes t.from master h)) (λ e. s)

-- Its reply

data AllBytes : List ℕ → Type 0 where
  none : AllBytes []
  byte : (x : ℕ) {xs : List ℕ} → x < 256 → AllBytes xs → AllBytes (x ∷ xs)

each_bytes : (xs : List ℕ) → AllBytes xs → Bytes xs
each_bytes xs none i = none_bytes i
each_bytes (x ∷ xs) (byte y low rest) zero = low
each_bytes (x ∷ xs) (byte y low rest) (suc i) = each_bytes xs rest i

-- the two bytes of a register
word : (x : ℕ) {xs : List ℕ} → x ≤ 65535 → AllBytes xs → AllBytes (x / 256 ∷ x % 256 ∷ xs)
word x h rest = byte (x / 256) (omega arith) (byte (x % 256) (omega arith) rest)

flag_low : (on : Bool) (weight : ℕ) → flag_of on weight ≤ weight
flag_low on weight = picked (λ (n : ℕ). n ≤ weight) on weight 0 (λ e. omega arith) (λ e. omega arith)

module _ (k : Common) (m : Meter) (s : SmallMeter m) where
  status_byte : status_of m.shown.flags m.charge.learnf < 256
  unfolding status_of
  status_byte =
      let f = m.shown.flags in
      omega (arith, flag_low f.chgtf 128, flag_low f.aef 64, flag_low f.sef 32, flag_low m.charge.learnf 16, flag_low f.porf 2)

  eeprom_byte : eeprom_of k m.cells.locks < 256
  unfolding eeprom_of
  eeprom_byte = omega (arith, flag_low m.cells.locks.lock 64, flag_low m.cells.locks.bl1 2, flag_low k.bl0 1)

  cycle_byte_lem : cycle_byte m.cells m.cycles < 256
  cycle_byte_lem = picked (λ (n : ℕ). n < 256) (counts_cycles m.cells.profile) _ _ (λ e. omega (arith, s.cycles)) (λ e. omega arith)

  registers_bytes : Bytes (registers_of k m)
  unfolding registers_of
  registers_bytes =
      let shown = m.shown in
      let count = m.charge.count in
      each_bytes (registers_of k m)
      (byte 0xff (omega arith)
      (byte _ status_byte
      (word shown.results.raac s.shown.raac
      (word shown.results.rsac s.shown.rsac
      (byte shown.results.rarc (omega (arith, s.shown.rarc))
      (byte shown.results.rsrc (omega (arith, s.shown.rsrc))
      (word (word_of m.flow.average.iavg) (omega arith)
      (word (temp_register m) (omega arith)
      (word (volt_register m) (omega (arith, s.shown.volt))
      (word (word_of m.flow.trace.last) (omega arith)
      (word (acr_of count) (acr_small m.charge s.charge)
      (word (acrl_register m) (omega arith)
      (byte m.charge.aging (omega (arith, s.charge.high))
      (byte 0x00 (omega arith)
      (word shown.model.full (omega (arith, s.shown.full))
      (word shown.model.ae (omega (arith, s.shown.ae))
      (word shown.model.se (omega (arith, s.shown.se))
      (byte 0xff (omega arith)
      (byte 0xff (omega arith)
      (byte _ cycle_byte_lem
      (byte _ eeprom_byte none)))))))))))))))))))))

module _ (g : Gauge) (s : SmallGauge g) where
  read_byte_lem : (a : ℕ) → read_byte g.common g.label g.meter a < 256
  unfolding read_byte label_byte meter_byte
  read_byte_lem a =
      let Byte : ℕ → Type 0 = λ n. n < 256 in
      picked Byte (in_label a) _ _ (λ e. s.label (a - 0x20))
      (λ e. picked Byte (ltb a 0x20) _ _ (λ e. registers_bytes g.common g.meter s.meter a)
      (λ e. picked Byte (in_block a) _ _ (λ e. s.meter.shadow (a - 0x60)) (λ e. omega arith)))

  source_byte_lem : (x : Source) (i : ℕ) → source_byte g.common g.label g.meter x i < 256
  unfolding source_byte
  source_byte_lem source.Address i = picked (λ (n : ℕ). n < 256) (ltb i 8) _ _ (λ e. s.address i) (λ e. omega arith)
  source_byte_lem (source.Bytes a) i = read_byte_lem (a + i)
  source_byte_lem source.Idle i = omega arith

  pub reply_bytes : (t : Transaction) (master : List ℕ) → Bytes (reply_of g t master)
  unfolding reply_of
  reply_bytes t master = listed_bytes _ (source_byte_lem _) 0 t.count
