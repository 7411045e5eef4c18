-- Out and in undo each other, of each struct and so of the state.
use Rattle.std.specs.Prelude.{Ok, Err}
use Rattle.state_bytes.specs.declared.StateRefusal.TheVariants as why
use mathlib.Core.Path.{◌≡◌, refl, sym, ap, ◌∙◌}
use mathlib.Core.Bool.{Bool, true, false}
use mathlib.Core.List.{List, ◌∷◌}
use Prim.Native.Nat.{ℕ, suc, ◌+◌, ◌*◌, ◌^◌, ◌≤◌}
use native.Mathlib.Omega.{arith}
use borrow.Author.Tests.{eq-eqb, ne_eqb, eqb-true, lt-ltb, ltb-true, le-leb, leb-true}
use lib.Dec.{eqb, leb, ltb}
use lib.ListN.{length, get_or}
use lib.Seq.{take_all}
use Rattle.numbers.specs.Choice.{pick, both}
use Rattle.numbers.proofs.Bounds.{both_true}
use Rattle.slices.specs.Slices.{part}
use Rattle.slices.proofs.Laws.{part_length}
use Rattle.bus.specs.Ask.{same_bytes}
use Rattle.bus.proofs.Laws.{equal_same, same_equal}
use Rattle.state.specs.declared.Average.{Average}
use Rattle.state.specs.declared.Cells.{Cells}
use Rattle.state.specs.declared.Charge.{Charge}
use Rattle.state.specs.declared.Common.{Common}
use Rattle.state.specs.declared.Meter.{Meter}
use Rattle.state.specs.declared.Profile.{Profile}
use Rattle.state.specs.declared.Profile.TheVariants.{Ds2781, Ds2775}
use Rattle.state.specs.State.{counts_cycles, LabelSized, ChargeWf, AverageWf, MeterWf, run_of}
use Rattle.block1.specs.Block1.{BlockSized}
use Rattle.gauge.specs.Gauge.{Sized, NoCycles}
use Rattle.runs.specs.declared.Session.{Session}
use Rattle.state_bytes.specs.State.{saved_fields, profile_fields, locks_fields, charge_fields, cycles_fields, trace_fields, since_fields, average_fields}
use Rattle.state_bytes.specs.State.{tick_fields, flow_fields, model_fields, results_fields, reading_fields, flags_fields, shown_fields, block_fields}
use Rattle.state_bytes.specs.State.{cells_fields, meter_fields, label_fields, common_fields, gauge_fields, session_fields}
use Rattle.state_bytes.specs.State.{saved_layout, profile_layout, locks_layout, charge_layout, cycles_layout, trace_layout, since_layout, average_layout}
use Rattle.state_bytes.specs.State.{tick_layout, flow_layout, model_layout, results_layout, reading_layout, flags_layout, shown_layout, block_layout}
use Rattle.state_bytes.specs.State.{cells_layout, meter_layout, label_layout, common_layout, gauge_layout, session_layout, state_size, version}
use Rattle.state_bytes.specs.State.{sound_charge, sound_average, sound_shown, uncounted_by, sound_meter}
use Rattle.state_bytes.specs.State.{state_bytes, session_at, StateIn, state_in, number_in, session_in}
use Rattle.state_bytes.specs.Theorems.{StateWf, Undoing}
use Rattle.state_bytes.proofs.Laws.{Lawful, Any, lawful_byte, lawful_two, lawful_four, lawful_flag, lawful_bytes, lawful_then, lawful_formed}

-- ---- each struct is read as it was written

saved : Lawful Any saved_layout
saved = lawful_formed saved_fields (λ v. refl) (λ v h. (tt, (tt, tt))) (lawful_then lawful_two (lawful_then lawful_byte lawful_byte))

profile_back : (p : Profile) → pick (counts_cycles p) Ds2775 Ds2781 ≡ p
profile_back Ds2781 = refl
profile_back Ds2775 = refl

profile : Lawful Any profile_layout
profile = lawful_formed profile_fields profile_back (λ v h. tt) lawful_flag

locks : Lawful Any locks_layout
locks = lawful_formed locks_fields (λ v. refl) (λ v h. (tt, tt)) (lawful_then lawful_flag lawful_flag)

charge : Lawful Any charge_layout
charge =
    lawful_formed charge_fields (λ v. refl) (λ v h. (tt, (tt, (tt, (tt, tt)))))
    (lawful_then lawful_byte (lawful_then lawful_four (lawful_then lawful_flag (lawful_then lawful_flag lawful_four))))

cycles : Lawful Any cycles_layout
cycles = lawful_formed cycles_fields (λ v. refl) (λ v h. (tt, tt)) (lawful_then lawful_byte lawful_four)

trace : Lawful Any trace_layout
trace =
    lawful_formed trace_fields (λ v. refl) (λ v h. (tt, (tt, (tt, tt))))
    (lawful_then lawful_flag (lawful_then lawful_two (lawful_then lawful_two lawful_flag)))

since : Lawful Any since_layout
since = lawful_formed since_fields (λ v. refl) (λ v h. (tt, tt)) (lawful_then lawful_flag lawful_two)

average : Lawful Any average_layout
average =
    lawful_formed average_fields (λ v. refl) (λ v h. (tt, (tt, (tt, tt))))
    (lawful_then lawful_four (lawful_then lawful_two (lawful_then lawful_flag lawful_two)))

tick : Lawful Any tick_layout
tick = lawful_formed tick_fields (λ v. refl) (λ v h. (tt, tt)) (lawful_then lawful_flag lawful_two)

flow : Lawful Any flow_layout
flow =
    lawful_formed flow_fields (λ v. refl) (λ v h. (tt, (tt, (tt, tt)))) (lawful_then trace (lawful_then since (lawful_then average tick)))

model : Lawful Any model_layout
model = lawful_formed model_fields (λ v. refl) (λ v h. (tt, (tt, tt))) (lawful_then lawful_two (lawful_then lawful_two lawful_two))

results : Lawful Any results_layout
results =
    lawful_formed results_fields (λ v. refl) (λ v h. (tt, (tt, (tt, tt))))
    (lawful_then lawful_byte (lawful_then lawful_byte (lawful_then lawful_two lawful_two)))

reading : Lawful Any reading_layout
reading = lawful_formed reading_fields (λ v. refl) (λ v h. (tt, (tt, tt))) (lawful_then lawful_two (lawful_then lawful_two lawful_flag))

flags : Lawful Any flags_layout
flags =
    lawful_formed flags_fields (λ v. refl) (λ v h. (tt, (tt, (tt, tt))))
    (lawful_then lawful_flag (lawful_then lawful_flag (lawful_then lawful_flag lawful_flag)))

shown : Lawful Any shown_layout
shown =
    lawful_formed shown_fields (λ v. refl) (λ v h. (tt, (tt, (tt, tt)))) (lawful_then model (lawful_then results (lawful_then reading flags)))

block : Lawful BlockSized block_layout
block = lawful_formed block_fields (λ v. refl) (λ v h. (h.shadow, h.eeprom)) (lawful_then (lawful_bytes 32) (lawful_bytes 32))

cells : Lawful (λ (c : Cells). BlockSized c.block) cells_layout
cells = lawful_formed cells_fields (λ v. refl) (λ v h. (tt, (tt, (tt, h)))) (lawful_then saved (lawful_then profile (lawful_then locks block)))

meter : Lawful (λ (m : Meter). BlockSized m.cells.block) meter_layout
meter =
    lawful_formed meter_fields (λ v. refl) (λ v h. (h, (tt, (tt, (tt, tt)))))
    (lawful_then cells (lawful_then charge (lawful_then flow (lawful_then cycles shown))))

label : Lawful LabelSized label_layout
label = lawful_formed label_fields (λ v. refl) (λ v h. (h.shadow, h.eeprom)) (lawful_then (lawful_bytes 16) (lawful_bytes 16))

common : Lawful (λ (c : Common). length c.address ≡ 8) common_layout
common = lawful_formed common_fields (λ v. refl) (λ v h. (h, tt)) (lawful_then (lawful_bytes 8) lawful_flag)

pub gauge : Lawful Sized gauge_layout
gauge = lawful_formed gauge_fields (λ v. refl) (λ v h. (h.label, (h.address, h.block))) (lawful_then label (lawful_then common meter))

session : Lawful (λ (s : Session). Sized s.gauge) session_layout
session = lawful_formed session_fields (λ v. refl) (λ v h. (tt, h)) (lawful_then lawful_flag gauge)

-- ---- well-formed, and the test of it

sound_charge_lem : (c : Charge) → sound_charge c ≡ true → ChargeWf c
unfolding sound_charge
sound_charge_lem c e =
    let a = both_true (ltb c.count (2 ^ 28)) _ e in
    let b = both_true (ltb c.age (32 * 65535)) _ a.1 in
    let d = both_true (leb 63 c.aging) _ b.1 in
    record {
      count = ltb-true c.count (2 ^ 28) a.0;
      age = ltb-true c.age (32 * 65535) b.0;
      low = leb-true 63 c.aging d.0;
      high = leb-true c.aging 128 d.1;
    }

charge_sound_lem : (c : Charge) → ChargeWf c → sound_charge c ≡ true
unfolding sound_charge
charge_sound_lem c w =
    rw (lt-ltb c.count (2 ^ 28) w.count, lt-ltb c.age (32 * 65535) w.age, le-leb 63 c.aging w.low, le-leb c.aging 128 w.high) refl

sound_average_lem : (a : Average) → sound_average a ≡ true → AverageWf a
unfolding sound_average
sound_average_lem a e =
    let b = both_true (ltb a.made 1024) _ e in
    record { made = ltb-true a.made 1024 b.0; sum = leb-true a.sum (65535 * run_of a) b.1 }

average_sound_lem : (a : Average) → AverageWf a → sound_average a ≡ true
unfolding sound_average
average_sound_lem a w = rw (lt-ltb a.made 1024 w.made, le-leb a.sum (65535 * run_of a) w.sum) refl

pub no_cycles : (m : Meter) → uncounted_by m.cells.profile m.cycles m.cells.saved.cycles ≡ true
    → counts_cycles m.cells.profile ≡ false → NoCycles m
unfolding uncounted_by
no_cycles m e none =
    let h = rw none at e in
    let a = both_true (eqb m.cycles.count 0) _ h in
    let b = both_true (eqb m.cycles.rest 0) _ a.1 in
    record {
      count = eqb-true m.cycles.count 0 a.0;
      rest = eqb-true m.cycles.rest 0 b.0;
      saved = eqb-true m.cells.saved.cycles 0 b.1;
    }

pub cycles_none : (m : Meter) → (counts_cycles m.cells.profile ≡ false → NoCycles m)
    → uncounted_by m.cells.profile m.cycles m.cells.saved.cycles ≡ true
unfolding uncounted_by
cycles_none m h = by (counts_cycles m.cells.profile) refl
  where
    by : (b : Bool) → counts_cycles m.cells.profile ≡ b
        → pick (counts_cycles m.cells.profile) true
        (both (eqb m.cycles.count 0) (both (eqb m.cycles.rest 0) (eqb m.cells.saved.cycles 0))) ≡ true
    by true e = rw e refl
    by false e =
        let n = h e in
        rw (e, eq-eqb m.cycles.count 0 n.count, eq-eqb m.cycles.rest 0 n.rest, eq-eqb m.cells.saved.cycles 0 n.saved) refl

-- a meter that passes the test
pub sound_meter_lem : (m : Meter) → sound_meter m ≡ true → MeterWf m × (counts_cycles m.cells.profile ≡ false → NoCycles m)
unfolding sound_meter sound_shown
sound_meter_lem m e =
    let a = both_true (sound_charge m.charge) _ e in
    let b = both_true (sound_average m.flow.average) _ a.1 in
    let limits = both (leb m.shown.model.full 16384) (both (leb m.shown.reading.volt 1023) (ltb m.shown.reading.temp (2 ^ 11))) in
    let shown = both_true limits _ b.1 in
    let full = both_true (leb m.shown.model.full 16384) _ shown.0 in
    let volt = both_true (leb m.shown.reading.volt 1023) _ full.1 in (
      record {
        charge = sound_charge_lem m.charge a.0;
        average = sound_average_lem m.flow.average b.0;
        full = leb-true m.shown.model.full 16384 full.0;
        volt = leb-true m.shown.reading.volt 1023 volt.0;
        temp = ltb-true m.shown.reading.temp (2 ^ 11) volt.1;
      },
      no_cycles m shown.1,
    )

pub meter_sound : (m : Meter) → MeterWf m → (counts_cycles m.cells.profile ≡ false → NoCycles m) → sound_meter m ≡ true
unfolding sound_meter sound_shown
meter_sound m w none =
    rw (
      charge_sound_lem m.charge w.charge,
      average_sound_lem m.flow.average w.average,
      le-leb m.shown.model.full 16384 w.full,
      le-leb m.shown.reading.volt 1023 w.volt,
      lt-ltb m.shown.reading.temp (2 ^ 11) w.temp,
      cycles_none m none,
    )
    refl

-- a state that was read
abbrev pub was : Session → StateIn
was σ = Ok σ

-- ---- out and then in

pub state_length : (σ : Session) → Sized σ.gauge → length (state_bytes σ) ≡ state_size
unfolding state_bytes
state_length σ z = ap suc (session.sized σ z)

read_back : (σ : Session) → Sized σ.gauge → session_at (state_bytes σ) ≡ σ
unfolding session_at state_bytes
read_back σ z =
    let out = session_layout.out σ in
    session.back (version ∷ out) 1 σ z (take_all session_layout.size out (omega (arith, session.sized σ z)))

first : (σ : Session) → get_or (state_bytes σ) 0 0 ≡ version
unfolding state_bytes
first σ = refl

accepted : (b : List ℕ) → length b ≡ state_size → get_or b 0 0 ≡ version → sound_meter (session_at b).gauge.meter ≡ true
    → same_bytes (state_bytes (session_at b)) b ≡ true → state_in b ≡ Ok (session_at b)
unfolding state_in
accepted b size v sound same = rw (eq-eqb (length b) state_size size, eq-eqb (get_or b 0 0) version v, sound, same) refl

back : (σ : Session) → StateWf σ → state_in (state_bytes σ) ≡ Ok σ
back σ w =
    let b = state_bytes σ in
    let at = read_back σ w.sized in
    let sound : sound_meter (session_at b).gauge.meter ≡ true =
    ap (λ (s : Session). sound_meter s.gauge.meter) at ∙ meter_sound σ.gauge.meter w.wf.gauge.meter w.uncounted in
    let same : same_bytes (state_bytes (session_at b)) b ≡ true = ap (λ (s : Session). same_bytes (state_bytes s) b) at ∙ equal_same b in
    accepted b (state_length σ w.sized) (first σ) sound same ∙ ap was at

-- ---- what is refused, in the order of the tests

module _ (b : List ℕ) where
  abbrev pub told : Bool
  told = both (sound_meter (session_at b).gauge.meter) (same_bytes (state_bytes (session_at b)) b)

  pub in_length : (length b ≡ state_size → ⊥) → Err why.Size ≡ state_in b
  unfolding state_in
  in_length h = rw (ne_eqb (length b) state_size h) refl

  module _ (size : length b ≡ state_size) where
    pub in_version : (get_or b 0 0 ≡ version → ⊥) → Err why.Version ≡ state_in b
    unfolding state_in
    in_version h = rw (eq-eqb (length b) state_size size, ne_eqb (get_or b 0 0) version h) refl

    module _ (v : get_or b 0 0 ≡ version) where
      pub in_state : told ≡ true → Ok (session_at b) ≡ state_in b
      unfolding state_in
      in_state h = rw (eq-eqb (length b) state_size size, eq-eqb (get_or b 0 0) version v, h) refl

      pub in_none : told ≡ false → Err why.Unsound ≡ state_in b
      unfolding state_in
      in_none h = rw (eq-eqb (length b) state_size size, eq-eqb (get_or b 0 0) version v, h) refl

-- ---- in and then out

passed_by : (x y z : Bool) (σ : Session)
    → number_in (pick x (pick y (pick z (was σ) (Err why.Unsound)) (Err why.Version)) (Err why.Size)) ≡ 0
    → (x ≡ true) × (y ≡ true) × (z ≡ true)
passed_by true true true σ e = (refl, refl, refl)
passed_by true true false σ e = absurd (omega (arith, e))
passed_by true false z σ e = absurd (omega (arith, e))
passed_by false y z σ e = absurd (omega (arith, e))

record Passed (b : List ℕ) : Type 0 where
  size : length b ≡ state_size
  sound : sound_meter (session_at b).gauge.meter ≡ true
  same : state_bytes (session_at b) ≡ b
  read : state_in b ≡ Ok (session_at b)

passed : (b : List ℕ) → number_in (state_in b) ≡ 0 → Passed b
unfolding state_in
passed b e =
    let test = both (sound_meter (session_at b).gauge.meter) (same_bytes (state_bytes (session_at b)) b) in
    let h = passed_by (eqb (length b) state_size) (eqb (get_or b 0 0) version) test (session_at b) e in
    let both_hold = both_true (sound_meter (session_at b).gauge.meter) (same_bytes (state_bytes (session_at b)) b) h.2 in
    record {
      size = eqb-true (length b) state_size h.0;
      sound = both_hold.0;
      same = same_equal (state_bytes (session_at b)) b both_hold.1;
      read = rw (h.0, h.1, h.2) refl;
    }

-- what is read of bytes that are a state
pub read_held : (b : List ℕ) → number_in (state_in b) ≡ 0 → Ok (session_at b) ≡ state_in b
read_held b e = sym (passed b e).read

-- bytes that are a state are as many
pub in_size : (b : List ℕ) → number_in (state_in b) ≡ 0 → length b ≡ state_size
in_size b e = (passed b e).size

-- the arrays of a gauge that was read have their sizes
pub gauge_sized : (b : List ℕ) (at : ℕ) → at + 170 ≤ length b → Sized (gauge_layout.at b at)
gauge_sized b at h =
    let size : (n i : ℕ) → i + n ≤ at + 170 → length (part n b i) ≡ n = λ n i inside. part_length n b i (omega arith) in
    record {
      address = size 8 (at + 32) (omega arith);
      label = record { shadow = size 16 at (omega arith); eeprom = size 16 (at + 16) (omega arith) };
      block = record { shadow = size 32 (at + 32 + 9 + 4 + 1 + 2) (omega arith); eeprom = size 32 (at + 32 + 9 + 4 + 1 + 2 + 32) (omega arith) };
    }

at_sized : (b : List ℕ) → length b ≡ state_size → Sized (session_at b).gauge
unfolding session_at
at_sized b e = gauge_sized b 2 (omega (arith, e))

pub undoing : Undoing
undoing = record {
  back = back;
  forth = λ b e. ap (λ (s : StateIn). state_bytes (session_in s)) (passed b e).read ∙ (passed b e).same;
  sound = λ b e.
      let p = passed b e in
      let m = sound_meter_lem (session_at b).gauge.meter p.sound in
      rw p.read (record { wf = record { gauge = record { meter = m.0 } }; sized = at_sized b p.size; uncounted = m.1 });
}
