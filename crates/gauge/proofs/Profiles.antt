-- What both profiles share, proved: blanking's edge and the cycle counter tell them apart, and nothing else does.
use mathlib.Core.Path.{◌≡◌, refl, sym, ap, subst, ◌∙◌}
use mathlib.Core.Bool.{Bool, true, false}
use mathlib.Core.List.{List}
use Prim.Native.Nat.{ℕ, zero, suc, ◌+◌, ◌-◌, ◌^◌, ◌<◌}
use native.Mathlib.Omega.{arith}
use lib.Dec.{ltb, eqb}
use lib.ListN.{get_or, drop, set}
use lib.Seq.{get_or-set_other}
use borrow.Author.Tests.{eqb-true, eqb-false, ltb-true, ltb-false, lt-ltb, le-ltb}
use Rattle.numbers.specs.Choice.{pick, both}
use Rattle.numbers.specs.Offset.{zero_at}
use Rattle.numbers.proofs.Bounds.{through, both_true}
use Rattle.state.specs.declared.Profile.{Profile}
use Rattle.state.specs.declared.Profile.TheVariants.{Ds2781, Ds2775}
use Rattle.state.specs.State.{counts_cycles, elapsed_of, powered_of}
use Rattle.params.specs.declared.Counting.{Counting}
use Rattle.params.specs.Params.{counting_of, capacity_of}
use Rattle.state.specs.declared.Charge.{Charge}
use Rattle.conversion.specs.Conversion.{blanked_of, grown_of, counted_of, cycled_of, with_charge, settled_of, flowed_of, convert_of, current_in}
use Rattle.conversion.specs.Conversion.{corrects_full}
use Rattle.conversion.proofs.Corrections.{converted_charge}
use Rattle.reading.specs.Reading.{kept_of, read_of, drained_of, results_shown}
use Rattle.state.specs.declared.Meter.{Meter}
use Rattle.samples.specs.Samples.{sampled_of, ticked_of, sample_of}
use Rattle.samples.proofs.Laws.{neither}
use Rattle.state.specs.declared.Common.{Common}
use Rattle.state.specs.declared.Label.{Label}
use Rattle.label.specs.Label.{in_label}
use Rattle.registers.specs.Registers.{registers_of, meter_byte, cycle_byte}
use Rattle.block1.specs.Block1.{meter_written_of, meter_copied_of, meter_recalled_of, meter_locked_of}
use Rattle.block1.proofs.Kept.{cycles_uncounted}
use Rattle.bus.specs.declared.Command.{Command}
use Rattle.bus.specs.declared.Command.TheVariants.{Read, Write, Copy, Recall, Lock, Nothing}
use Rattle.bus.specs.declared.Transaction.{Transaction}
use Rattle.replies.specs.declared.Source.{Source}
use Rattle.replies.specs.declared.Source.TheVariants.{Address, Bytes, Idle}
use Rattle.replies.specs.Reply.{selected_of, read_byte, source_byte, listed}
use Rattle.replies.proofs.Listed.{listed_length, listed_at}
use Rattle.record.specs.declared.Change.{Change}
use Rattle.record.specs.declared.Change.TheVariants.{Reading, Conversion, Sample, PowerOn}
use Rattle.gauge.specs.declared.Gauge.{Gauge}
use Rattle.gauge.specs.Gauge.{with_meter, conversion_of, sampling_of, reading_of, power_on_of, written_of, copied_of, recalled_of, locked_of}
use Rattle.gauge.specs.Change.{changed_of}
use Rattle.gauge.specs.Act.{ran_by, ran_of, act_of, reply_of}
use Rattle.gauge.specs.Profiles.{base_meter, base_of, edge_in, charge_as, charge_counting, edge_over, meets_edge, from_counter, reads_counter, OnlyTwo}

-- ---- a conversion

-- below the edge and above it the two blank alike
passes : (c : ℕ) → eqb c (zero_at 15 - 16) ≡ false → (x : Bool) → ltb (zero_at 15 - 16) c ≡ x → ltb (zero_at 15 - 17) c ≡ x
passes c e true l = lt-ltb (zero_at 15 - 17) c (omega (arith, ltb-true))
passes c e false l = le-ltb (zero_at 15 - 17) c (omega (arith, ltb-false, eqb-false))

blanked_alike : (f : Profile) (nben : Bool) (c : ℕ) → both nben (eqb c (zero_at 15 - 16)) ≡ false → blanked_of f nben c ≡ blanked_of Ds2781 nben c
blanked_alike Ds2781 nben c e = refl
blanked_alike Ds2775 false c e = refl
blanked_alike Ds2775 true c e = rw (passes c e (ltb (zero_at 15 - 16) c) refl) refl

counted_alike : (f : Profile) (p : Counting) (g : Charge) (last c : ℕ) → both p.nben (eqb c (zero_at 15 - 16)) ≡ false
    → counted_of f p g last c ≡ counted_of Ds2781 p g last c
unfolding counted_of
counted_alike f p g last c e = rw (blanked_alike f p.nben c e) refl

converted_alike : (m : Meter) (raw : ℕ) → edge_in m raw ≡ false → base_meter (convert_of m raw) ≡ convert_of (base_meter m) raw
unfolding convert_of flowed_of cycled_of
converted_alike m raw e =
    let p = counting_of m.cells.block.shadow in
    rw (counted_alike m.cells.profile p m.charge m.flow.trace.last (current_in m raw) e) refl

converted_edge : (m : Meter) (raw : ℕ) (x : Charge) → with_charge (base_meter (convert_of m raw)) x ≡ with_charge (convert_of (base_meter m) raw) x
unfolding convert_of flowed_of cycled_of
converted_edge m raw x = refl

-- at the edge
blanked_edge : (nben : Bool) (c : ℕ) → both nben (eqb c (zero_at 15 - 16)) ≡ true
    → (blanked_of Ds2775 nben c ≡ zero_at 15) × (blanked_of Ds2781 nben c ≡ zero_at 15 - 16)
blanked_edge nben c e =
    let z = both_true nben (eqb c (zero_at 15 - 16)) e in
    rw (z.0, eqb-true c (zero_at 15 - 16) z.1) (refl, refl)

module _ (m : Meter) (raw : ℕ) where
  abbrev nben : Bool
  nben = (counting_of m.cells.block.shadow).nben

  -- the charge is that of what blanking leaves of c
  charge_blanked : (x : ℕ) → blanked_of m.cells.profile nben (current_in m raw) ≡ x
      → (convert_of m raw).charge ≡ charge_counting m raw x
  unfolding counted_of
  charge_blanked x e =
      let full40 = (capacity_of m.cells.block.shadow).full40 in
      converted_charge m raw ∙ ap (λ (y : ℕ). settled_of (charge_as m raw y) (corrects_full m raw) m.shown.model.full full40) e

  edge_blanks : m.cells.profile ≡ Ds2775 → edge_in m raw ≡ true → (convert_of m raw).charge ≡ charge_counting m raw (zero_at 15)
  edge_blanks f e = charge_blanked (zero_at 15) (rw f (blanked_edge nben (current_in m raw) e).0)

  edge_counts : m.cells.profile ≡ Ds2781 → edge_in m raw ≡ true → (convert_of m raw).charge ≡ charge_counting m raw (zero_at 15 - 16)
  edge_counts f e = charge_blanked (zero_at 15 - 16) (rw f (blanked_edge nben (current_in m raw) e).1)

  -- where full is not found and no mark stands, the count grows by that plus AB
  counting_grows : (x : ℕ) → m.charge.mark ≡ false → corrects_full m raw ≡ false
      → (charge_counting m raw x).count ≡ grown_of m.charge.count x (counting_of m.cells.block.shadow).ab
  unfolding settled_of
  counting_grows x mark found = rw (found, mark) refl

-- 16 counts apart, but for a clamp of both at one end
grown_apart : (count ab : ℕ) → 0 < grown_of count (zero_at 15) ab → grown_of count (zero_at 15 - 16) ab < 2 ^ 28 - 1
    → grown_of count (zero_at 15) ab ≡ grown_of count (zero_at 15 - 16) ab → ⊥
grown_apart count ab low high same = omega arith

edge_differs : (m : Meter) (raw : ℕ) → m.cells.profile ≡ Ds2775 → edge_in m raw ≡ true → m.charge.mark ≡ false → corrects_full m raw ≡ false
    → 0 < (convert_of m raw).charge.count → (convert_of (base_meter m) raw).charge.count < 2 ^ 28 - 1
    → (convert_of m raw).charge.count ≡ (convert_of (base_meter m) raw).charge.count → ⊥
edge_differs m raw f e mark found low high same =
    let ab = (counting_of m.cells.block.shadow).ab in
    let one = ap (λ (g : Charge). g.count) (edge_blanks m raw f e) ∙ counting_grows m raw (zero_at 15) mark found in
    let other = ap (λ (g : Charge). g.count) (edge_counts (base_meter m) raw refl e) ∙ counting_grows (base_meter m) raw (zero_at 15 - 16) mark found in
    grown_apart m.charge.count ab (subst (λ (x : ℕ). 0 < x) one low) (subst (λ (x : ℕ). x < 2 ^ 28 - 1) other high) (sym one ∙ same ∙ other)

-- ---- conversions, one after the other

sampled_alike : (m : Meter) (raw n : ℕ) → edge_over m raw n ≡ false → base_meter (sampled_of m raw n) ≡ sampled_of (base_meter m) raw n
unfolding sampled_of
sampled_alike m raw zero e = refl
sampled_alike m raw (suc n) e =
    let z = neither (edge_over m raw n) _ e in
    converted_alike (sampled_of m raw n) raw z.1 ∙ ap (λ (x : Meter). convert_of x raw) (sampled_alike m raw n z.0)

-- at the edge the charge alone differs, on which without a counter nothing else depends
uncharged : (m : Meter) (raw : ℕ) (x y : Charge) → counts_cycles m.cells.profile ≡ false
    → with_charge (convert_of (with_charge m y) raw) x ≡ with_charge (convert_of m raw) x
unfolding convert_of flowed_of cycled_of
uncharged m raw x y e = rw e refl

sampled_edge : (m : Meter) (raw n : ℕ) (x : Charge) → with_charge (base_meter (sampled_of m raw n)) x ≡ with_charge (sampled_of (base_meter m) raw n) x
unfolding sampled_of
sampled_edge m raw zero x = refl
sampled_edge m raw (suc n) x =
    let y = (sampled_of m raw n).charge in
    converted_edge (sampled_of m raw n) raw x
    ∙ ap (λ (z : Meter). with_charge (convert_of z raw) x) (sampled_edge m raw n y)
    ∙ uncharged (sampled_of (base_meter m) raw n) raw x y (sym (ap (λ (z : Meter). counts_cycles z.cells.profile) (sampled_edge m raw n y)))

-- ---- a change

-- whether it is saved or not, no counter is
none_saved : (save : Bool) → pick save 0 0 ≡ zero
none_saved true = refl
none_saved false = refl

changed_alike : (g : Gauge) (c : Change) → meets_edge g.meter c ≡ false → base_of (changed_of g c) ≡ changed_of (base_of g) c
unfolding reading_of read_of drained_of results_shown kept_of conversion_of sampling_of sample_of sampled_of power_on_of powered_of
changed_alike g (Reading volt temp) e = rw none_saved refl
changed_alike g (Conversion raw) e = ap (with_meter g) (sampled_alike g.meter raw 1 e)
changed_alike g (Sample raw tick) e =
    let n = elapsed_of g.meter.flow.tick tick in
    ap (λ (m : Meter). with_meter g (ticked_of m tick)) (sampled_alike g.meter raw n e)
changed_alike g PowerOn e = refl

-- ---- a transaction

ran_alike : (command : Command) (g : Gauge) (a : ℕ) (bytes : List ℕ) → base_of (ran_by command g a bytes) ≡ ran_by command (base_of g) a bytes
unfolding written_of copied_of recalled_of locked_of meter_written_of meter_copied_of meter_recalled_of meter_locked_of
ran_alike Read g a bytes = refl
ran_alike Write g a bytes = rw (cycles_uncounted (base_meter g.meter).cycles (base_meter g.meter).cells a bytes refl) refl
ran_alike Copy g a bytes = refl
ran_alike Recall g a bytes = refl
ran_alike Lock g a bytes = refl
ran_alike Nothing g a bytes = refl

acted_alike : (g : Gauge) (t : Transaction) (master : List ℕ) → base_of (act_of g t master) ≡ act_of (base_of g) t master
unfolding act_of ran_of
acted_alike g t master =
    through base_of (selected_of g.common.address t master) _ g
    ∙ ap (λ (h : Gauge). pick (selected_of g.common.address t master) h (base_of g)) (ran_alike t.command g t.address (drop t.from master))

-- ---- its reply

module _ (k : Common) (l : Label) (m : Meter) where
  -- the registers differ in one
  registers_alike : registers_of k (base_meter m) ≡ set (registers_of k m) 0x1e 0xff
  unfolding registers_of
  registers_alike = refl

  read_alike : (a : ℕ) → eqb a 0x1e ≡ false → read_byte k l m a ≡ read_byte k l (base_meter m) a
  unfolding read_byte meter_byte
  read_alike a e = rw (registers_alike, get_or-set_other (registers_of k m) 0x1e a 0xff 0 (eqb-false _ _ e)) refl

  source_alike : (s : Source) (i : ℕ) → from_counter s i ≡ false → source_byte k l m s i ≡ source_byte k l (base_meter m) s i
  unfolding source_byte
  source_alike Address i e = refl
  source_alike (Bytes a) i e = read_alike (a + i) e
  source_alike Idle i e = refl

  -- and that one is the counter's
  read_counter : read_byte k l m 0x1e ≡ cycle_byte m.cells m.cycles
  unfolding read_byte meter_byte registers_of in_label
  read_counter = refl

  source_counter : (s : Source) (i : ℕ) → from_counter s i ≡ true → source_byte k l m s i ≡ cycle_byte m.cells m.cycles
  unfolding source_byte
  source_counter Address i e = cc
  source_counter (Bytes a) i e = ap (read_byte k l m) (eqb-true (a + i) 0x1e e) ∙ read_counter
  source_counter Idle i e = cc

listed_alike : (f g : ℕ → ℕ) (i n j : ℕ) → f (i + j) ≡ g (i + j) → get_or (listed f i n) j 0 ≡ get_or (listed g i n) j 0
listed_alike f g i zero j e = refl
listed_alike f g i (suc n) zero e = let z : i + 0 ≡ i = omega arith in rw z at e
listed_alike f g i (suc n) (suc j) e =
    let z : i + suc j ≡ i + 1 + j = omega arith in
    listed_alike f g (i + 1) n j (rw z at e)

-- a byte of a reply that is read at 1Eh
module _ (g : Gauge) (t : Transaction) (master : List ℕ) (i : ℕ) (h : i < t.count) (e : reads_counter g t master i ≡ true) where
  counter_byte : get_or (reply_of g t master) i 0 ≡ cycle_byte g.meter.cells g.meter.cycles
  unfolding reply_of
  counter_byte = let z : 0 + i ≡ i = omega arith in listed_at _ 0 t.count i h ∙ rw z (source_counter g.common g.label g.meter _ i e)

  counts_byte : (f : Profile) → g.meter.cells.profile ≡ f → get_or (reply_of g t master) i 0 ≡ pick (counts_cycles f) g.meter.cycles.count 0xff
  counts_byte f same = counter_byte ∙ ap (λ (f : Profile). pick (counts_cycles f) g.meter.cycles.count 0xff) same

pub only_two : OnlyTwo
unfolding reply_of
only_two = record {
  changes = changed_alike;
  edge = sampled_edge;
  blanks = edge_blanks;
  counts = edge_counts;
  differs = edge_differs;
  transactions = acted_alike;
  lengths = λ g t master. listed_length _ 0 t.count ∙ sym (listed_length _ 0 t.count);
  replies = λ g t master i e.
      let z : 0 + i ≡ i = omega arith in
      listed_alike _ _ 0 t.count i (rw z (source_alike g.common g.label g.meter _ i e));
  counter = λ g t master i h e f. counts_byte g t master i h e Ds2775 f;
  no_counter = λ g t master i h e f. counts_byte g t master i h e Ds2781 f;
}
