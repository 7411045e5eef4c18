-- "Only two things differ from 01 here": blanking's edge and the cycle counter. Without the counter every gauge goes on as the DS2781 of
-- document 01 does, but for a conversion at that edge; and it is answered with the same bytes, but for the one of 1Eh.
use Rattle.std.specs.Prelude.{◌≡◌, Bool, true, false, List, ℕ, zero, suc, ◌+◌, ◌-◌, ◌^◌, ◌<◌, eqb, length, get_or}
use Rattle.numbers.specs.Choice.{both, either}
use Rattle.numbers.specs.Offset.{zero_at}
use Rattle.state.specs.declared.Profile.TheVariants.{Ds2781, Ds2775}
use Rattle.params.specs.Params.{counting_of, capacity_of}
use Rattle.state.specs.declared.Charge.{Charge}
use Rattle.state.specs.State.{elapsed_of}
use Rattle.state.specs.declared.Cells.{Cells}
use Rattle.state.specs.declared.Meter.{Meter}
use Rattle.conversion.specs.Conversion.{added_of, fall_of, aged_of, learning_of, settled_of, with_charge, convert_of, current_in, corrects_full}
use Rattle.samples.specs.Samples.{sampled_of}
use Rattle.bus.specs.declared.Transaction.{Transaction}
use Rattle.replies.specs.declared.Source.{Source}
use Rattle.replies.specs.declared.Source.TheVariants.{Address, Bytes, Idle}
use Rattle.replies.specs.Reply.{selected_of, reply_source_of}
use Rattle.record.specs.declared.Change.{Change}
use Rattle.record.specs.declared.Change.TheVariants.{Reading, Conversion, Sample, PowerOn}
use Rattle.gauge.specs.declared.Gauge.{Gauge}
use Rattle.gauge.specs.Gauge.{with_meter}
use Rattle.gauge.specs.Change.{changed_of}
use Rattle.gauge.specs.Act.{act_of, reply_of}

-- ---- the base of a gauge: the same as a DS2781, without the counter, its rest and its cell

abbrev pub base_cells : Cells → Cells
base_cells cells = record {
  profile = Ds2781;
  block = cells.block;
  locks = cells.locks;
  saved = record { acr = cells.saved.acr; aging = cells.saved.aging; cycles = 0 };
}

abbrev pub base_meter : Meter → Meter
base_meter meter = record {
  cells = base_cells meter.cells;
  charge = meter.charge;
  cycles = record { count = 0; rest = 0 };
  flow = meter.flow;
  shown = meter.shown;
}

abbrev pub base_of : Gauge → Gauge
base_of gauge = with_meter gauge (base_meter gauge.meter)

-- ---- blanking's edge

-- a conversion with NBEN whose c is -16
abbrev pub edge_in : Meter → ℕ → Bool
edge_in meter raw = both (counting_of meter.cells.block.shadow).nben (eqb (current_in meter raw) (zero_at 15 - 16))

-- steps 3 to 5 of a conversion of which so much is counted, kept as z + 2^15, whatever blanking would make of its c
abbrev pub count_as : Meter → ℕ → ℕ
count_as meter counted = added_of meter.charge.mark meter.charge.count counted (counting_of meter.cells.block.shadow).ab

abbrev pub charge_as : Meter → ℕ → ℕ → Charge
charge_as meter raw counted =
    let charge = meter.charge in
    let count = count_as meter counted in
    let aged = aged_of (counting_of meter.cells.block.shadow).ac (charge.age + fall_of charge.count count) charge.aging in
    record {
      count = count;
      age = aged.age;
      aging = aged.aging;
      learnf = learning_of charge.learnf meter.flow.trace.last (current_in meter raw) count;
      mark = false;
    }

-- and step 6
abbrev pub charge_counting : Meter → ℕ → ℕ → Charge
charge_counting meter raw counted =
    settled_of (charge_as meter raw counted) (corrects_full meter raw) meter.shown.model.full (capacity_of meter.cells.block.shadow).full40

-- one of n conversions, each in the meter that those before it leave
abbrev pub edge_over : Meter → ℕ → ℕ → Bool
edge_over meter raw zero = false
edge_over meter raw (suc n) = either (edge_over meter raw n) (edge_in (sampled_of meter raw n) raw)

-- a conversion is one, a sample as many as ticks have elapsed
abbrev pub meets_edge : Meter → Change → Bool
meets_edge meter (Reading volt temp) = false
meets_edge meter (Conversion raw) = edge_over meter raw 1
meets_edge meter (Sample raw tick) = edge_over meter raw (elapsed_of meter.flow.tick tick)
meets_edge meter PowerOn = false

-- ---- 1Eh

-- whether the reply's byte i is read there
abbrev pub from_counter : Source → ℕ → Bool
from_counter Address i = false
from_counter (Bytes a) i = eqb (a + i) 0x1e
from_counter Idle i = false

abbrev pub reads_counter : Gauge → Transaction → List ℕ → ℕ → Bool
reads_counter gauge transaction master i =
    from_counter (reply_source_of (selected_of gauge.common.address transaction master) gauge.meter.cells.block.shadow transaction) i

-- ---- the law

pub record OnlyTwo : Type 0 where
  -- a change that meets no edge leaves of the base what it leaves of the gauge
  pub changes : (g : Gauge) (c : Change) → meets_edge g.meter c ≡ false → base_of (changed_of g c) ≡ changed_of (base_of g) c
  -- conversions at the edge too, but for the charge
  pub edge : (m : Meter) (raw n : ℕ) (x : Charge) → with_charge (base_meter (sampled_of m raw n)) x ≡ with_charge (sampled_of (base_meter m) raw n) x
  -- there the DS2775 counts nothing, "-16 counts as 0", and the DS2781 counts -16
  pub blanks : (m : Meter) (raw : ℕ) → m.cells.profile ≡ Ds2775 → edge_in m raw ≡ true → (convert_of m raw).charge ≡ charge_counting m raw (zero_at 15)
  pub counts : (m : Meter) (raw : ℕ) → m.cells.profile ≡ Ds2781 → edge_in m raw ≡ true → (convert_of m raw).charge ≡ charge_counting m raw (zero_at 15 - 16)
  -- so their counts differ, where no mark stands, full is not found and they are not both clamped at one end
  pub differs : (m : Meter) (raw : ℕ) → m.cells.profile ≡ Ds2775 → edge_in m raw ≡ true → m.charge.mark ≡ false → corrects_full m raw ≡ false
      → 0 < (convert_of m raw).charge.count → (convert_of (base_meter m) raw).charge.count < 2 ^ 28 - 1
      → (convert_of m raw).charge.count ≡ (convert_of (base_meter m) raw).charge.count → ⊥
  -- and every transaction
  pub transactions : (g : Gauge) (t : Transaction) (master : List ℕ) → base_of (act_of g t master) ≡ act_of (base_of g) t master
  -- with as long a reply, and the same bytes in it
  pub lengths : (g : Gauge) (t : Transaction) (master : List ℕ) → length (reply_of g t master) ≡ length (reply_of (base_of g) t master)
  pub replies : (g : Gauge) (t : Transaction) (master : List ℕ) (i : ℕ) → reads_counter g t master i ≡ false
      → get_or (reply_of g t master) i 0 ≡ get_or (reply_of (base_of g) t master) i 0
  -- the byte of 1Eh is the counter of a DS2775; of a base, as of every DS2781, it is FFh
  pub counter : (g : Gauge) (t : Transaction) (master : List ℕ) (i : ℕ) → i < t.count → reads_counter g t master i ≡ true
      → g.meter.cells.profile ≡ Ds2775 → get_or (reply_of g t master) i 0 ≡ g.meter.cycles.count
  pub no_counter : (g : Gauge) (t : Transaction) (master : List ℕ) (i : ℕ) → i < t.count → reads_counter g t master i ≡ true
      → g.meter.cells.profile ≡ Ds2781 → get_or (reply_of g t master) i 0 ≡ 0xff
