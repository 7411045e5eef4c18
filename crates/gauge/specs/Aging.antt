-- Who sets AS: a power-on, ageing and learning, over all events. No write of a host does.
use Rattle.std.specs.Prelude.{◌≡◌, Bool, true, false, List, ℕ, zero, suc, ◌+◌, ◌-◌, ◌*◌, max, ltb, leb, eqb}
use Rattle.numbers.specs.Choice.{both, either, but_not}
use Rattle.params.specs.Params.{counting_of, capacity_of}
use Rattle.conversion.specs.Conversion.{fall_of, learnt_of, convert_of, charge_in, corrects_full}
use Rattle.state.specs.State.{elapsed_of, as_in, acr_of}
use Rattle.state.specs.declared.Meter.{Meter}
use Rattle.samples.specs.Samples.{sampled_of}
use Rattle.bus.specs.declared.Transaction.{Transaction}
use Rattle.record.specs.declared.Change.{Change}
use Rattle.record.specs.declared.Change.TheVariants.{Reading, Conversion, Sample, PowerOn}
use Rattle.gauge.specs.declared.Gauge.{Gauge}
use Rattle.gauge.specs.Gauge.{power_on_of}
use Rattle.gauge.specs.Change.{changed_of}
use Rattle.gauge.specs.Act.{act_of}

-- AS
abbrev pub aging_of : Gauge → ℕ
aging_of gauge = gauge.meter.charge.aging

-- ---- in a conversion of a raw current

-- ageing: AC is not 0, and with this fall of ACR the counter "is at least 32 × AC"
abbrev pub ages_in : Meter → ℕ → Bool
ages_in meter raw =
    let ac = (counting_of meter.cells.block.shadow).ac in
    but_not (leb (32 * ac) (meter.charge.age + fall_of meter.charge.count (charge_in meter raw).count)) (eqb ac 0)

-- learning: full is found, "if LEARNF and Full40 > 0"
abbrev pub learns_in : Meter → ℕ → Bool
learns_in meter raw = both (corrects_full meter raw) (both (charge_in meter raw).learnf (ltb 0 (capacity_of meter.cells.block.shadow).full40))

-- "AS falls by 1, never below 63"
abbrev pub fallen_as : ℕ → ℕ
fallen_as aging = max (aging - 1) 63

-- "AS = ACR × 2^21 / (FULL × Full40)", of ACR as steps 1 to 5 leave it
abbrev pub learnt_in : Meter → ℕ → ℕ
learnt_in meter raw = learnt_of (acr_of (charge_in meter raw).count) meter.shown.model.full (capacity_of meter.cells.block.shadow).full40

-- ---- in an event

-- in one of n conversions, each in the meter that those before it leave
abbrev pub sets_over : Meter → ℕ → ℕ → Bool
sets_over meter raw zero = false
sets_over meter raw (suc n) =
    let before = sampled_of meter raw n in
    either (sets_over meter raw n) (either (ages_in before raw) (learns_in before raw))

-- a conversion is one, a sample as many as ticks have elapsed
abbrev pub sets_aging : Meter → Change → Bool
sets_aging meter (Reading volt temp) = false
sets_aging meter (Conversion raw) = sets_over meter raw 1
sets_aging meter (Sample raw tick) = sets_over meter raw (elapsed_of meter.flow.tick tick)
sets_aging meter PowerOn = true

-- ---- the law

pub record OwnAging : Type 0 where
  -- a conversion that ages takes one off AS
  pub ages : (m : Meter) (raw : ℕ) → ages_in m raw ≡ true → learns_in m raw ≡ false → (convert_of m raw).charge.aging ≡ fallen_as m.charge.aging
  -- one that teaches sets it to what is learnt, whether it ages or not: step 6 comes last
  pub learns : (m : Meter) (raw : ℕ) → learns_in m raw ≡ true → (convert_of m raw).charge.aging ≡ learnt_in m raw
  -- a change that neither is a power-on nor ages nor teaches leaves AS
  pub changes : (g : Gauge) (c : Change) → sets_aging g.meter c ≡ false → aging_of (changed_of g c) ≡ aging_of g
  -- every transaction does, a write that runs over 14h too
  pub transactions : (g : Gauge) (t : Transaction) (master : List ℕ) → aging_of (act_of g t master) ≡ aging_of g
  -- "Saved AS is honoured at power-on as before", moved into 63..128
  pub saved : (g : Gauge) → aging_of (power_on_of g) ≡ as_in g.meter.cells.saved.aging
