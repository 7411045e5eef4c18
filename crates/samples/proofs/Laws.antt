-- The meter: k conversions are a stretch.
use mathlib.Core.Path.{◌≡◌, refl, sym, ap, subst, ◌∙◌}
use mathlib.Core.Bool.{Bool, true, false}
use mathlib.Core.Logic.{inl, inr, ⊎_elim}
use Prim.Native.Nat.{ℕ, zero, suc, ◌+◌, ◌-◌, ◌≤◌}
use native.Mathlib.Nat.{add-zero, add-suc}
use native.Mathlib.Numerals.{add-one}
use native.Mathlib.Omega.{arith}
use borrow.Author.Tests.{ne_eqb}
use Rattle.numbers.specs.Choice.{pick, both, either}
use Rattle.numbers.proofs.Bounds.{picked}
use Rattle.params.specs.declared.Counting.{Counting}
use Rattle.params.specs.declared.Limits.{Limits}
use Rattle.params.specs.Params.{counting_of, limits_of, capacity_of}
use Rattle.state.specs.declared.Charge.{Charge}
use Rattle.conversion.specs.Conversion.{current_of, traced_of, fall_of, counted_of, cycled_of, with_flags, offset_turn, eighth, averaged_of, renewed_of}
use Rattle.conversion.specs.Conversion.{found_of, settled_of, converted_of, filled_flags, flowed_of, charged_of, convert_of}
use Rattle.state.specs.declared.Cycles.{Cycles}
use Rattle.conversion.proofs.CycleLaws.{cycled_more}
use Rattle.state.specs.State.{AverageWf, MeterWf}
use Rattle.conversion.proofs.FullLaws.{settled_wf}
use Rattle.state.specs.declared.Flow.{Flow}
use Rattle.state.specs.declared.Meter.{Meter}
use Rattle.samples.specs.Samples.{sampled_of}
use Rattle.samples.specs.Stretch.{charge_over, trace_over, ends_over, average_over, found_over, flow_over, flowed_over, stretched_of, Quiet, reach_of}
use Rattle.samples.proofs.Charge.{charge_one, charge_more, charge_falls}
use Rattle.samples.proofs.Run.{trace_one, trace_more, goes, average_none, renewed_none, found_more, found_not, average_wf}

-- ---- step 6

-- the flow after a conversion of c
abbrev flow_next : Flow → ℕ → Flow
flow_next f c = record {
  trace = traced_of f.trace c;
  average = averaged_of f.average c;
  since = renewed_of f.since (eighth f.average);
  tick = f.tick;
}

abbrev found_next : Flow → Limits → ℕ → Bool
found_next f p c = both (eighth f.average) (found_of f.average f.since p c)

module _ (f : Flow) (p : Limits) (c : ℕ) where
  -- a stretch of none, but for CURRENT
  abbrev flow_none : Flow
  flow_none = record {
    trace = f.trace;
    average = average_over f.average c 0;
    since = renewed_of f.since (ends_over f.average 0);
    tick = f.tick;
  }

  module _ (w : AverageWf f.average) where
    flow_none_lem : flow_none ≡ f
    flow_none_lem = λ i. record {
      trace = f.trace;
      average = average_none f.average c w i;
      since = renewed_none f.average f.since i;
      tick = f.tick;
    }

    flow_one : flow_next f c ≡ flow_over f c 1
    unfolding flow_over
    flow_one =
        let go = goes f.average f.since c 0 in
        ap (λ (x : Flow). flow_next x c) (sym flow_none_lem) ∙
        (λ i. record { trace = trace_one f.trace c i; average = go.averaged i; since = go.renewed i; tick = f.tick })

    found_one : found_next f p c ≡ found_over f p c 1
    found_one =
        ap (λ (x : Flow). found_next x p c) (sym flow_none_lem) ∙ found_more f p c 0 (inl (omega arith))

  flow_more : (j : ℕ) → flow_next (flow_over f c (suc j)) c ≡ flow_over f c (suc (suc j))
  unfolding flow_over
  flow_more j =
      let go = goes f.average f.since c (suc j) in
      (λ i. record { trace = trace_more f.trace c j i; average = go.averaged i; since = go.renewed i; tick = f.tick })

settled_not : (g : Charge) (found : Bool) (full full40 : ℕ) → found ≡ false → settled_of g found full full40 ≡ g
unfolding settled_of
settled_not g found full full40 e = simp e

either_not : (found t : Bool) → found ≡ false → either found t ≡ t
either_not found t e = simp e

-- ---- the meter

-- what step 6 leaves, with another charge, cycle counter, flow and whether full is found
abbrev left : Meter → ℕ → Charge → Cycles → Flow → Bool → Meter
left m full40 g y f found = record {
  cells = m.cells;
  charge = settled_of g found m.shown.model.full full40;
  cycles = y;
  flow = f;
  shown = with_flags m.shown (filled_flags m.shown.flags found);
}

module _ (m : Meter) (raw : ℕ) (w : MeterWf m) where
  abbrev p : Counting
  p = counting_of m.cells.block.shadow

  abbrev limits : Limits
  limits = limits_of m.cells.block.shadow

  abbrev full40 : ℕ
  full40 = (capacity_of m.cells.block.shadow).full40

  abbrev c : ℕ
  c = converted_of m.flow raw p.cob

  abbrev last : ℕ
  last = m.flow.trace.last

  -- the charge after k conversions, and the cycle counter of such a charge
  abbrev charge_after : ℕ → Charge
  charge_after k = charge_over m.cells.profile p m.charge last c k

  abbrev cycles_at : Charge → Cycles
  cycles_at g = cycled_of m.cells.profile full40 m.cycles (fall_of m.charge.count g.count)

  stretched_one : convert_of m raw ≡ stretched_of m raw 1
  unfolding convert_of flowed_of stretched_of flowed_over
  stretched_one =
      let e = charge_one m.cells.profile p m.charge last c w.charge in
      λ i. left m full40 (e i) (cycles_at (e i)) (flow_one m.flow limits c w.average i)
      (found_one m.flow limits c w.average i)

  -- a stretch that finds nothing
  abbrev plainly : ℕ → Meter
  plainly k = record { cells = m.cells; charge = charge_after k; cycles = cycles_at (charge_after k); flow = flow_over m.flow c k; shown = m.shown }

  module _ (j : ℕ) (q : Quiet m.flow (suc (suc j))) where
    stretched_plain : stretched_of m raw (suc j) ≡ plainly (suc j)
    unfolding stretched_of flowed_over
    stretched_plain =
        let none = found_not m.flow limits c (suc j) q in
        let charge = settled_not (charge_after (suc j)) _ m.shown.model.full full40 none in
        let chgtf = either_not _ m.shown.flags.chgtf none in
        (λ i. record {
          cells = m.cells;
          charge = charge i;
          cycles = cycles_at (charge_after (suc j));
          flow = flow_over m.flow c (suc j);
          shown = with_flags m.shown (record { porf = m.shown.flags.porf; chgtf = chgtf i; aef = m.shown.flags.aef; sef = m.shown.flags.sef });
        })

    -- the first is not a 1024th, and where the next is one, the c before it is c
    first_plain : offset_turn m.flow.average ≡ false
    first_plain = ⊎_elim (λ h. ne_eqb m.flow.average.made 1023 (omega arith)) (λ e. e.1) q

    next_same : (offset : Bool) → pick offset c (current_of raw p.cob) ≡ c
    next_same offset = picked (λ (z : ℕ). z ≡ c) offset _ _ (λ e. refl) (λ e. simp first_plain)

    -- what a conversion with some c makes of the stretch
    abbrev after : ℕ → Meter
    after z =
        let counted = counted_of m.cells.profile p (charge_after (suc j)) (flow_over m.flow c (suc j)).trace.last z in
        flowed_of (charged_of (plainly (suc j)) full40 counted) limits full40 z

    abbrev cycles_on : Charge → Cycles
    cycles_on g = cycled_of m.cells.profile full40 (cycles_at (charge_after (suc j))) (fall_of (charge_after (suc j)).count g.count)

    -- a conversion more, of the cycle counter: what ACR falls adds up
    cycles_more : cycles_on (charge_after (suc (suc j))) ≡ cycles_at (charge_after (suc (suc j)))
    cycles_more =
        cycled_more m.cells.profile full40 m.cycles _ _ ∙
        ap (cycled_of m.cells.profile full40 m.cycles) (charge_falls m.cells.profile p m.charge last c w.charge j)

    plain_more : convert_of (plainly (suc j)) raw ≡ stretched_of m raw (suc (suc j))
    unfolding convert_of flowed_of stretched_of flowed_over flow_over trace_over
    plain_more =
        ap after (next_same (offset_turn (average_over m.flow.average c (suc j)))) ∙
        (let e = charge_more m.cells.profile p m.charge last c w.charge j in
        λ i. left m full40 (e i) (cycles_on (e i)) (flow_more m.flow limits c j i)
        (found_more m.flow limits c (suc j) q i)) ∙
        (λ i. left m full40 (charge_after (suc (suc j))) (cycles_more i) (flow_over m.flow c (suc (suc j))) (found_over m.flow limits c (suc (suc j))))

    stretched_more : convert_of (stretched_of m raw (suc j)) raw ≡ stretched_of m raw (suc (suc j))
    stretched_more = ap (λ (x : Meter). convert_of x raw) stretched_plain ∙ plain_more

  -- k conversions, at least one, are a stretch
  pub stretched : (j : ℕ) → Quiet m.flow (suc j) → sampled_of m raw (suc j) ≡ stretched_of m raw (suc j)
  unfolding sampled_of
  stretched zero q = stretched_one
  stretched (suc j) q =
      ap (λ (x : Meter). convert_of x raw) (stretched j (⊎_elim (λ h. inl (omega arith)) inr q)) ∙ stretched_more j q

pub flowed_over_wf : (m : Meter) (p : Limits) (full40 c k : ℕ) → full40 ≤ 65535 → c ≤ 65535 → MeterWf m → MeterWf (flowed_over m p full40 c k)
unfolding flowed_over flow_over
flowed_over_wf m p full40 c k q h w = record {
  charge = settled_wf m.charge m.shown.model.full full40 w.charge _ w.full (λ e. q);
  average = average_wf m.flow.average c k h w.average;
  full = w.full;
  volt = w.volt;
  temp = w.temp;
}

-- ---- one after the other

sampled_sum : (m : Meter) (raw a b : ℕ) → sampled_of (sampled_of m raw a) raw b ≡ sampled_of m raw (a + b)
unfolding sampled_of
sampled_sum m raw a zero = rw add-zero
sampled_sum m raw a (suc b) = rw add-suc (ap (λ (x : Meter). convert_of x raw) (sampled_sum m raw a b))

pub sampled_first : (m : Meter) (raw n : ℕ) → sampled_of (convert_of m raw) raw n ≡ sampled_of m raw (suc n)
unfolding sampled_of
sampled_first m raw n =
    let e : 1 + n ≡ suc n = omega arith in
    sampled_sum m raw 1 n ∙ ap (sampled_of m raw) e

pub sampled_more : (m : Meter) (raw n : ℕ) → sampled_of m raw (n + 1) ≡ convert_of (sampled_of m raw n) raw
unfolding sampled_of
sampled_more m raw n = rw add-one

-- ---- how far a stretch reaches

pub neither : (x y : Bool) → either x y ≡ false → (x ≡ false) × (y ≡ false)
neither true true e = (e, e)
neither true false e = (e, refl)
neither false y e = (refl, e)

reach_quiet : (f : Flow) (left : ℕ) → Quiet f (reach_of f.average f.since.any left)
unfolding reach_of
reach_quiet f left =
    picked (Quiet f) (either f.since.any (offset_turn f.average)) _ _ (λ e. inl (omega arith)) (λ e. inr (neither _ _ e))

-- what is left after a stretch comes to the same
pub reached_more : (m y : Meter) (raw left k : ℕ) → MeterWf m → k ≡ reach_of m.flow.average m.flow.since.any left → 1 ≤ k → k ≤ left →
    y ≡ stretched_of m raw k → sampled_of y raw (left - k) ≡ sampled_of m raw left
reached_more m y raw left zero w e some fits f = absurd (omega arith)
reached_more m y raw left (suc j) w e some fits f =
    let q = subst (Quiet m.flow) (sym e) (reach_quiet m.flow left) in
    ap (λ (x : Meter). sampled_of x raw (left - suc j)) (f ∙ sym (stretched m raw w j q)) ∙ sampled_sum m raw (suc j) (left - suc j) ∙
    ap (sampled_of m raw) (omega arith)
