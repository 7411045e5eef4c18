-- What a stretch comes to: k conversions of the same c, k at least 1, of which none but the last may find full. Currents are kept as z + 2^15.
use Rattle.std.specs.Prelude.{◌≡◌, Bool, true, false, ◌⊎◌, ℕ, ◌+◌, ◌-◌, ◌*◌, ◌/◌, ◌%◌, ◌^◌, ◌≤◌, min, max, ltb, leb, eqb}
use Rattle.numbers.specs.Offset.{zero_at}
use Rattle.numbers.specs.Choice.{pick, both, either, but_not}
use Rattle.params.specs.declared.Counting.{Counting}
use Rattle.params.specs.declared.Limits.{Limits}
use Rattle.params.specs.Params.{counting_of, limits_of, capacity_of}
use Rattle.state.specs.declared.Profile.{Profile}
use Rattle.state.specs.declared.Charge.{Charge}
use Rattle.state.specs.declared.Trace.{Trace}
use Rattle.state.specs.State.{acr_of, run_of}
use Rattle.conversion.specs.Conversion.{turned_of, blanked_of, fall_of, with_flags, offset_turn, renewed_of, found_of, settled_of, converted_of, filled_flags}
use Rattle.conversion.specs.Conversion.{charged_of}
use Rattle.state.specs.declared.Average.{Average}
use Rattle.state.specs.declared.Flow.{Flow}
use Rattle.state.specs.declared.Meter.{Meter}
use Rattle.conversion.specs.declared.Age.{Age}

-- ---- steps 1 to 5

-- step 3: what is added has one sign, so that one clamp does
abbrev pub grown_over : ℕ → ℕ → ℕ → ℕ → ℕ
grown_over count counted ab k = min (count + k * (counted + ab) - k * (zero_at 15 + zero_at 7)) (2 ^ 28 - 1)

-- step 4: how often AS falls, by the age counter with all that ACR fell. ACR falls by less than 32 × AC at a time, so that AS falls at
-- each conversion, or as often as 32 × AC goes into the counter; with AC = 0 never
abbrev pub drops_over : ℕ → ℕ → ℕ → ℕ
drops_over ac age k = min k (age / (32 * ac))

-- the age counter and AS after so many falls of AS
abbrev pub age_over : ℕ → ℕ → ℕ → ℕ
age_over ac age drops = pick (eqb ac 0) 0 (age - drops * (32 * ac))

abbrev pub aging_over : ℕ → ℕ → ℕ
aging_over aging drops = max (aging - drops) 63

-- both, by the age counter before anything is taken off
unfoldable pub worn_over : ℕ → ℕ → ℕ → ℕ → Age
worn_over ac age aging k =
    let drops = drops_over ac age k in
    record { age = age_over ac age drops; aging = aging_over aging drops }

-- "The first conversion after an ACR write .. adds nothing to the count": the others add
unfoldable pub adds_over : Bool → ℕ → ℕ
adds_over mark k = pick mark (k - 1) k

abbrev pub count_over : Profile → Counting → Charge → ℕ → ℕ → ℕ
count_over profile counting charge c k = grown_over charge.count (blanked_of profile counting.nben c) counting.ab (adds_over charge.mark k)

-- the age counter with all that ACR fell, before anything is taken off
abbrev pub fallen_over : Profile → Counting → Charge → ℕ → ℕ → ℕ
fallen_over profile counting charge c k = charge.age + fall_of charge.count (count_over profile counting charge c k)

-- step 5: ACR is 0 after some conversion where it is after the first or the last, since it goes one way
abbrev pub empty_over : Profile → Counting → Charge → ℕ → ℕ → Bool
empty_over profile counting charge c count = either (eqb (acr_of (count_over profile counting charge c 1)) 0) (eqb (acr_of count) 0)

-- LEARNF, which steps 1 and 5 clear; count is that after the last
unfoldable pub learnf_over : Profile → Counting → Charge → ℕ → ℕ → ℕ → Bool
learnf_over profile counting charge last c count =
    but_not (but_not charge.learnf (turned_of last c)) (empty_over profile counting charge c count)

unfoldable pub charge_over : Profile → Counting → Charge → ℕ → ℕ → ℕ → Charge
charge_over profile counting charge last c k =
    let worn = worn_over counting.ac (fallen_over profile counting charge c k) charge.aging k in
    record {
      count = count_over profile counting charge c k;
      age = worn.age;
      aging = worn.aging;
      learnf = learnf_over profile counting charge last c (count_over profile counting charge c k);
      mark = false;
    }

-- ---- CURRENT, and the c before it

unfoldable pub trace_over : Trace → ℕ → ℕ → Trace
trace_over trace c k = record { last = c; before = pick (eqb k 1) trace.last c; any = true; two = either (ltb 1 k) trace.any }

-- ---- step 6

-- a run of eight ends in the stretch
abbrev pub ends_over : Average → ℕ → Bool
ends_over average k = leb 8 (run_of average + k)

-- the run as its eighth conversion finds it
abbrev pub seventh_of : Average → ℕ → Average
seventh_of average c = record {
  made = (average.made + (7 - run_of average)) % 1024;
  sum = average.sum + (7 - run_of average) * c;
  iavg = average.iavg;
  known = average.known;
}

-- the average of the run that ends first, of which the stretch has the last; any that ends later has c alone, and c is its average
abbrev pub mean_over : Average → ℕ → ℕ → ℕ
mean_over average c k = pick (ltb (run_of average + k) 16) ((average.sum + (8 - run_of average) * c) / 8) c

unfoldable pub average_over : Average → ℕ → ℕ → Average
average_over average c k =
    pick (ends_over average k) (record { made = (average.made + k) % 1024; sum = (average.made + k) % 8 * c; iavg = mean_over average c k; known = true })
    (record { made = (average.made + k) % 1024; sum = average.sum + k * c; iavg = average.iavg; known = average.known })

-- full is found, where a run ends first
abbrev pub found_over : Flow → Limits → ℕ → ℕ → Bool
found_over flow limits c k = both (ends_over flow.average k) (found_of (seventh_of flow.average c) flow.since limits c)

unfoldable pub flow_over : Flow → ℕ → ℕ → Flow
flow_over flow c k = record {
  trace = trace_over flow.trace c k;
  average = average_over flow.average c k;
  since = renewed_of flow.since (ends_over flow.average k);
  tick = flow.tick;
}

unfoldable pub flowed_over : Meter → Limits → ℕ → ℕ → ℕ → Meter
flowed_over meter limits full40 c k =
    let found = found_over meter.flow limits c k in
    record {
      cells = meter.cells;
      charge = settled_of meter.charge found meter.shown.model.full full40;
      cycles = meter.cycles;
      flow = flow_over meter.flow c k;
      shown = with_flags meter.shown (filled_flags meter.shown.flags found);
    }

-- ---- the meter, as after k times `convert_of`

-- c is that of the first. Each later one has the same: a 1024th among them takes the c before it. What ACR fell in all is what the cycle
-- counter counts
unfoldable pub stretched_of : Meter → ℕ → ℕ → Meter
stretched_of meter raw k =
    let block = meter.cells.block.shadow in
    let p = counting_of block in
    let full40 = (capacity_of block).full40 in
    let c = converted_of meter.flow raw p.cob in
    let counted = charge_over meter.cells.profile p meter.charge meter.flow.trace.last c k in
    flowed_over (charged_of meter full40 counted) (limits_of block) full40 c k

-- it is that where no run of eight ends before the last conversion; or where no reading came since the last average, so that no full is found,
-- and the first is not a 1024th, which ends a run and has a c of its own
abbrev pub Quiet : Flow → ℕ → Type 0
Quiet flow k = (run_of flow.average + k ≤ 8) ⊎ ((flow.since.any ≡ false) × (offset_turn flow.average ≡ false))

-- how many of those that are left a stretch takes
unfoldable pub reach_of : Average → Bool → ℕ → ℕ
reach_of average any left = pick (either any (offset_turn average)) (min (8 - run_of average) left) left
