-- Reading, in the six steps of document 01, each in its order. Voltage and temperature come as z + 2^31, degrees are kept as z + 2^7 and currents
-- as z + 2^15 (offset form); beside a step that works on signed numbers stands its wording over the integers, `..Z`; Meaning.antt says that
-- both are the same.
use Rattle.std.specs.Prelude.{ℕ, zero, suc, ◌+◌, ◌-◌, ◌*◌, ◌/◌, ◌^◌, ◌≤◌, ◌<◌, min, max, Bool, true, ltb, leb, eqb, ℤ, pos, ◌+ℤ◌, ◌-ℤ◌, ◌*ℤ◌}
use Rattle.std.specs.Int.Signed.{lt_z, le_z}
use Rattle.numbers.specs.Choice.{pick, both, either, but_not}
use Rattle.numbers.specs.Offset.{zero_at, value, clamp_z, div_z, minus, or_zero, at_most_z, at_least_z}
use Rattle.params.specs.declared.Breaks.{Breaks}
use Rattle.params.specs.declared.Slopes.{Slopes}
use Rattle.params.specs.declared.Curves.{Curves}
use Rattle.params.specs.declared.Limits.{Limits}
use Rattle.params.specs.declared.Capacity.{Capacity}
use Rattle.params.specs.Params.{limits_of, capacity_of, curves_of}
use Rattle.state.specs.declared.Charge.{Charge}
use Rattle.state.specs.declared.Trace.{Trace}
use Rattle.state.specs.declared.Since.{Since}
use Rattle.state.specs.declared.Model.{Model}
use Rattle.state.specs.declared.Results.{Results}
use Rattle.state.specs.declared.Reading.{Reading}
use Rattle.state.specs.declared.Flags.{Flags}
use Rattle.state.specs.declared.Saved.{Saved}
use Rattle.state.specs.declared.Cells.{Cells}
use Rattle.state.specs.declared.Flow.{Flow}
use Rattle.state.specs.declared.Meter.{Meter}
use Rattle.state.specs.State.{acr_of}
use Rattle.conversion.specs.Conversion.{set_of, aged_full_of, share_of}
use Rattle.reading.specs.declared.Seen.{Seen}

-- ---- step 1

-- voltage clamped to 0..1,023
abbrev pub volt_of : ℕ → ℕ
volt_of raw = min (raw - zero_at 31) 1023

abbrev pub volt_z : ℤ → ℤ
volt_z raw = clamp_z (pos 0) (pos 1023) raw

-- temperature clamped to -1,024..1,023 eighths of a degree, kept as z + 2^10
abbrev pub temp_of : ℕ → ℕ
temp_of raw = min (raw - (zero_at 31 - zero_at 10)) (2 ^ 11 - 1)

abbrev pub temp_z : ℤ → ℤ
temp_z raw = clamp_z (minus 1024) (pos 1023) raw

-- T = the temperature rounded to the nearest degree, halves upward, kept as z + 2^7: -128 to 128
abbrev pub degrees_of : ℕ → ℕ
degrees_of temp = (temp + 4) / 8

abbrev pub degrees_z : ℤ → ℤ
degrees_z temp = div_z (temp +ℤ pos 4) 8

-- ---- step 2

-- the step from t + 1 to t takes segment 4 if t ≥ TBP34, else 3 if t ≥ TBP23, else 2 if t ≥ TBP12, else 1
abbrev pub slope_of : Breaks → Slopes → ℕ → ℕ
slope_of breaks slopes t =
    pick (leb breaks.b34 t) slopes.s4 (pick (leb breaks.b23 t) slopes.s3 (pick (leb breaks.b12 t) slopes.s2 slopes.s1))

abbrev pub slope_z : Breaks → Slopes → ℤ → ℕ
slope_z breaks slopes t =
    pick (le_z (value 7 breaks.b34) t) slopes.s4
    (pick (le_z (value 7 breaks.b23) t) slopes.s3 (pick (le_z (value 7 breaks.b12) t) slopes.s2 slopes.s1))

abbrev pub forty : ℕ
forty = zero_at 7 + 40

-- the slopes of the first n steps going down from 40: the step number n + 1 leads to 39 - n
unfoldable pub slopes_over : Breaks → Slopes → ℕ → ℕ
slopes_over breaks slopes zero = 0
slopes_over breaks slopes (suc n) = slopes_over breaks slopes n + slope_of breaks slopes (forty - 1 - n)

unfoldable pub slopes_over_z : Breaks → Slopes → ℕ → ℕ
slopes_over_z breaks slopes zero = 0
slopes_over_z breaks slopes (suc n) = slopes_over_z breaks slopes n + slope_z breaks slopes (pos 39 -ℤ pos n)

-- the slopes going down from 40 to t: 40 - t steps, none where t ≥ 40
abbrev pub slopes_to : Breaks → Slopes → ℕ → ℕ
slopes_to breaks slopes t = slopes_over breaks slopes (forty - t)

abbrev pub slopes_z : Breaks → Slopes → ℤ → ℕ
slopes_z breaks slopes t = slopes_over_z breaks slopes (or_zero (pos 40 -ℤ t))

-- FULL = 16,384 less the Full slopes, at least 8,192
abbrev pub full_line_of : ℕ → ℕ
full_line_of slopes = max (16384 - slopes) 8192

abbrev pub full_line_z : ℕ → ℤ
full_line_z slopes = at_least_z (pos 8192) (pos 16384 -ℤ pos slopes)

-- AE = 16 × byte 68h plus AE slopes, SE = SE slopes, each at most 8,191
abbrev pub empty_line_of : ℕ → ℕ → ℕ
empty_line_of start slopes = min (16 * start + slopes) 8191

-- the three lines at t
unfoldable pub model_lines : Curves → ℕ → Model
model_lines curves t = record {
  full = full_line_of (slopes_to curves.breaks curves.full t);
  ae = empty_line_of curves.start (slopes_to curves.breaks curves.ae t);
  se = empty_line_of 0 (slopes_to curves.breaks curves.se t);
}

-- ---- step 3

-- VOLT ≥ 4 × VAE
abbrev pub holds_of : ℕ → ℕ → Bool
holds_of volt vae = leb (4 * vae) volt

-- what a reading sees: steps 1 and 2, with this test
unfoldable pub seen_of : Limits → Curves → ℕ → ℕ → Seen
seen_of limits curves v t = record {
  volt = volt_of v;
  temp = temp_of t;
  holds = holds_of (volt_of v) limits.vae;
  lines = model_lines curves (degrees_of (temp_of t));
}

-- what holds of it (a clause, as ChargeWf)
pub record SeenWf (s : Seen) : Type 0 where
  pub volt : s.volt ≤ 1023
  pub temp : s.temp < 2 ^ 11
  pub full : s.lines.full ≤ 16384
  pub ae : s.lines.ae ≤ 8191

-- a current that is below -128 × IAE
abbrev pub drains_of : ℕ → ℕ → Bool
drains_of c iae = ltb c (zero_at 15 - 128 * iae)

abbrev pub drains_z : ℤ → ℕ → Bool
drains_z c iae = lt_z c (minus (128 * iae))

-- the last two CURRENTs exist and are both < -128 × IAE
unfoldable pub draining_of : Trace → ℕ → Bool
draining_of trace iae = both (both trace.any trace.two) (both (drains_of trace.last iae) (drains_of trace.before iae))

-- the empty point: the previous reading exists and was ≥ 4 × VAE, and the currents are such
unfoldable pub point_of : Reading → Trace → Limits → Bool
point_of previous trace limits = both (both previous.known (holds_of previous.volt limits.vae)) (draining_of trace limits.iae)

-- at VOLT ≥ 4 × VAE this whole step is skipped. At the empty point ACR = E, fraction 0, LEARNF = (E > 0). Otherwise, with LEARNF 0 and ACR > E:
-- ACR = E, fraction 0
unfoldable pub emptied_of : Charge → Bool → Bool → ℕ → Charge
emptied_of charge holds point e =
    pick holds charge
    (pick point (set_of charge e (ltb 0 e))
    (pick (but_not (ltb e (acr_of charge.count)) charge.learnf) (set_of charge e charge.learnf) charge))

-- with E = AE × Full40 / 16,384 rounded down
unfoldable pub drained_of : Meter → Limits → ℕ → Seen → Charge
drained_of meter limits full40 seen =
    emptied_of meter.charge seen.holds (point_of meter.shown.reading meter.flow.trace limits) (share_of seen.lines.ae full40)

-- ---- step 4. With N ≤ 0 or D ≤ 0 the truncating difference is 0, and so is what is divided, or divided by 0

-- N = 16,384 × ACR - AE × Full40
unfoldable pub left_of : ℕ → ℕ → ℕ → ℕ
left_of acr empty full40 = 16384 * acr - empty * full40

abbrev pub left_z : ℕ → ℕ → ℕ → ℤ
left_z acr empty full40 = pos (16384 * acr) -ℤ pos (empty * full40)

-- D = (AF - AE) × Full40
unfoldable pub usable_of : ℕ → ℕ → ℕ → ℕ
usable_of aged_full empty full40 = (aged_full - empty) * full40

abbrev pub usable_z : ℕ → ℕ → ℕ → ℤ
usable_z aged_full empty full40 = (pos aged_full -ℤ pos empty) *ℤ pos full40

-- RARC = 100 × N / D rounded down, at most 100; 0 if N ≤ 0 or D ≤ 0. N and D are kept as 0 where they are below 0, and a quotient by 0 is 0, so both
-- cases are in it; `percent_z` has them apart
unfoldable pub percent_of : ℕ → ℕ → ℕ
percent_of n d = min (100 * n / d) 100

abbrev pub percent_z : ℤ → ℤ → ℤ
percent_z n d = pick (either (le_z n (pos 0)) (le_z d (pos 0))) (pos 0) (at_most_z (pos 100) (div_z (pos 100 *ℤ n) (or_zero d)))

-- RAAC = N × RSNSP / 2^22 rounded down, 0 if N ≤ 0
unfoldable pub amount_of : ℕ → ℕ → ℕ
amount_of n rsnsp = n * rsnsp / 2 ^ 22

abbrev pub amount_z : ℤ → ℕ → ℤ
amount_z n rsnsp = pick (le_z n (pos 0)) (pos 0) (div_z (n *ℤ pos rsnsp) (2 ^ 22))

-- RSRC, RSAC likewise with SE
unfoldable pub results_of : Model → ℕ → ℕ → Capacity → Results
results_of lines acr aged_full capacity = record {
  rarc = percent_of (left_of acr lines.ae capacity.full40) (usable_of aged_full lines.ae capacity.full40);
  rsrc = percent_of (left_of acr lines.se capacity.full40) (usable_of aged_full lines.se capacity.full40);
  raac = amount_of (left_of acr lines.ae capacity.full40) capacity.rsnsp;
  rsac = amount_of (left_of acr lines.se capacity.full40) capacity.rsnsp;
}

-- AF of the lines, and ACR as step 3 left it
unfoldable pub rated_of : Charge → Model → Capacity → Results
rated_of charge lines capacity = results_of lines (acr_of charge.count) (aged_full_of lines.full charge.aging) capacity

-- ---- step 5, and AEF of step 3

unfoldable pub flagged_of : Flags → Bool → Results → Flags
flagged_of flags holds results = record {
  porf = flags.porf;
  chgtf = but_not flags.chgtf (ltb results.rarc 90);
  aef = pick holds (but_not flags.aef (ltb 5 results.rarc)) true;
  sef = either (ltb results.rsrc 10) (but_not flags.sef (ltb 15 results.rsrc));
}

-- ---- step 6

-- unless first since power-on, if RARC divided by 4, rounded down, has changed
abbrev pub saves_of : Bool → ℕ → ℕ → Bool
saves_of known before rarc = but_not known (eqb (before / 4) (rarc / 4))

-- ACR and AS go to the saved cells, and the cycle counter "together with ACR and AS"
unfoldable pub kept_of : Saved → Bool → Charge → ℕ → Saved
kept_of saved save charge cycles = record {
  acr = pick save (acr_of charge.count) saved.acr;
  aging = pick save charge.aging saved.aging;
  cycles = pick save cycles saved.cycles;
}

-- ---- what full detection asks of readings: the lowest VOLT since the previous IAVG

unfoldable pub lowered_of : Since → ℕ → Since
lowered_of since volt = record { any = true; lowest = pick since.any (min since.lowest volt) volt }

-- ---- all six

abbrev pub with_saved : Cells → Saved → Cells
with_saved cells saved = record { profile = cells.profile; block = cells.block; locks = cells.locks; saved = saved }

abbrev pub with_since : Flow → Since → Flow
with_since flow since = record { trace = flow.trace; average = flow.average; since = since; tick = flow.tick }

-- steps 5 and 6
unfoldable pub results_shown : Meter → Seen → Charge → Results → Meter
results_shown meter seen charge results = record {
  cells =
      with_saved meter.cells
      (kept_of meter.cells.saved (saves_of meter.shown.reading.known meter.shown.results.rarc results.rarc) charge meter.cycles.count);
  charge = charge;
  cycles = meter.cycles;
  flow = with_since meter.flow (lowered_of meter.flow.since seen.volt);
  shown = record {
    model = seen.lines;
    results = results;
    reading = record { volt = seen.volt; temp = seen.temp; known = true };
    flags = flagged_of meter.shown.flags seen.holds results;
  };
}

unfoldable pub read_of : Meter → ℕ → ℕ → Meter
read_of meter v t =
    let block = meter.cells.block.shadow in
    let p = limits_of block in
    let full = capacity_of block in
    let s = seen_of p (curves_of block) v t in
    let g = drained_of meter p full.full40 s in
    results_shown meter s g (rated_of g s.lines full)

-- ---- what a reading of a voltage and a temperature finds in a meter

abbrev pub seen_in : Meter → ℕ → ℕ → Seen
seen_in meter volt temp = let block = meter.cells.block.shadow in seen_of (limits_of block) (curves_of block) volt temp

-- E
abbrev pub empty_in : Meter → ℕ → ℕ → ℕ
empty_in meter volt temp = share_of (seen_in meter volt temp).lines.ae (capacity_of meter.cells.block.shadow).full40

-- the empty point
abbrev pub point_in : Meter → Bool
point_in meter = point_of meter.shown.reading meter.flow.trace (limits_of meter.cells.block.shadow)

-- step 3 sets ACR outright: below 4 × VAE, at the empty point, or where ACR is above E with LEARNF 0
abbrev pub corrects_empty : Meter → ℕ → ℕ → Bool
corrects_empty meter volt temp =
    let above = ltb (empty_in meter volt temp) (acr_of meter.charge.count) in
    but_not (either (point_in meter) (but_not above meter.charge.learnf)) (seen_in meter volt temp).holds

-- ACR = E, fraction 0; at the empty point LEARNF = (E > 0)
abbrev pub emptied_in : Meter → ℕ → ℕ → Charge
emptied_in meter volt temp = let e = empty_in meter volt temp in set_of meter.charge e (pick (point_in meter) (ltb 0 e) meter.charge.learnf)
