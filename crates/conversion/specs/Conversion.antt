-- Conversion, in the six steps of document 01, each in its order. Currents are kept as z + 2^15 (offset form); beside a step that works on signed
-- numbers stands its wording over the integers, `..Z`; Meaning.antt says that both are the same.
use Rattle.std.specs.Prelude.{ℕ, ◌+◌, ◌-◌, ◌*◌, ◌/◌, ◌%◌, ◌^◌, min, max, Bool, true, false, not, List, [], ◌∷◌, ltb, eqb, ℤ, pos, ◌+ℤ◌, ◌-ℤ◌}
use Rattle.std.specs.Int.Signed.{lt_z, le_z}
use Rattle.numbers.specs.Choice.{pick, both, either, but_not}
use Rattle.numbers.specs.Offset.{zero_at, moved_into, value, clamp_z, div_z, minus, or_zero}
use Rattle.params.specs.declared.Counting.{Counting}
use Rattle.params.specs.declared.Limits.{Limits}
use Rattle.params.specs.Params.{counting_of, limits_of, capacity_of}
use Rattle.state.specs.declared.Profile.{Profile}
use Rattle.state.specs.declared.Profile.TheVariants.{Ds2781, Ds2775}
use Rattle.state.specs.declared.Charge.{Charge}
use Rattle.state.specs.declared.Cycles.{Cycles}
use Rattle.state.specs.declared.Trace.{Trace}
use Rattle.state.specs.declared.Average.{Average}
use Rattle.state.specs.declared.Since.{Since}
use Rattle.state.specs.declared.Flags.{Flags}
use Rattle.state.specs.declared.Flow.{Flow}
use Rattle.state.specs.declared.Shown.{Shown}
use Rattle.state.specs.declared.Meter.{Meter}
use Rattle.state.specs.State.{acr_of, run_of, blanking_edge_of, counts_cycles}
use Rattle.conversion.specs.declared.Age.{Age}
use Rattle.conversion.specs.declared.Stepped.{Stepped}

-- ---- a meter with one of its parts replaced

abbrev pub with_charge : Meter → Charge → Meter
with_charge meter charge = record { cells = meter.cells; charge = charge; cycles = meter.cycles; flow = meter.flow; shown = meter.shown }

abbrev pub with_cycles : Meter → Cycles → Meter
with_cycles meter cycles = record { cells = meter.cells; charge = meter.charge; cycles = cycles; flow = meter.flow; shown = meter.shown }

abbrev pub with_flow : Meter → Flow → Meter
with_flow meter flow = record { cells = meter.cells; charge = meter.charge; cycles = meter.cycles; flow = flow; shown = meter.shown }

abbrev pub with_flags : Shown → Flags → Shown
with_flags shown flags = record { model = shown.model; results = shown.results; reading = shown.reading; flags = flags }

-- ---- step 1

-- c = raw + COB, clamped to -32,768..32,767. raw is kept as z + 2^31, COB as z + 2^7
abbrev pub current_of : ℕ → ℕ → ℕ
current_of raw cob = min (raw + cob - (zero_at 31 + zero_at 7 - zero_at 15)) (2 ^ 16 - 1)

abbrev pub current_z : ℤ → ℤ → ℤ
current_z raw cob = clamp_z (minus 32768) (pos 32767) (raw +ℤ cob)

-- conversions since power-on are counted modulo 1,024: one more
abbrev pub next_made : ℕ → ℕ
next_made made = (made + 1) % 1024

-- "every 1024th conversion measures the offset": the one that comes next
abbrev pub offset_turn : Average → Bool
offset_turn average = eqb average.made 1023

-- "On the 1024th, the previous c is shown, averaged and counted; the raw value is ignored."
abbrev pub converted_of : Flow → ℕ → ℕ → ℕ
converted_of flow raw cob = pick (offset_turn flow.average) flow.trace.last (current_of raw cob)

-- c < 0
abbrev pub negative : ℕ → Bool
negative c = ltb c (zero_at 15)

abbrev pub negative_z : ℤ → Bool
negative_z c = lt_z c (pos 0)

-- c < 0 and the previous c was not negative: LEARNF clears
abbrev pub turned_of : ℕ → ℕ → Bool
turned_of last c = both (negative c) (not (negative last))

abbrev pub turned_z : ℤ → ℤ → Bool
turned_z last c = both (negative_z c) (not (negative_z last))

-- CURRENT = c, and the c before it
abbrev pub traced_of : Trace → ℕ → Trace
traced_of trace c = record { last = c; before = trace.last; any = true; two = trace.any }

-- ---- step 2: blanking, for the count only

-- 0 < c < 64 counts as 0; with NBEN, -16 < c < 0 counts as 0, and in the DS2775 profile -16 too
abbrev pub blanked_of : Profile → Bool → ℕ → ℕ
blanked_of profile nben c =
    pick
    (either (both (ltb (zero_at 15) c) (ltb c (zero_at 15 + 64))) (both nben (both (ltb (zero_at 15 - blanking_edge_of profile) c) (ltb c (zero_at 15)))))
    (zero_at 15) c

-- -16 < c < 0; in the DS2775 profile "-16 counts as 0" too
abbrev pub slight_z : Profile → ℤ → Bool
slight_z Ds2781 c = both (lt_z (minus 16) c) (lt_z c (pos 0))
slight_z Ds2775 c = both (le_z (minus 16) c) (lt_z c (pos 0))

abbrev pub blanked_z : Profile → Bool → ℤ → ℤ
blanked_z profile nben c = pick (either (both (lt_z (pos 0) c) (lt_z c (pos 64))) (both nben (slight_z profile c))) (pos 0) c

-- ---- step 3

-- ACR × 4,096 + fraction grows by that plus AB, clamped to 0..2^28 - 1. AB is kept as z + 2^7
abbrev pub grown_of : ℕ → ℕ → ℕ → ℕ
grown_of count counted ab = min (count + counted + ab - (zero_at 15 + zero_at 7)) (2 ^ 28 - 1)

abbrev pub grown_z : ℤ → ℤ → ℤ → ℤ
grown_z count counted ab = clamp_z (pos 0) (pos (2 ^ 28 - 1)) (count +ℤ (counted +ℤ ab))

-- "The first conversion after an ACR write .. adds nothing to the count, AB included."
abbrev pub added_of : Bool → ℕ → ℕ → ℕ → ℕ
added_of mark count counted ab = pick mark count (grown_of count counted ab)

abbrev pub added_z : Bool → ℤ → ℤ → ℤ → ℤ
added_z mark count counted ab = pick mark count (grown_z count counted ab)

-- the count after steps 2 and 3
abbrev pub new_count : Profile → Counting → Charge → ℕ → ℕ
new_count profile counting charge c = added_of charge.mark charge.count (blanked_of profile counting.nben c) counting.ab

-- ---- step 4

-- how far ACR fell
abbrev pub fall_of : ℕ → ℕ → ℕ
fall_of old new = acr_of old - acr_of new

abbrev pub fall_z : ℕ → ℕ → ℕ
fall_z old new = or_zero (pos old -ℤ pos new)

-- AC = 0 zeroes the counter. If it is at least 32 × AC, AS falls by 1, never below 63, and 32 × AC is taken off
abbrev pub aged_of : ℕ → ℕ → ℕ → Age
aged_of ac age aging =
    pick (eqb ac 0) (record { age = 0; aging = aging })
    (pick (ltb age (32 * ac)) (record { age = age; aging = aging }) (record { age = age - 32 * ac; aging = max (aging - 1) 63 }))

-- the age counter with a fall of ACR added, and AS
abbrev pub new_age : Profile → Counting → Charge → ℕ → Age
new_age profile counting charge c = aged_of counting.ac (charge.age + fall_of charge.count (new_count profile counting charge c)) charge.aging

-- ---- step 5

-- LEARNF clears at ACR = 0, and by step 1 where c turns negative
abbrev pub learning_of : Bool → ℕ → ℕ → ℕ → Bool
learning_of learnf last c count = but_not (but_not learnf (turned_of last c)) (eqb (acr_of count) 0)

-- the charge after steps 1 to 5; any conversion uses up the mark
unfoldable pub counted_of : Profile → Counting → Charge → ℕ → ℕ → Charge
counted_of profile counting charge last c = record {
  count = new_count profile counting charge c;
  age = (new_age profile counting charge c).age;
  aging = (new_age profile counting charge c).aging;
  learnf = learning_of charge.learnf last c (new_count profile counting charge c);
  mark = false;
}

-- a charge that follows another, and how far ACR fell between them, as the code hands them on
abbrev pub stepped_of : Charge → Charge → Stepped
stepped_of charge next = record { charge = next; fall = fall_of charge.count next.count }

-- ---- the cycle counter of the DS2775: it "advances by one for each twice Full40 that ACR has fallen, counted as ageing counts it"

-- "as many steps as fit", of what ACR fell since the last step; with Full40 = 0 none, since a quotient by 0 is 0
abbrev pub steps_of : ℕ → ℕ → ℕ
steps_of full40 fallen = fallen / (2 * full40)

-- "the rest carried, and that rest zeroed while Full40 is 0"
abbrev pub rest_of : ℕ → ℕ → ℕ
rest_of full40 fallen = pick (eqb full40 0) 0 (fallen % (2 * full40))

-- the counter after so far a fall; it "stops at 255"
abbrev pub advanced_of : ℕ → ℕ → ℕ → Cycles
advanced_of full40 count fallen = record { count = min (count + steps_of full40 fallen) 255; rest = rest_of full40 fallen }

-- a conversion in which ACR fell so far
unfoldable pub cycled_of : Profile → ℕ → Cycles → ℕ → Cycles
cycled_of profile full40 cycles fall = pick (counts_cycles profile) (advanced_of full40 cycles.count (cycles.rest + fall)) cycles

-- the charge that steps 1 to 5 leave; and the fall of ACR that ageing counts, which the cycle counter counts too
abbrev pub charged_of : Meter → ℕ → Charge → Meter
charged_of meter full40 charge = record {
  cells = meter.cells;
  charge = charge;
  cycles = cycled_of meter.cells.profile full40 meter.cycles (fall_of meter.charge.count charge.count);
  flow = meter.flow;
  shown = meter.shown;
}

-- ---- step 6

-- each eighth conversion
abbrev pub eighth : Average → Bool
eighth average = eqb (run_of average) 7

-- IAVG: the sum of eight c divided by 8, rounded down
abbrev pub mean_of : Average → ℕ → ℕ
mean_of average c = (average.sum + c) / 8

-- the run of eight goes on, or ends with IAVG
unfoldable pub averaged_of : Average → ℕ → Average
averaged_of average c =
    pick (eighth average) (record { made = next_made average.made; sum = 0; iavg = mean_of average c; known = true })
    (record { made = next_made average.made; sum = average.sum + c; iavg = average.iavg; known = average.known })

-- the average after some c, one after the other; their sum; the sum of eight c divided by 8, rounded down
abbrev pub averaged_over : Average → List ℕ → Average
averaged_over average [] = average
averaged_over average (c ∷ cs) = averaged_over (averaged_of average c) cs

abbrev pub sum_z : List ℕ → ℤ
sum_z [] = pos 0
sum_z (c ∷ cs) = value 15 c +ℤ sum_z cs

abbrev pub mean_z : List ℕ → ℤ
mean_z cs = div_z (sum_z cs) 8

-- the readings since the previous IAVG: none yet after an eighth conversion
unfoldable pub renewed_of : Since → Bool → Since
renewed_of since eighth = pick eighth (record { any = false; lowest = 0 }) since

-- in 1..32 × IMIN - 1
abbrev pub tapers_of : ℕ → ℕ → Bool
tapers_of imin x = both (ltb (zero_at 15) x) (ltb x (zero_at 15 + 32 * imin))

abbrev pub tapers_z : ℕ → ℤ → Bool
tapers_z imin x = both (le_z (pos 1) x) (le_z x (pos (32 * imin) -ℤ pos 1))

-- this and the previous IAVG both lie there
abbrev pub tapering_of : Average → ℕ → ℕ → Bool
tapering_of average imin c = both (tapers_of imin (mean_of average c)) (both average.known (tapers_of imin average.iavg))

-- at least one reading came since the previous IAVG, all above 4 × VCHG
abbrev pub above_of : Since → ℕ → Bool
above_of since vchg = both since.any (ltb (4 * vchg) since.lowest)

-- full is found by an eighth conversion
unfoldable pub found_of : Average → Since → Limits → ℕ → Bool
found_of average since limits c = both (tapering_of average limits.imin c) (above_of since limits.vchg)

-- then CHGTF sets
abbrev pub filled_flags : Flags → Bool → Flags
filled_flags flags found = record { porf = flags.porf; chgtf = either found flags.chgtf; aef = flags.aef; sef = flags.sef }

-- AS = ACR × 2^21 / (FULL × Full40), rounded down, moved into 63..128. It is asked with Full40 > 0 alone; a quotient by 0 would be 0
unfoldable pub learnt_of : ℕ → ℕ → ℕ → ℕ
learnt_of acr full full40 = moved_into 63 128 (acr * 2 ^ 21 / (full * full40))

-- that, if LEARNF and Full40 > 0
abbrev pub taught_of : Charge → ℕ → ℕ → ℕ
taught_of charge full full40 = pick (both charge.learnf (ltb 0 full40)) (learnt_of (acr_of charge.count) full full40) charge.aging

-- AS alone
abbrev pub with_as : Charge → ℕ → Charge
with_as charge aging = record { count = charge.count; age = charge.age; aging = aging; learnf = charge.learnf; mark = charge.mark }

-- the count set outright, by a correction (full found, the empty point, an ACR that is above E) or over the bus: ACR = acr, fraction 0,
-- LEARNF = learnf; AS, the age counter and the mark stay
abbrev pub set_of : Charge → ℕ → Bool → Charge
set_of charge acr learnf = record { count = acr * 4096; age = charge.age; aging = charge.aging; learnf = learnf; mark = charge.mark }

-- "a mark after an ACR write", which the bus alone sets
abbrev pub marked_of : Charge → Charge
marked_of charge = record { count = charge.count; age = charge.age; aging = charge.aging; learnf = charge.learnf; mark = true }

-- AF = FULL × AS / 128 rounded down
unfoldable pub aged_full_of : ℕ → ℕ → ℕ
aged_full_of full aging = full * aging / 128

-- a share of Full40 in units of 2^-14, as ACR: rounded down
unfoldable pub share_of : ℕ → ℕ → ℕ
share_of share full40 = share * full40 / 16384

-- the same rounded up: the charge at full, so that a full pack says 100
unfoldable pub share_up_of : ℕ → ℕ → ℕ
share_up_of share full40 = (share * full40 + 16383) / 16384

-- LEARNF clears; ACR = AF × Full40 / 16,384 rounded up, fraction 0
unfoldable pub filled_of : Charge → ℕ → ℕ → Charge
filled_of charge full full40 =
    let aging = taught_of charge full full40 in
    set_of (with_as charge aging) (share_up_of (aged_full_of full aging) full40) false

-- the charge after step 6
unfoldable pub settled_of : Charge → Bool → ℕ → ℕ → Charge
settled_of charge found full full40 = pick found (filled_of charge full full40) charge

-- CURRENT = c, and step 6: the run of eight goes on, or ends with IAVG, where full may be found
unfoldable pub flowed_of : Meter → Limits → ℕ → ℕ → Meter
flowed_of meter limits full40 c =
    let f = meter.flow in
    let found = both (eighth f.average) (found_of f.average f.since limits c) in
    record {
      cells = meter.cells;
      charge = settled_of meter.charge found meter.shown.model.full full40;
      cycles = meter.cycles;
      flow = record {
        trace = traced_of f.trace c;
        average = averaged_of f.average c;
        since = renewed_of f.since (eighth f.average);
        tick = f.tick;
      };
      shown = with_flags meter.shown (filled_flags meter.shown.flags found);
    }

-- ---- all six: steps 1 to 5, then step 6

unfoldable pub convert_of : Meter → ℕ → Meter
convert_of meter raw =
    let block = meter.cells.block.shadow in
    let p = counting_of block in
    let full40 = (capacity_of block).full40 in
    let c = converted_of meter.flow raw p.cob in
    let counted = counted_of meter.cells.profile p meter.charge meter.flow.trace.last c in
    flowed_of (charged_of meter full40 counted) (limits_of block) full40 c

-- ---- what a conversion of a raw current finds in a meter

-- its c
abbrev pub current_in : Meter → ℕ → ℕ
current_in meter raw = converted_of meter.flow raw (counting_of meter.cells.block.shadow).cob

-- the charge that steps 1 to 5 leave, which full detection finds
abbrev pub charge_in : Meter → ℕ → Charge
charge_in meter raw =
    counted_of meter.cells.profile (counting_of meter.cells.block.shadow) meter.charge meter.flow.trace.last (current_in meter raw)

-- step 6: full is found, and ACR is set outright
abbrev pub corrects_full : Meter → ℕ → Bool
corrects_full meter raw =
    let f = meter.flow in
    both (eighth f.average) (found_of f.average f.since (limits_of meter.cells.block.shadow) (current_in meter raw))

-- ---- conversions, one after the other

abbrev pub all_converted : List ℕ → Meter → Meter
all_converted [] meter = meter
all_converted (raw ∷ more) meter = all_converted more (convert_of meter raw)
