-- The state of a session as bytes: one layout for each struct of the state, in the order of `state`; and which bytes are a state.
use Rattle.std.specs.Prelude.{◌≡◌, Result, Ok, Err, ⊤, Bool, true, List, ◌∷◌, ◌++◌, ℕ, ◌+◌, ◌*◌, ◌^◌, eqb, leb, ltb, length, get_or}
use Rattle.numbers.specs.Choice.{pick, both}
use Rattle.slices.specs.Slices.{put}
use Rattle.bus.specs.Ask.{same_bytes}
use Rattle.state.specs.declared.Average.{Average}
use Rattle.state.specs.declared.Block.{Block}
use Rattle.state.specs.declared.Cells.{Cells}
use Rattle.state.specs.declared.Charge.{Charge}
use Rattle.state.specs.declared.Common.{Common}
use Rattle.state.specs.declared.Cycles.{Cycles}
use Rattle.state.specs.declared.Flags.{Flags}
use Rattle.state.specs.declared.Flow.{Flow}
use Rattle.state.specs.declared.Label.{Label}
use Rattle.state.specs.declared.Locks.{Locks}
use Rattle.state.specs.declared.Meter.{Meter}
use Rattle.state.specs.declared.Model.{Model}
use Rattle.state.specs.declared.Profile.{Profile}
use Rattle.state.specs.declared.Profile.TheVariants.{Ds2781, Ds2775}
use Rattle.state.specs.declared.Reading.{Reading}
use Rattle.state.specs.declared.Results.{Results}
use Rattle.state.specs.declared.Saved.{Saved}
use Rattle.state.specs.declared.Shown.{Shown}
use Rattle.state.specs.declared.Since.{Since}
use Rattle.state.specs.declared.Tick.{Tick}
use Rattle.state.specs.declared.Trace.{Trace}
use Rattle.state.specs.State.{counts_cycles, run_of}
use Rattle.gauge.specs.declared.Gauge.{Gauge}
use Rattle.runs.specs.declared.Session.{Session}
use Rattle.session_run.specs.SessionRun.{empty_of}
use Rattle.state_bytes.specs.declared.StateRefusal.{StateRefusal}
use Rattle.state_bytes.specs.declared.StateRefusal.TheVariants as why
use Rattle.state_bytes.specs.Layout.{Layout, number1, number2, number4, flag, bytes, ◌then◌, Fields, formed}

-- ---- a layout for each struct

abbrev pub saved_fields : Fields (ℕ × (ℕ × ℕ)) Saved
saved_fields = record {
  to = λ v. record { acr = v.0; aging = v.1.0; cycles = v.1.1 };
  from = λ s. (s.acr, (s.aging, s.cycles));
}

abbrev pub saved_layout : Layout Saved
saved_layout = formed saved_fields (number2 then number1 then number1)

abbrev pub profile_in : Bool → Profile
profile_in b = pick b Ds2775 Ds2781

abbrev pub profile_fields : Fields Bool Profile
profile_fields = record {
  to = profile_in;
  from = counts_cycles;
}

abbrev pub profile_layout : Layout Profile
profile_layout = formed profile_fields flag

abbrev pub locks_fields : Fields (Bool × Bool) Locks
locks_fields = record {
  to = λ v. record { lock = v.0; bl1 = v.1 };
  from = λ l. (l.lock, l.bl1);
}

abbrev pub locks_layout : Layout Locks
locks_layout = formed locks_fields (flag then flag)

abbrev pub charge_fields : Fields (ℕ × (ℕ × (Bool × (Bool × ℕ)))) Charge
charge_fields = record {
  to = λ v. record { aging = v.0; count = v.1.0; learnf = v.1.1.0; mark = v.1.1.1.0; age = v.1.1.1.1 };
  from = λ c. (c.aging, (c.count, (c.learnf, (c.mark, c.age))));
}

abbrev pub charge_layout : Layout Charge
charge_layout = formed charge_fields (number1 then number4 then flag then flag then number4)

abbrev pub cycles_fields : Fields (ℕ × ℕ) Cycles
cycles_fields = record {
  to = λ v. record { count = v.0; rest = v.1 };
  from = λ c. (c.count, c.rest);
}

abbrev pub cycles_layout : Layout Cycles
cycles_layout = formed cycles_fields (number1 then number4)

abbrev pub trace_fields : Fields (Bool × (ℕ × (ℕ × Bool))) Trace
trace_fields = record {
  to = λ v. record { two = v.0; before = v.1.0; last = v.1.1.0; any = v.1.1.1 };
  from = λ t. (t.two, (t.before, (t.last, t.any)));
}

abbrev pub trace_layout : Layout Trace
trace_layout = formed trace_fields (flag then number2 then number2 then flag)

abbrev pub since_fields : Fields (Bool × ℕ) Since
since_fields = record {
  to = λ v. record { any = v.0; lowest = v.1 };
  from = λ s. (s.any, s.lowest);
}

abbrev pub since_layout : Layout Since
since_layout = formed since_fields (flag then number2)

abbrev pub average_fields : Fields (ℕ × (ℕ × (Bool × ℕ))) Average
average_fields = record {
  to = λ v. record { sum = v.0; made = v.1.0; known = v.1.1.0; iavg = v.1.1.1 };
  from = λ a. (a.sum, (a.made, (a.known, a.iavg)));
}

abbrev pub average_layout : Layout Average
average_layout = formed average_fields (number4 then number2 then flag then number2)

abbrev pub tick_fields : Fields (Bool × ℕ) Tick
tick_fields = record {
  to = λ v. record { any = v.0; last = v.1 };
  from = λ t. (t.any, t.last);
}

abbrev pub tick_layout : Layout Tick
tick_layout = formed tick_fields (flag then number2)

abbrev pub flow_fields : Fields (Trace × (Since × (Average × Tick))) Flow
flow_fields = record {
  to = λ v. record { trace = v.0; since = v.1.0; average = v.1.1.0; tick = v.1.1.1 };
  from = λ f. (f.trace, (f.since, (f.average, f.tick)));
}

abbrev pub flow_layout : Layout Flow
flow_layout = formed flow_fields (trace_layout then since_layout then average_layout then tick_layout)

abbrev pub model_fields : Fields (ℕ × (ℕ × ℕ)) Model
model_fields = record {
  to = λ v. record { full = v.0; ae = v.1.0; se = v.1.1 };
  from = λ m. (m.full, (m.ae, m.se));
}

abbrev pub model_layout : Layout Model
model_layout = formed model_fields (number2 then number2 then number2)

abbrev pub results_fields : Fields (ℕ × (ℕ × (ℕ × ℕ))) Results
results_fields = record {
  to = λ v. record { rarc = v.0; rsrc = v.1.0; raac = v.1.1.0; rsac = v.1.1.1 };
  from = λ r. (r.rarc, (r.rsrc, (r.raac, r.rsac)));
}

abbrev pub results_layout : Layout Results
results_layout = formed results_fields (number1 then number1 then number2 then number2)

abbrev pub reading_fields : Fields (ℕ × (ℕ × Bool)) Reading
reading_fields = record {
  to = λ v. record { volt = v.0; temp = v.1.0; known = v.1.1 };
  from = λ r. (r.volt, (r.temp, r.known));
}

abbrev pub reading_layout : Layout Reading
reading_layout = formed reading_fields (number2 then number2 then flag)

abbrev pub flags_fields : Fields (Bool × (Bool × (Bool × Bool))) Flags
flags_fields = record {
  to = λ v. record { aef = v.0; chgtf = v.1.0; sef = v.1.1.0; porf = v.1.1.1 };
  from = λ f. (f.aef, (f.chgtf, (f.sef, f.porf)));
}

abbrev pub flags_layout : Layout Flags
flags_layout = formed flags_fields (flag then flag then flag then flag)

abbrev pub shown_fields : Fields (Model × (Results × (Reading × Flags))) Shown
shown_fields = record {
  to = λ v. record { model = v.0; results = v.1.0; reading = v.1.1.0; flags = v.1.1.1 };
  from = λ s. (s.model, (s.results, (s.reading, s.flags)));
}

abbrev pub shown_layout : Layout Shown
shown_layout = formed shown_fields (model_layout then results_layout then reading_layout then flags_layout)

abbrev pub block_fields : Fields (List ℕ × List ℕ) Block
block_fields = record {
  to = λ v. record { shadow = v.0; eeprom = v.1 };
  from = λ b. (b.shadow, b.eeprom);
}

abbrev pub block_layout : Layout Block
block_layout = formed block_fields (bytes 32 then bytes 32)

abbrev pub cells_fields : Fields (Saved × (Profile × (Locks × Block))) Cells
cells_fields = record {
  to = λ v. record { saved = v.0; profile = v.1.0; locks = v.1.1.0; block = v.1.1.1 };
  from = λ c. (c.saved, (c.profile, (c.locks, c.block)));
}

abbrev pub cells_layout : Layout Cells
cells_layout = formed cells_fields (saved_layout then profile_layout then locks_layout then block_layout)

-- what stands ahead of the blocks
abbrev pub head_bytes : Saved → Profile → Locks → List ℕ
head_bytes saved profile locks = saved_layout.out saved ++ (profile_layout.out profile ++ locks_layout.out locks)

abbrev pub meter_fields : Fields (Cells × (Charge × (Flow × (Cycles × Shown)))) Meter
meter_fields = record {
  to = λ v. record { cells = v.0; charge = v.1.0; flow = v.1.1.0; cycles = v.1.1.1.0; shown = v.1.1.1.1 };
  from = λ m. (m.cells, (m.charge, (m.flow, (m.cycles, m.shown))));
}

abbrev pub meter_layout : Layout Meter
meter_layout = formed meter_fields (cells_layout then charge_layout then flow_layout then cycles_layout then shown_layout)

-- its bytes from the cycle counter, from the flow and from the charge on
abbrev pub from_cycles : Meter → List ℕ
from_cycles meter = cycles_layout.out meter.cycles ++ shown_layout.out meter.shown

abbrev pub from_flow : Meter → List ℕ
from_flow meter = flow_layout.out meter.flow ++ from_cycles meter

abbrev pub from_charge : Meter → List ℕ
from_charge meter = charge_layout.out meter.charge ++ from_flow meter

abbrev pub label_fields : Fields (List ℕ × List ℕ) Label
label_fields = record {
  to = λ v. record { shadow = v.0; eeprom = v.1 };
  from = λ l. (l.shadow, l.eeprom);
}

abbrev pub label_layout : Layout Label
label_layout = formed label_fields (bytes 16 then bytes 16)

abbrev pub common_fields : Fields (List ℕ × Bool) Common
common_fields = record {
  to = λ v. record { address = v.0; bl0 = v.1 };
  from = λ c. (c.address, c.bl0);
}

abbrev pub common_layout : Layout Common
common_layout = formed common_fields (bytes 8 then flag)

abbrev pub gauge_fields : Fields (Label × (Common × Meter)) Gauge
gauge_fields = record {
  to = λ v. record { label = v.0; common = v.1.0; meter = v.1.1 };
  from = λ g. (g.label, (g.common, g.meter));
}

abbrev pub gauge_layout : Layout Gauge
gauge_layout = formed gauge_fields (label_layout then common_layout then meter_layout)

abbrev pub session_fields : Fields (Bool × Gauge) Session
session_fields = record {
  to = λ v. record { loaded = v.0; gauge = v.1 };
  from = λ s. (s.loaded, s.gauge);
}

abbrev pub session_layout : Layout Session
session_layout = formed session_fields (flag then gauge_layout)

-- ---- well-formed, as a test: `MeterWf`, and where the profile has no cycle counter none is counted

unfoldable pub sound_charge : Charge → Bool
sound_charge charge =
    both (ltb charge.count (2 ^ 28)) (both (ltb charge.age (32 * 65535)) (both (leb 63 charge.aging) (leb charge.aging 128)))

unfoldable pub sound_average : Average → Bool
sound_average average = both (ltb average.made 1024) (leb average.sum (65535 * run_of average))

unfoldable pub sound_shown : Shown → Bool
sound_shown shown = both (leb shown.model.full 16384) (both (leb shown.reading.volt 1023) (ltb shown.reading.temp (2 ^ 11)))

-- by the profile, the counter and the saved cell
unfoldable pub uncounted_by : Profile → Cycles → ℕ → Bool
uncounted_by profile cycles saved =
    pick (counts_cycles profile) true (both (eqb cycles.count 0) (both (eqb cycles.rest 0) (eqb saved 0)))

unfoldable pub sound_meter : Meter → Bool
sound_meter meter =
    both (sound_charge meter.charge)
    (both (sound_average meter.flow.average)
    (both (sound_shown meter.shown) (uncounted_by meter.cells.profile meter.cycles meter.cells.saved.cycles)))

-- ---- the state of a session as bytes

-- the first byte: which layout it is
abbrev pub version : ℕ
version = 1

abbrev pub state_size : ℕ
state_size = 1 + session_layout.size

unfoldable pub state_bytes : Session → List ℕ
state_bytes session = version ∷ session_layout.out session

unfoldable pub session_at : List ℕ → Session
session_at b = session_layout.at b 1

-- where the flags of a state stand
abbrev pub flag_places : List ℕ
flag_places = session_layout.flags_from 1

-- ---- which bytes are a state

-- the number of a refusal: 50 where the bytes are too few or too many, 51 for another version, 52 where they are not the bytes of what they say, or that
-- is not well-formed
abbrev pub state_refusal_number : StateRefusal → ℕ
state_refusal_number why.Size = 50
state_refusal_number why.Version = 51
state_refusal_number why.Unsound = 52

-- what was read, as a number: 0, or that of the refusal
abbrev pub number_in : {A : Type 0} → Result A StateRefusal → ℕ
number_in (Ok v) = 0
number_in (Err r) = state_refusal_number r

-- whether something was read, and why not
abbrev pub checked : {A : Type 0} → Result A StateRefusal → Result ⊤ StateRefusal
checked (Ok v) = Ok tt
checked (Err r) = Err r

-- what was read, or else another value
abbrev pub value_or : {A : Type 0} → A → Result A StateRefusal → A
value_or other (Ok v) = v
value_or other (Err r) = other

abbrev pub StateIn : Type 0
StateIn = Result Session StateRefusal

-- the state that was read; that before the first record where the bytes are none
abbrev pub session_in : StateIn → Session
session_in = value_or empty_of

unfoldable pub state_in : List ℕ → StateIn
state_in b =
    pick (eqb (length b) state_size)
    (pick (eqb (get_or b 0 0) version)
    (pick (both (sound_meter (session_at b).gauge.meter) (same_bytes (state_bytes (session_at b)) b)) (Ok (session_at b))
    (Err why.Unsound))
    (Err why.Version))
    (Err why.Size)

-- a room of so many bytes at least, or the refusal of a smaller one
abbrev pub room_for : ℕ → List ℕ → Result ⊤ StateRefusal
room_for size room = pick (leb size (length room)) (Ok tt) (Err why.Size)

-- the bytes at the front of a lent room, the rest untouched; nothing is written where they do not fit
pub record StateOut (σ : Session) (room : List ℕ) (done : Result ⊤ StateRefusal) (after : List ℕ) : Type 0 where
  pub fits : done ≡ room_for state_size room
  pub written : after ≡ pick (leb state_size (length room)) (put room 0 (state_bytes σ)) room
