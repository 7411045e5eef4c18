-- What the gauge remembers: what tells the profiles apart, ticks, what holds of the state always, and what a power-on leaves. The structs: src/lib.rt.
use Rattle.std.specs.Prelude.{◌≡◌, ℕ, ◌+◌, ◌-◌, ◌*◌, ◌/◌, ◌%◌, ◌^◌, ◌<◌, ◌≤◌, Bool, true, false, length, nat_le}
use Rattle.numbers.specs.Choice.{pick, both}
use Rattle.numbers.specs.Offset.{moved_into, zero_at}
use Rattle.state.specs.declared.Profile.{Profile}
use Rattle.state.specs.declared.Profile.TheVariants.{Ds2781, Ds2775}
use Rattle.state.specs.declared.Average.{Average}
use Rattle.state.specs.declared.Cells.{Cells}
use Rattle.state.specs.declared.Charge.{Charge}
use Rattle.state.specs.declared.Cycles.{Cycles}
use Rattle.state.specs.declared.Flow.{Flow}
use Rattle.state.specs.declared.Label.{Label}
use Rattle.state.specs.declared.Meter.{Meter}
use Rattle.state.specs.declared.Saved.{Saved}
use Rattle.state.specs.declared.Shown.{Shown}
use Rattle.state.specs.declared.Tick.{Tick}

-- ---- the profile: the DS2781 of document 01 or the DS2775 of request [12]. All that tells the two apart, and nothing else does

-- "its family code .. as in 000": the first byte of the net address
abbrev pub family_of : Profile → ℕ
family_of Ds2781 = 0x3d
family_of Ds2775 = 0x32

-- how many bytes an image has: "one byte at the end of a 61-byte payload" is the saved cycle counter
abbrev pub image_size_of : Profile → ℕ
image_size_of Ds2781 = 60
image_size_of Ds2775 = 61

-- with NBEN, a c above minus this and below 0 counts as 0: "negative blanking takes in 25 µV itself, so -16 counts as 0"
abbrev pub blanking_edge_of : Profile → ℕ
blanking_edge_of Ds2781 = 16
blanking_edge_of Ds2775 = 17

-- whether there is "a cycle counter": it counts, is read and written at 1Eh, and is saved
abbrev pub counts_cycles : Profile → Bool
counts_cycles Ds2781 = false
counts_cycles Ds2775 = true

-- ---- the ticks of samples: a 16-bit counter of intervals of 3600/1024 s, which goes round

-- none is remembered after a power-on
abbrev pub no_tick : Tick
no_tick = record { any = false; last = 0 }

-- the one remembered after a sample
abbrev pub tick_of : ℕ → Tick
tick_of now = record { any = true; last = now }

-- "The elapsed ticks are the difference taken round the 16-bit counter, from the last kind 6 since power-on; the first counts as one."
abbrev pub elapsed_of : Tick → ℕ → ℕ
elapsed_of tick now = pick tick.any ((now + 2 ^ 16 - tick.last) % 2 ^ 16) 1

-- 11 "when the difference is 0 or above 64"
unfoldable pub timely_of : Tick → ℕ → Bool
timely_of tick now = both (nat_le 1 (elapsed_of tick now)) (nat_le (elapsed_of tick now) 64)

-- ---- what holds of it always

pub record LabelSized (l : Label) : Type 0 where
  pub shadow : length l.shadow ≡ 16
  pub eeprom : length l.eeprom ≡ 16

-- ACR and its fraction, of the count ACR × 4,096 + fraction
abbrev pub acr_of : ℕ → ℕ
acr_of count = count / 4096

abbrev pub fraction_of : ℕ → ℕ
fraction_of count = count % 4096

-- of every charge. (A clause of the functions, here and of every state above, and no ghost field: definitions build states of any numbers, and
-- each would have to hold a proof. No invariant of the type either: functions that ask nothing, such as `image_out`, would ask it.)
pub record ChargeWf (g : Charge) : Type 0 where
  pub count : g.count < 2 ^ 28
  pub age : g.age < 32 * 65535
  pub low : 63 ≤ g.aging
  pub high : g.aging ≤ 128

-- how many the run of eight has: both are counted from power-on, and 8 divides 1,024
abbrev pub run_of : Average → ℕ
run_of average = average.made % 8

-- of every average
pub record AverageWf (a : Average) : Type 0 where
  pub made : a.made < 1024
  pub sum : a.sum ≤ 65535 * run_of a

-- of every meter: a power-on establishes it and every event keeps it
pub record MeterWf (m : Meter) : Type 0 where
  pub charge : ChargeWf m.charge
  pub average : AverageWf m.flow.average
  pub full : m.shown.model.full ≤ 16384
  pub volt : m.shown.reading.volt ≤ 1023
  pub temp : m.shown.reading.temp < 2 ^ 11

-- ---- power-on

-- EEPROM bytes to the shadow; LOCK 0, BL1 stays; the profile and the saved cells themselves are untouched
abbrev pub powered_cells : Cells → Cells
powered_cells cells = record {
  profile = cells.profile;
  block = record { shadow = cells.block.eeprom; eeprom = cells.block.eeprom };
  locks = record { lock = false; bl1 = cells.locks.bl1 };
  saved = cells.saved;
}

abbrev pub as_in : ℕ → ℕ
as_in aging = moved_into 63 128 aging

-- ACR and AS from the saved cells, AS moved into 63..128; no mark
abbrev pub powered_charge : Saved → Charge
powered_charge saved = record { count = saved.acr * 4096; age = 0; aging = as_in saved.aging; learnf = false; mark = false }

-- "the counter takes" its saved cell, and the rest is zeroed
abbrev pub powered_cycles : ℕ → Cycles
powered_cycles saved = record { count = saved; rest = 0 }

-- no previous conversion or average, conversions are counted and the run of eight starts anew, and no tick is remembered
abbrev pub no_flow : Flow
no_flow = record {
  trace = record { last = zero_at 15; before = zero_at 15; any = false; two = false };
  average = record { made = 0; sum = 0; iavg = zero_at 15; known = false };
  since = record { any = false; lowest = 0 };
  tick = no_tick;
}

-- no previous reading; PORF = 1, all else 0
abbrev pub none_shown : Shown
none_shown = record {
  model = record { full = 0; ae = 0; se = 0 };
  results = record { rarc = 0; rsrc = 0; raac = 0; rsac = 0 };
  reading = record { volt = 0; temp = zero_at 10; known = false };
  flags = record { porf = true; chgtf = false; aef = false; sef = false };
}

unfoldable pub powered_of : Cells → Meter
powered_of cells = record {
  cells = powered_cells cells;
  charge = powered_charge cells.saved;
  cycles = powered_cycles cells.saved.cycles;
  flow = no_flow;
  shown = none_shown;
}

-- a power-on of the meter as it stands
abbrev pub restarted_of : Meter → Meter
restarted_of meter = powered_of meter.cells
