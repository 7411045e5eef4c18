-- Slow sampling, in sessions. "A sample of n ticks means n conversions of that reading, averages, ageing and full detection along the way":
-- the same currents as samples, kind 6, and as conversions, kind 3, one by one for each tick, with any other records between them, end in the same
-- state, but for the tick that is remembered; and the other records get the same answers and replies. Of a pack of any run, a slot of a tray too, the same
-- is said of what it went through.
use Rattle.std.specs.Prelude.{◌≡◌, Bool, false, List, [], ◌∷◌, ◌++◌, map, ℕ, ◌+◌, ◌*◌, leb, eqb, length, replicate}
use Rattle.numbers.specs.Choice.{pick, both}
use Rattle.state.specs.declared.Tick.{Tick}
use Rattle.state.specs.State.{no_tick, tick_of, elapsed_of}
use Rattle.conversion.specs.Conversion.{with_flow}
use Rattle.samples.specs.Samples.{with_tick}
use Rattle.gauge.specs.declared.Gauge.{Gauge}
use Rattle.gauge.specs.Gauge.{with_meter}
use Rattle.runs.specs.Record.{Rec, whole, cut}
use Rattle.runs.specs.Run.{Did, Line, lines_after, end_after}
use Rattle.runs.specs.declared.Session.{Session}
use Rattle.runs.specs.SessionRecord.{loaded_with, did_of}
use Rattle.session_run.specs.SessionRun.{empty_of}
use Rattle.tray_record.specs.Tray.{empty_tray, tray_did}
use Rattle.record.specs.declared.Change.TheVariants as change
use Rattle.demands.specs.Call.{Call, Within, Stopped}
use Rattle.demands.specs.History.{Happening, imaged, changed, transacted, lived, Pack, of_gauge, of_slot, heard_since, left_by}

-- the bytes of a raw current and of a tick, as a record has them
pub record Sample : Type 0 where
  pub c0 : ℕ
  pub c1 : ℕ
  pub c2 : ℕ
  pub c3 : ℕ
  pub low : ℕ
  pub high : ℕ

abbrev pub tick_in : Sample → ℕ
tick_in s = s.low + 256 * s.high

abbrev pub sampling : Sample → Rec
sampling s = whole 6 (s.c0 ∷ s.c1 ∷ s.c2 ∷ s.c3 ∷ s.low ∷ s.high ∷ [])

abbrev pub converting : Sample → Rec
converting s = whole 3 (s.c0 ∷ s.c1 ∷ s.c2 ∷ s.c3 ∷ [])

-- ---- samples with other records between them

pub data Slowly : Type 0 where
  sample : Sample → Slowly
  other : Rec → Slowly

-- a sample by its kind and its size; of another size it is refused with 4
abbrev pub is_sample : Rec → Bool
is_sample (whole kind p) = both (eqb kind 6) (eqb (length p) 6)
is_sample cut = false

-- the others are any records but samples, one of kind 6 that has another size too
abbrev pub NoSamples : List Slowly → Type 0
NoSamples [] = Unit
NoSamples (sample s ∷ xs) = NoSamples xs
NoSamples (other r ∷ xs) = (is_sample r ≡ false) × NoSamples xs

abbrev pub slow_record : Slowly → Rec
slow_record (sample s) = sampling s
slow_record (other r) = r

-- ---- the same as conversions

-- it comes 1 to 64 ticks after the last one: its conversions fit
abbrev pub sample_fits : Tick → Sample → Bool
sample_fits last s = both (leb 1 (elapsed_of last (tick_in s))) (leb (elapsed_of last (tick_in s)) 64)

-- of the conversions of a sample that is not taken there are none
abbrev pub each_tick : {A : Type 0} → Tick → Sample → A → List A
each_tick last s x = pick (sample_fits last s) (replicate (elapsed_of last (tick_in s)) x) []

abbrev pub is_power_on : Rec → Bool
is_power_on (whole kind p) = both (eqb kind 5) (eqb (length p) 0)
is_power_on cut = false

-- the tick that is remembered: a sample that is refused leaves it, and a power-on forgets it
abbrev pub tick_since : Tick → Slowly → Tick
tick_since last (sample s) = pick (sample_fits last s) (tick_of (tick_in s)) last
tick_since last (other r) = pick (is_power_on r) no_tick last

abbrev pub one_by_one : Tick → List Slowly → List Rec
one_by_one last [] = []
one_by_one last (sample s ∷ xs) = each_tick last s (converting s) ++ one_by_one (tick_since last (sample s)) xs
one_by_one last (other r ∷ xs) = r ∷ one_by_one (tick_since last (other r)) xs

-- and their lines: that of each other record, and for each conversion one that says that it is done
abbrev pub done_line : Line
done_line = record { kind = 3; answer = 0; reply = [] }

abbrev pub one_by_one_lines : Tick → List Slowly → List Line → List Line
one_by_one_lines last [] ls = []
one_by_one_lines last (x ∷ xs) [] = []
one_by_one_lines last (sample s ∷ xs) (l ∷ ls) = each_tick last s done_line ++ one_by_one_lines (tick_since last (sample s)) xs ls
one_by_one_lines last (other r ∷ xs) (l ∷ ls) = l ∷ one_by_one_lines (tick_since last (other r)) xs ls

-- ---- the theorem, from any gauge on

-- a state but for its tick
abbrev pub unticked_gauge : Gauge → Gauge
unticked_gauge gauge = with_meter gauge (with_flow gauge.meter (with_tick gauge.meter.flow no_tick))

abbrev pub unticked : Session → Session
unticked session = record { loaded = session.loaded; gauge = unticked_gauge session.gauge }

module _ (g : Gauge) (room : ℕ) where
  abbrev pub last_of : Tick
  last_of = g.meter.flow.tick

  -- a sample is answered 0 exactly where its conversions fit, and else 11
  abbrev pub SampleAnswered : Sample → Type 0
  SampleAnswered s = (did_of (loaded_with g) room (sampling s)).answer ≡ pick (sample_fits last_of s) 0 11

  pub record AsConversions (xs : List Slowly) : Type 0 where
    pub state : unticked (end_after did_of (loaded_with g) room (map slow_record xs)) ≡ unticked (end_after did_of (loaded_with g) room (one_by_one last_of xs))
    pub lines : lines_after did_of (loaded_with g) room (one_by_one last_of xs)
        ≡ one_by_one_lines last_of xs (lines_after did_of (loaded_with g) room (map slow_record xs))

-- ---- of a pack of any run: the same history with conversions in the place of each sample, from the tick that is remembered on

abbrev pub unsampled_by : Tick → Happening → List Happening
unsampled_by last (imaged f p) = imaged f p ∷ []
unsampled_by last (changed (change.Reading volt temp)) = changed (change.Reading volt temp) ∷ []
unsampled_by last (changed (change.Conversion raw)) = changed (change.Conversion raw) ∷ []
unsampled_by last (changed (change.Sample raw tick)) = replicate (elapsed_of last tick) (changed (change.Conversion raw))
unsampled_by last (changed change.PowerOn) = changed change.PowerOn ∷ []
unsampled_by last (transacted t master) = transacted t master ∷ []

abbrev pub tick_heard : Tick → Happening → Tick
tick_heard last (imaged f p) = no_tick
tick_heard last (changed (change.Reading volt temp)) = last
tick_heard last (changed (change.Conversion raw)) = last
tick_heard last (changed (change.Sample raw tick)) = tick_of tick
tick_heard last (changed change.PowerOn) = no_tick
tick_heard last (transacted t master) = last

abbrev pub unsampled : Tick → List Happening → List Happening
unsampled last [] = []
unsampled last (h ∷ hs) = unsampled_by last h ++ unsampled (tick_heard last h) hs

-- of the run b, stopped earlier, as a, after n records
abbrev pub SlowPack : {S : Type 0} → (S → ℕ → Rec → Did S) → S → Pack S → Type 0
SlowPack {S} did start pack =
    (n : ℕ) (a b : Call S) → Within did start b → Stopped did start n b a
    → unticked_gauge (left_by pack b)
    ≡ unticked_gauge (lived (left_by pack a) (unsampled (left_by pack a).meter.flow.tick (heard_since pack did n a b)))

pub record Slow : Type 0 where
  pub answers : (g : Gauge) (room : ℕ) (s : Sample) → SampleAnswered g room s
  pub conversions : (g : Gauge) (room : ℕ) (xs : List Slowly) → NoSamples xs → AsConversions g room xs
  pub session : SlowPack did_of empty_of of_gauge
  pub slots : (j : ℕ) → SlowPack tray_did empty_tray (of_slot j)
