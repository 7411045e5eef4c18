-- A FULL PACK SAYS 100, over a run: request [1] of document 02.
--
-- "Operators see 99 on a pack the charger has just finished. .. It is to be rounded up, so that case gives ACR 9194 and RARC 100. Where D is above 0, a
-- very small Full40 no longer drops CHGTF at once."
--
-- `Hundred` of `reading` says it of one conversion and one reading. Here it is said of a pack of any run, from the conversion or sample that finds full on.
-- After that there is no power-on and no image, and each reading comes as `AfterFull` says: it finds ACR, AS and Full40 as full left them, sees the same
-- FULL, and has D above 0. Other events may come between, as many as there are.
use Rattle.std.specs.Prelude.{◌≡◌, Bool, true, false, List, [], ◌∷◌, ℕ, ◌<◌}
use Rattle.numbers.specs.Choice.{either}
use Rattle.state.specs.State.{elapsed_of}
use Rattle.conversion.specs.Conversion.{corrects_full}
use Rattle.reading.specs.Hundred.{FullLeft, left_at_full, usable_in, AfterFull}
use Rattle.samples.specs.Samples.{sampled_of}
use Rattle.gauge.specs.declared.Gauge.{Gauge}
use Rattle.record.specs.declared.Change.TheVariants.{Reading, Conversion, Sample, PowerOn}
use Rattle.runs.specs.Record.{Rec}
use Rattle.runs.specs.Run.{Did}
use Rattle.runs.specs.SessionRecord.{did_of}
use Rattle.session_run.specs.SessionRun.{empty_of}
use Rattle.tray_record.specs.Tray.{empty_tray, tray_did}
use Rattle.demands.specs.Call.{Call, Within, Stopped}
use Rattle.demands.specs.History.{Happening, imaged, changed, transacted, happened, Pack, of_gauge, of_slot, heard_since, left_by}

-- ---- full is found by a conversion, or by one of a sample's, and leaves so much

pub data FindsFull (g : Gauge) : Happening → FullLeft → Type 0 where
  by_conversion : (raw : ℕ) → corrects_full g.meter raw ≡ true → FindsFull g (changed (Conversion raw)) (left_at_full g.meter raw)
  by_sample : (raw tick i : ℕ) → i < elapsed_of g.meter.flow.tick tick → corrects_full (sampled_of g.meter raw i) raw ≡ true
      → FindsFull g (changed (Sample raw tick)) (left_at_full (sampled_of g.meter raw i) raw)

-- ---- since then there is no power-on, and each reading comes with ACR, AS and Full40 as full left them, sees the same FULL, and has D above 0

abbrev pub KeepsFull : FullLeft → Gauge → Happening → Type 0
KeepsFull f gauge (imaged k p) = ⊥
KeepsFull f gauge (changed (Reading volt temp)) = AfterFull f gauge.meter volt temp
KeepsFull f gauge (changed (Conversion raw)) = Unit
KeepsFull f gauge (changed (Sample raw tick)) = Unit
KeepsFull f gauge (changed PowerOn) = ⊥
KeepsFull f gauge (transacted t master) = Unit

abbrev pub FullKept : FullLeft → Gauge → List Happening → Type 0
FullKept f gauge [] = Unit
FullKept f gauge (h ∷ hs) = KeepsFull f gauge h × FullKept f (happened gauge h) hs

abbrev pub is_reading : Happening → Bool
is_reading (imaged f p) = false
is_reading (changed (Reading volt temp)) = true
is_reading (changed (Conversion raw)) = false
is_reading (changed (Sample raw tick)) = false
is_reading (changed PowerOn) = false
is_reading (transacted t master) = false

abbrev pub reads_in : List Happening → Bool
reads_in [] = false
reads_in (h ∷ hs) = either (is_reading h) (reads_in hs)

-- ---- the theorem, of the run b, stopped earlier, as a, after n records

-- what RARC and CHGTF are
abbrev pub percent_in : Gauge → ℕ
percent_in gauge = gauge.meter.shown.results.rarc

abbrev pub charged_in : Gauge → Bool
charged_in gauge = gauge.meter.shown.flags.chgtf

module _ {S : Type 0} (did : S → ℕ → Rec → Did S) (start : S) (pack : Pack S) where
  pub record HundredHolds : Type 0 where
    -- CHGTF stays set, and from the first reading on RARC is 100
    pub full : (n : ℕ) (a b : Call S) → Within did start b → Stopped did start n b a
        → (h : Happening) (later : List Happening) → heard_since pack did n a b ≡ h ∷ later
        → (f : FullLeft) → FindsFull (left_by pack a) h f → FullKept f (happened (left_by pack a) h) later
        → (charged_in (left_by pack b) ≡ true) × (reads_in later ≡ true → percent_in (left_by pack b) ≡ 100)
    -- with D ≤ 0 a reading drops both
    pub none : (n : ℕ) (a b : Call S) → Within did start b → Stopped did start n b a
        → (volt temp : ℕ) → heard_since pack did n a b ≡ changed (Reading volt temp) ∷ [] → usable_in (left_by pack a).meter volt temp ≡ 0
        → (charged_in (left_by pack b) ≡ false) × (percent_in (left_by pack b) ≡ 0)

  -- and it speaks of something: full is found, and a reading comes so
  pub record HundredMet : Type 0 where
    pub taken : ℕ
    pub first : Call S
    pub second : Call S
    pub run : Within did start second
    pub stopped : Stopped did start taken second first
    pub finds : Happening
    pub later : List Happening
    pub since : heard_since pack did taken first second ≡ finds ∷ later
    pub left : FullLeft
    pub full : FindsFull (left_by pack first) finds left
    pub kept : FullKept left (happened (left_by pack first) finds) later
    pub reads : reads_in later ≡ true

-- of the gauge of a session, and of each slot of a tray
pub record FullPack : Type 0 where
  pub session : HundredHolds did_of empty_of of_gauge
  pub slots : (j : ℕ) → HundredHolds tray_did empty_tray (of_slot j)
