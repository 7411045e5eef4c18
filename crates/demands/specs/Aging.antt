-- NOBODY BUT THE GAUGE SETS AS, over a run: request [13] of document 02.
--
-- "Learning and ageing set AS well enough, and two hosts have overwritten it with guesses. A write at 14h is from now on dropped like one to a read-only
-- place. .. Later results follow the gauge's own AS. Saved AS is honoured at power-on as before."
--
-- Of single events `OwnAging` of `gauge` says it. Stated here of any two moments of any run and of any pack that it holds: AS is followed from the first
-- to the second by power-ons, ageing and learning alone.
use Rattle.std.specs.Prelude.{◌≡◌, Bool, true, false, List, [], ◌∷◌, ℕ, zero, suc}
use Rattle.numbers.specs.Choice.{pick}
use Rattle.state.specs.declared.Meter.{Meter}
use Rattle.state.specs.State.{elapsed_of, as_in}
use Rattle.samples.specs.Samples.{sampled_of}
use Rattle.gauge.specs.declared.Gauge.{Gauge}
use Rattle.gauge.specs.Aging.{aging_of, ages_in, learns_in, fallen_as, learnt_in, sets_aging}
use Rattle.record.specs.Image.{image_aging}
use Rattle.record.specs.declared.Change.TheVariants.{Reading, Conversion, Sample, PowerOn}
use Rattle.runs.specs.Record.{Rec}
use Rattle.runs.specs.Run.{Did}
use Rattle.runs.specs.SessionRecord.{did_of}
use Rattle.session_run.specs.SessionRun.{empty_of}
use Rattle.tray_record.specs.Tray.{empty_tray, tray_did}
use Rattle.demands.specs.Call.{Call, Within, Stopped}
use Rattle.demands.specs.History.{Happening, imaged, changed, transacted, happened, Pack, of_gauge, of_slot, heard_since, left_by}

-- ---- AS after what happens, where it was so much before

-- a conversion: what is learnt, or one less where it ages, "never below 63", or as it was
abbrev pub as_converted : Meter → ℕ → ℕ → ℕ
as_converted meter raw aging = pick (learns_in meter raw) (learnt_in meter raw) (pick (ages_in meter raw) (fallen_as aging) aging)

-- n conversions, each in the meter that those before it leave
abbrev pub as_over : Meter → ℕ → ℕ → ℕ → ℕ
as_over meter raw aging zero = aging
as_over meter raw aging (suc n) = as_converted (sampled_of meter raw n) raw (as_over meter raw aging n)

-- an image and a power-on: the saved cell, moved into 63..128. A reading and a transaction, of whatever bytes, leave AS
abbrev pub as_by : Gauge → ℕ → Happening → ℕ
as_by gauge aging (imaged f p) = as_in (image_aging p)
as_by gauge aging (changed (Reading volt temp)) = aging
as_by gauge aging (changed (Conversion raw)) = as_over gauge.meter raw aging 1
as_by gauge aging (changed (Sample raw tick)) = as_over gauge.meter raw aging (elapsed_of gauge.meter.flow.tick tick)
as_by gauge aging (changed PowerOn) = as_in gauge.meter.cells.saved.aging
as_by gauge aging (transacted t master) = aging

abbrev pub as_last : Gauge → ℕ → List Happening → ℕ
as_last gauge aging [] = aging
as_last gauge aging (h ∷ hs) = as_last (happened gauge h) (as_by gauge aging h) hs

-- ---- where none of these sets it

abbrev pub sets_as : Gauge → Happening → Bool
sets_as gauge (imaged f p) = true
sets_as gauge (changed c) = sets_aging gauge.meter c
sets_as gauge (transacted t master) = false

abbrev pub AsLeft : Gauge → List Happening → Type 0
AsLeft gauge [] = Unit
AsLeft gauge (h ∷ hs) = (sets_as gauge h ≡ false) × AsLeft (happened gauge h) hs

-- ---- the theorem, of the run b, stopped earlier, as a, after n records

module _ {S : Type 0} (did : S → ℕ → Rec → Did S) (start : S) (pack : Pack S) where
  pub record AgingHolds : Type 0 where
    pub since : (n : ℕ) (a b : Call S) → Within did start b → Stopped did start n b a
        → aging_of (left_by pack b) ≡ as_last (left_by pack a) (aging_of (left_by pack a)) (heard_since pack did n a b)
    pub left : (n : ℕ) (a b : Call S) → Within did start b → Stopped did start n b a → AsLeft (left_by pack a) (heard_since pack did n a b)
        → aging_of (left_by pack b) ≡ aging_of (left_by pack a)

-- of the gauge of a session, and of each slot of a tray
pub record OwnAs : Type 0 where
  pub session : AgingHolds did_of empty_of of_gauge
  pub slots : (j : ℕ) → AgingHolds tray_did empty_tray (of_slot j)
