-- THE SAVED CELLS, over a run.
--
-- "Unless first since power-on: if RARC divided by 4, rounded down, has changed, ACR and AS go to the saved cells." "Saved cells belong to neither block
-- and no lock covers them." The cycle counter of request [12] is "saved together with ACR and AS".
--
-- Stated as the EEPROM of a block is in Stored.antt: of any run and of any pack that it holds, as what History.antt says that it went through.
use Rattle.std.specs.Prelude.{◌≡◌, Bool, true, false, List, [], ◌∷◌, ℕ, ◌/◌, eqb}
use Rattle.numbers.specs.Choice.{pick, but_not}
use Rattle.state.specs.declared.Profile.{Profile}
use Rattle.state.specs.declared.Saved.{Saved}
use Rattle.state.specs.State.{acr_of}
use Rattle.gauge.specs.declared.Gauge.{Gauge}
use Rattle.gauge.specs.Gauge.{reading_of}
use Rattle.gauge.specs.Image.{image_of}
use Rattle.record.specs.Image.{image_acr, image_aging, image_cycles}
use Rattle.record.specs.declared.Change.TheVariants.{Reading, Conversion, Sample, PowerOn}
use Rattle.runs.specs.Record.{Rec}
use Rattle.runs.specs.Run.{Did}
use Rattle.runs.specs.SessionRecord.{did_of}
use Rattle.session_run.specs.SessionRun.{empty_of}
use Rattle.tray_record.specs.Tray.{empty_tray, tray_did}
use Rattle.demands.specs.Call.{Call, Within, Stopped}
use Rattle.demands.specs.History.{Happening, imaged, changed, transacted, happened, Imageless, Pack, of_gauge, of_slot, heard_since, life_in, left_by}

-- ---- the cells, all together: saved ACR, saved AS, and the saved cycle counter, which is 0 in every pack but a DS2775

abbrev pub cells_saved : Gauge → Saved
cells_saved gauge = gauge.meter.cells.saved

abbrev pub cells_of_image : Profile → List ℕ → Saved
cells_of_image profile p = record { acr = image_acr p; aging = image_aging p; cycles = image_cycles profile p }

-- ACR, AS and the cycle counter as they stand in a gauge
abbrev pub cells_now : Gauge → Saved
cells_now gauge =
    let meter = gauge.meter in
    record { acr = acr_of meter.charge.count; aging = meter.charge.aging; cycles = meter.cycles.count }

-- ---- what changes them

-- a reading that is not the first since power-on, and that leaves another RARC / 4
abbrev pub saves_now : Gauge → ℕ → ℕ → Bool
saves_now gauge volt temp =
    let before = gauge.meter.shown in
    let after = (reading_of gauge volt temp).meter.shown in
    but_not before.reading.known (eqb (before.results.rarc / 4) (after.results.rarc / 4))

-- such a reading, by what it leaves, and an image; and nothing else: no conversion, no power-on and no transaction
abbrev pub cells_by : Gauge → Saved → Happening → Saved
cells_by gauge cells (imaged f p) = cells_of_image f p
cells_by gauge cells (changed (Reading volt temp)) = pick (saves_now gauge volt temp) (cells_now (reading_of gauge volt temp)) cells
cells_by gauge cells (changed (Conversion raw)) = cells
cells_by gauge cells (changed (Sample raw tick)) = cells
cells_by gauge cells (changed PowerOn) = cells
cells_by gauge cells (transacted t master) = cells

-- of a history from the gauge on, before which these were the cells
abbrev pub cells_last : Gauge → Saved → List Happening → Saved
cells_last gauge cells [] = cells
cells_last gauge cells (h ∷ hs) = cells_last (happened gauge h) (cells_by gauge cells h) hs

abbrev pub sets_cells : Gauge → Happening → Bool
sets_cells gauge (imaged f p) = true
sets_cells gauge (changed (Reading volt temp)) = saves_now gauge volt temp
sets_cells gauge (changed (Conversion raw)) = false
sets_cells gauge (changed (Sample raw tick)) = false
sets_cells gauge (changed PowerOn) = false
sets_cells gauge (transacted t master) = false

abbrev pub Unsaved : Gauge → List Happening → Type 0
Unsaved gauge [] = Unit
Unsaved gauge (h ∷ hs) = (sets_cells gauge h ≡ false) × Unsaved (happened gauge h) hs

-- ---- the theorem

module _ {S : Type 0} (did : S → ℕ → Rec → Did S) (start : S) (pack : Pack S) where
  -- what the pack went through begins with its image, and the cells go from there
  pub record CellsStored (c : Call S) : Type 0 where
    pub profile : Profile
    pub image : List ℕ
    pub later : List Happening
    pub life : life_in did start pack c ≡ imaged profile image ∷ later
    pub once : Imageless later
    pub cells : cells_saved (left_by pack c) ≡ cells_last (image_of profile image) (cells_of_image profile image) later

  pub record CellsHold : Type 0 where
    -- of the run b, stopped earlier, as a, after n records
    pub since : (n : ℕ) (a b : Call S) → Within did start b → Stopped did start n b a
        → cells_saved (left_by pack b) ≡ cells_last (left_by pack a) (cells_saved (left_by pack a)) (heard_since pack did n a b)
    -- where no reading saves and no image is accepted, they stay
    pub stay : (n : ℕ) (a b : Call S) → Within did start b → Stopped did start n b a → Unsaved (left_by pack a) (heard_since pack did n a b)
        → cells_saved (left_by pack b) ≡ cells_saved (left_by pack a)
    pub stored : (c : Call S) → Within did start c → pack.there c.ran.state ≡ true → CellsStored c

-- of the gauge of a session, and of each slot of a tray
pub record SavedCells : Type 0 where
  pub session : CellsHold did_of empty_of of_gauge
  pub slots : (j : ℕ) → CellsHold tray_did empty_tray (of_slot j)
