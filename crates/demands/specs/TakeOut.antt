-- THE IMAGE TAKEN OUT, by number.
--
-- Document 01: "The image taken out is address, both EEPROM blocks, saved cells, lock byte: the first 60 bytes of the lent room, the rest untouched. Before an
-- image was accepted the answer is 5, then 9 for a room under 60; nothing is written." Document 02: "an image is taken out by slot"; of kind 8 "9 below 61".
--
-- Of all that `session_run::take_out` and `tray_run::take_out` may do by their contracts: of the three cases just one applies.
use Rattle.std.specs.Prelude.{◌≡◌, true, false, List, ◌++◌, ℕ, ◌≤◌, ◌<◌, length, drop}
use Rattle.state.specs.declared.Profile.TheVariants.{Ds2781, Ds2775}
use Rattle.gauge.specs.declared.Gauge.{Gauge}
use Rattle.gauge.specs.Image.{bytes_of, size_for}
use Rattle.gauge.specs.Reach.{Reached}
use Rattle.runs.specs.declared.Session.{Session}
use Rattle.runs.specs.SessionRecord.{did_of}
use Rattle.session_run.specs.SessionRun.{empty_of, TakenOut}
use Rattle.tray_record.specs.declared.Tray.{Tray}
use Rattle.tray_record.specs.Tray.{empty_tray, pack_of, tray_did}
use Rattle.tray_run.specs.TrayRun.{slot_held, SlotOut}
use Rattle.demands.specs.Images.{profile_of}
use Rattle.demands.specs.Call.{Call, Within}

-- the image of a gauge has as many bytes as are taken from the room
abbrev pub Fills : Gauge → Type 0
Fills gauge = length (bytes_of gauge) ≡ size_for gauge

-- a refusal, with which nothing is written
abbrev pub RefusedOut : ℕ → List ℕ → ℕ → List ℕ → Type 0
RefusedOut number room answer after = (answer ≡ number) × (after ≡ room)

-- the image of a pack in the first bytes of the room
abbrev pub WrittenOut : Gauge → List ℕ → ℕ → List ℕ → Type 0
WrittenOut gauge room answer after = (answer ≡ 0) × (after ≡ bytes_of gauge ++ drop (size_for gauge) room)

pub record OutAnswers : Type 0 where
  -- how many bytes an image has
  pub sixty : (g : Gauge) → profile_of g ≡ Ds2781 → size_for g ≡ 60
  pub sixty_one : (g : Gauge) → profile_of g ≡ Ds2775 → size_for g ≡ 61
  -- "the first 60 bytes of the lent room": the image of any gauge that events reach from an accepted one has so many, and so that of what a run left
  pub fills : (g : Gauge) → Reached g → Fills g
  pub session_fills : (d : Call Session) → Within did_of empty_of d → d.ran.state.loaded ≡ true → Fills d.ran.state.gauge
  pub slot_fills : (d : Call Tray) (i : ℕ) → Within tray_did empty_tray d → i < d.ran.state.count → Fills (pack_of d.ran.state i)
  -- of a session
  pub unaccepted : (σ : Session) (room : List ℕ) (answer : ℕ) (after : List ℕ) → TakenOut σ room answer after
      → σ.loaded ≡ false → RefusedOut 5 room answer after
  pub short : (σ : Session) (room : List ℕ) (answer : ℕ) (after : List ℕ) → TakenOut σ room answer after
      → σ.loaded ≡ true → length room < size_for σ.gauge → RefusedOut 9 room answer after
  pub done : (σ : Session) (room : List ℕ) (answer : ℕ) (after : List ℕ) → TakenOut σ room answer after
      → σ.loaded ≡ true → size_for σ.gauge ≤ length room → WrittenOut σ.gauge room answer after
  -- of a slot
  pub slot_empty : (τ : Tray) (i : ℕ) (room : List ℕ) (answer : ℕ) (after : List ℕ) → SlotOut τ i room answer after
      → slot_held τ i ≡ false → RefusedOut 5 room answer after
  pub slot_short : (τ : Tray) (i : ℕ) (room : List ℕ) (answer : ℕ) (after : List ℕ) → SlotOut τ i room answer after
      → slot_held τ i ≡ true → length room < size_for (pack_of τ i) → RefusedOut 9 room answer after
  pub slot_done : (τ : Tray) (i : ℕ) (room : List ℕ) (answer : ℕ) (after : List ℕ) → SlotOut τ i room answer after
      → slot_held τ i ≡ true → size_for (pack_of τ i) ≤ length room → WrittenOut (pack_of τ i) room answer after
