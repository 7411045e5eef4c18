-- PROGRAMMING PACKS AT THE BENCH, request [2] of document 02.
--
-- "Run through the gauge it ends with exactly those EEPROM bytes in block 1, and block 0, saved cells and locks unchanged."
--
-- Stated of any two calls that their contracts allow: one of `preset_session::write_session`, which writes a session, and one of
-- `session_run::run`, which runs what was written, with any reply room and at least 30 answers lent.
use Rattle.std.specs.Prelude.{◌≡◌, false, List, [], ◌∷◌, ℕ, ◌≤◌, ◌<◌, length, take}
use Rattle.state.specs.declared.Profile.{Profile}
use Rattle.state.specs.declared.Profile.TheVariants.{Ds2781}
use Rattle.gauge.specs.declared.Gauge.{Gauge}
use Rattle.gauge.specs.Gauge.{with_meter}
use Rattle.block1.specs.Block1.{reblocked_of}
use Rattle.gauge.specs.Image.{image_of}
use Rattle.record.specs.Image.{image_address, image_label, image_block, image_acr, image_aging, image_bl0, image_bl1}
use Rattle.record.specs.Record.{judged_by, taken_of}
use Rattle.preset_session.specs.PresetSession.{Written, write_done, programming_size, written_number, Granted, Programming}
use Rattle.runs.specs.Run.{Line}
use Rattle.runs.specs.declared.Session.{Session}
use Rattle.runs.specs.SessionRecord.{did_of, loaded_with}
use Rattle.session_run.specs.SessionRun.{empty_of}
use Rattle.demands.specs.Call.{Call, Allowed, lines_in, Told}
use Rattle.demands.specs.Images.{image_kind}

-- "Refusals: first what an image record would get": an image is judged, here and in [9] and [10], as a record of its kind is in a session without one
abbrev pub JudgedAsRecord : Type 0
JudgedAsRecord = (profile : Profile) (image : List ℕ) → taken_of (image_kind profile) false image ≡ judged_by profile image

-- what `write_session` says of an image, wanted bytes and a room, and what the room then holds. Its first 120 bytes are the session of c, with answers lent
-- for as many records as they may hold
pub record Bench (image wanted room : List ℕ) (said : Written) (after : List ℕ) (c : Call Session) : Type 0 where
  pub wrote : Programming image wanted room said after
  pub session : c.bytes ≡ take programming_size after
  pub run : Allowed did_of empty_of c
  pub lent : 30 ≤ length c.answers

-- ---- "it ends with exactly those EEPROM bytes in block 1, and block 0, saved cells and locks unchanged"

pub record Set (image wanted : List ℕ) (g : Gauge) : Type 0 where
  pub eeprom : g.meter.cells.block.eeprom ≡ wanted
  pub shadow : g.meter.cells.block.shadow ≡ wanted
  pub label : g.label ≡ record { shadow = image_label image; eeprom = image_label image }
  pub saved : g.meter.cells.saved ≡ record { acr = image_acr image; aging = image_aging image; cycles = 0 }
  pub locks : g.meter.cells.locks ≡ record { lock = false; bl1 = image_bl1 image }
  pub common : g.common ≡ record { address = image_address image; bl0 = image_bl0 image }
  -- and all else is as the image left it
  pub rest : g ≡ with_meter (image_of Ds2781 image) (reblocked_of (image_of Ds2781 image).meter g.meter.cells.block)

-- ---- the answers: the image, the write and the copy are done and reply nothing, and so is the read-back, which replies the wanted bytes. With
-- less reply room than these it is refused with 9

abbrev pub bench_lines : ℕ → List ℕ → List Line
bench_lines answer reply =
    record { kind = 1; answer = 0; reply = [] }
    ∷ record { kind = 4; answer = 0; reply = [] }
    ∷ record { kind = 4; answer = 0; reply = [] }
    ∷ record { kind = 4; answer = answer; reply = reply }
    ∷ []

-- and these lines are what room and answers hold
pub record Answers (wanted : List ℕ) (c : Call Session) : Type 0 where
  pub told : Told did_of empty_of c
  pub replied : 32 ≤ length c.room → lines_in did_of empty_of c ≡ bench_lines 0 wanted
  pub short : length c.room < 32 → lines_in did_of empty_of c ≡ bench_lines 9 []

-- ---- the theorem

pub record BenchHolds (image wanted : List ℕ) (said : Written) (c : Call Session) : Type 0 where
  pub done : written_number said ≡ 0
  pub loaded : c.ran.state ≡ loaded_with c.ran.state.gauge
  pub set : Set image wanted c.ran.state.gauge
  pub answers : Answers wanted c

-- of an image that a record of it would be accepted with, block 1 not locked in it; 32 wanted bytes; a room of 120 bytes or more
abbrev pub BenchTheorem : Type 0
BenchTheorem =
    (image wanted room : List ℕ) (said : Written) (after : List ℕ) (c : Call Session) → Granted image wanted (length room)
    → Bench image wanted room said after c → BenchHolds image wanted said c

-- and so of every call of `write_session` that answers `write_done`, whatever it was given: it was such then
abbrev pub DoneTheorem : Type 0
DoneTheorem =
    (image wanted room after : List ℕ) (c : Call Session) → Bench image wanted room write_done after c
    → Granted image wanted (length room) × BenchHolds image wanted write_done c

-- and it speaks of something: an image, and bytes that are wanted and that it does not have in block 1
pub record BenchMet : Type 0 where
  pub image : List ℕ
  pub wanted : List ℕ
  pub room : List ℕ
  pub after : List ℕ
  pub call : Call Session
  pub granted : Granted image wanted (length room)
  pub bench : Bench image wanted room write_done after call
  pub new : wanted ≡ image_block image → ⊥
