-- A session: the run of its records from the state before the first, and the image taken out of a state.
use Rattle.std.specs.Prelude.{◌≡◌, false, List, ℕ, Result, leb, length, replicate}
use Rattle.numbers.specs.Choice.{pick}
use Rattle.state.specs.declared.Profile.TheVariants.{Ds2781}
use Rattle.gauge.specs.Image.{image_of, size_for, room_after}
use Rattle.record.specs.declared.Refusal.{Refusal}
use Rattle.record.specs.declared.Refusal.TheVariants.{Order, Room}
use Rattle.record.specs.Image.{image_size}
use Rattle.record.specs.Record.{refusal_number}
use Rattle.runs.specs.Out.{out_by}
use Rattle.runs.specs.Record.{recs_of}
use Rattle.runs.specs.Run.{Line, lines_after}
use Rattle.runs.specs.declared.Session.{Session}
use Rattle.runs.specs.SessionRecord.{did_of}

-- before the first record: no image was accepted, and the gauge is what all-zero cells power on to
abbrev pub empty_of : Session
empty_of = record { loaded = false; gauge = image_of Ds2781 (replicate image_size 0) }

-- the lines of a whole session, with so much reply room
unfoldable pub session_of : List ℕ → ℕ → List Line
session_of s room = lines_after did_of empty_of room (recs_of s)

-- ---- the image taken out: 5 before an image was accepted, then 9 for a room under 60, or under 61

abbrev pub take_out_number : Session → List ℕ → ℕ
take_out_number session room =
    pick session.loaded (pick (leb (size_for session.gauge) (length room)) 0 (refusal_number Room)) (refusal_number Order)

-- the same as a value: the image's size, or the refusal
abbrev pub take_out_of : Session → List ℕ → Result ℕ Refusal
take_out_of session room = out_by session.loaded (leb (size_for session.gauge) (length room)) (size_for session.gauge)

-- nothing is written on a refusal
abbrev pub take_out_room : Session → List ℕ → List ℕ
take_out_room session room = pick session.loaded (room_after (leb (size_for session.gauge) (length room)) session.gauge room) room

pub record TakenOut (σ : Session) (room : List ℕ) (answer : ℕ) (after : List ℕ) : Type 0 where
  pub number : answer ≡ take_out_number σ room
  pub written : after ≡ take_out_room σ room
