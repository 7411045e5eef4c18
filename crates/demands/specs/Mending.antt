-- MENDED IMAGES, request [9] of document 02.
--
-- "a tool which writes a 60-byte image that is accepted"
--
-- Stated of any two calls that their contracts allow: one of `mending::mend`, which is done, and one of `session_run::run`, whose session begins with a
-- record of what was written. What mending is worth besides is said of the judge alone, in mending/specs/Worth.antt.
use Rattle.std.specs.Prelude.{◌≡◌, List, [], ◌∷◌, ◌++◌, ℕ, length, take}
use Rattle.state.specs.declared.Profile.TheVariants.{Ds2781}
use Rattle.record.specs.Image.{image_size}
use Rattle.gauge.specs.Image.{image_of}
use Rattle.mending.specs.Mending.{mend_done, Mending}
use Rattle.mending.specs.Worth.{Accepted, Mendable, SoundImage}
use Rattle.runs.specs.Record.{recs_of, record_of}
use Rattle.runs.specs.Run.{lines_after}
use Rattle.runs.specs.declared.Session.{Session}
use Rattle.runs.specs.SessionRecord.{did_of, loaded_with}
use Rattle.session_run.specs.SessionRun.{empty_of}
use Rattle.demands.specs.Call.{Call, Within, lines_in, Told}

-- what `mend` leaves at the front of the room is the first record of the session of c, and any bytes come after it
pub record MendedFirst (image room after rest : List ℕ) (c : Call Session) : Type 0 where
  pub mended : Mending image room mend_done after
  pub session : c.bytes ≡ record_of 1 (take image_size after) ++ rest
  pub run : Within did_of empty_of c

-- its first answer is 0, and the session goes on with the gauge of the mended image; these lines are what room and answers hold
pub record AcceptedFirst (mended rest : List ℕ) (c : Call Session) : Type 0 where
  pub told : Told did_of empty_of c
  pub lines : lines_in did_of empty_of c
      ≡ record { kind = 1; answer = 0; reply = [] } ∷ lines_after did_of (loaded_with (image_of Ds2781 mended)) (length c.room) (recs_of rest)

abbrev pub MendedTheorem : Type 0
MendedTheorem =
    (image room after rest : List ℕ) (c : Call Session) → MendedFirst image room after rest c → AcceptedFirst (take image_size after) rest c

-- and the theorems on mending speak of something: an image that is refused as it is, and is mended; and what it comes to, which is sound
pub record MendingMet : Type 0 where
  pub damaged : List ℕ
  pub sound : List ℕ
  pub refused : Accepted damaged → ⊥
  pub mendable : Mendable damaged
  pub room : List ℕ
  pub mended : Mending damaged room mend_done sound
  pub is_sound : SoundImage sound
