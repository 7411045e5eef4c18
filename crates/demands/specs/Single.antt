-- A TRAY OF ONE PACK answers a session as a plain gauge does, its kinds translated.
--
-- "Readings, conversions, kind 6 samples and power-ons come as kinds 18, 19, 22 and 21, with a slot byte ahead of the old payload." Images and
-- transactions are the same records in both.
use Rattle.std.specs.Prelude.{◌≡◌, Bool, true, not, List, [], ◌∷◌, map, ℕ, eqb, length}
use Rattle.numbers.specs.Choice.{pick, both, either}
use Rattle.runs.specs.Record.{Rec, whole, cut, recs_of}
use Rattle.runs.specs.Run.{Line, replies_of}
use Rattle.runs.specs.declared.Session.{Session}
use Rattle.runs.specs.SessionRecord.{did_of}
use Rattle.session_run.specs.SessionRun.{empty_of}
use Rattle.tray_record.specs.declared.Tray.{Tray}
use Rattle.tray_record.specs.Tray.{empty_tray, pack_of, tray_did}
use Rattle.intel_hex.specs.Theorems.{Bytes}
use Rattle.demands.specs.Call.{Call, Within, lines_in, Told}

-- ---- the same session for a tray with the pack in slot 0

-- a kind of a session as one of a tray. Kinds 18, 19, 21 and 22 are unknown in a plain session, as 2, 3, 5 and 6 are in a tray
abbrev pub tray_kind : ℕ → ℕ
tray_kind n =
    pick (eqb n 2) 18
    (pick (eqb n 3) 19
    (pick (eqb n 5) 21
    (pick (eqb n 6) 22
    (pick (eqb n 18) 2
    (pick (eqb n 19) 3
    (pick (eqb n 21) 5
    (pick (eqb n 22) 6 n)))))))

-- the kinds that get a slot byte
abbrev pub has_slot : ℕ → Bool
has_slot n = either (eqb n 2) (either (eqb n 3) (either (eqb n 5) (eqb n 6)))

abbrev pub in_tray : Rec → Rec
in_tray (whole n p) = whole (tray_kind n) (pick (has_slot n) (0 ∷ p) p)
in_tray cut = cut

-- the line tells the kind; all else is the same
abbrev pub line_in_tray : Line → Line
line_in_tray l = record { kind = tray_kind l.kind; answer = l.answer; reply = l.reply }

-- ---- where both would part: a session answers every image after the accepted one with 5, a tray only "after the first accepted event that is no image"

-- no record is answered 5 before the next one that is done
abbrev pub none_again : List Line → Bool
none_again [] = true
none_again (l ∷ ls) = pick (eqb l.answer 0) true (both (not (eqb l.answer 5)) (none_again ls))

-- nor between the first that is done, which is the image, and the next
abbrev pub one_image : List Line → Bool
one_image [] = true
one_image (l ∷ ls) = pick (eqb l.answer 0) (none_again ls) (one_image ls)

-- ---- the theorem

-- a plain session and the same for a tray, with reply rooms of one size
pub record Translated (c : Call Session) (d : Call Tray) : Type 0 where
  pub plain : Within did_of empty_of c
  pub tray : Within tray_did empty_tray d
  pub records : recs_of d.bytes ≡ map in_tray (recs_of c.bytes)
  pub room : length d.room ≡ length c.room

-- each record gets the same answer and reply, and the pack ends as the gauge does; it is there if the image was accepted
pub record AnswersAlike (c : Call Session) (d : Call Tray) : Type 0 where
  pub lines : lines_in tray_did empty_tray d ≡ map line_in_tray (lines_in did_of empty_of c)
  pub count : d.ran.state.count ≡ pick c.ran.state.loaded 1 0
  pub pack : pack_of d.ran.state 0 ≡ c.ran.state.gauge
  pub one : Told did_of empty_of c
  pub other : Told tray_did empty_tray d

pub record SingleAsPlain : Type 0 where
  -- where the session is of bytes, so that every reply is
  pub alike : (c : Call Session) (d : Call Tray) → Translated c d → Bytes c.bytes → one_image (lines_in did_of empty_of c) ≡ true → AnswersAlike c d
  -- and nowhere else: the condition asks no more than it must
  pub only : (c : Call Session) (d : Call Tray) → Translated c d → lines_in tray_did empty_tray d ≡ map line_in_tray (lines_in did_of empty_of c)
      → one_image (lines_in did_of empty_of c) ≡ true

-- and it speaks of something: a power-on before the image is refused, and so is the image when it comes again, after a conversion; a kind that only trays
-- know is refused, and two bytes are read
pub record SingleMet : Type 0 where
  pub session : Call Session
  pub tray : Call Tray
  pub translated : Translated session tray
  pub bytes : Bytes session.bytes
  pub once : one_image (lines_in did_of empty_of session) ≡ true
  pub answers : map (λ l. l.answer) (lines_in did_of empty_of session) ≡ 5 ∷ 0 ∷ 3 ∷ 0 ∷ 5 ∷ 0 ∷ []
  pub replies : replies_of (lines_in did_of empty_of session) ≡ 0xfc ∷ 0x18 ∷ []
