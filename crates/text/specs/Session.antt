-- What a program says of a session, of any state and of any `did`: its text, or the image that is taken out at its end.
use Rattle.std.specs.Prelude.{◌≡◌, Bool, Result, List, ◌++◌, ℕ, leb, length}
use denote.Ref.{MutBor}
use Rattle.numbers.specs.Choice.{pick}
use Rattle.streams.specs.Streams.{Speech, output}
use Rattle.record.specs.declared.Refusal.{Refusal}
use Rattle.gauge.specs.declared.Gauge.{Gauge}
use Rattle.gauge.specs.Image.{size_for, room_after}
use Rattle.runs.specs.Record.{Rec, recs_of}
use Rattle.runs.specs.Run.{Did, Line, lines_after, end_after, outcome_of}
use Rattle.runs.specs.Out.{out_by}
use Rattle.text.specs.Text.{run_text, ran_speech, pack_speech, first_refused}

module _ {S : Type 0} (did : S → ℕ → Rec → Did S) (start : S) where
  -- the lines of a whole session, with so much reply room
  abbrev pub session_lines : List ℕ → ℕ → List Line
  session_lines s room = lines_after did start room (recs_of s)

  -- its text
  abbrev pub session_speech : List ℕ → Speech
  session_speech s = output (run_text session_lines s)

  -- the image that is taken out at its end, by whether there is one and of which gauge, with 65,536 bytes of reply room
  abbrev pub out_speech : (S → Bool) → (S → Gauge) → List ℕ → List ℕ → Speech
  out_speech held gauge words s =
      ran_speech (outcome_of (length s))
      (pack_speech (held (end_after did start 65536 (recs_of s))) (gauge (end_after did start 65536 (recs_of s)))
      (words ++ first_refused 1 (session_lines s 65536)))

-- an image taken out, or its refusal, and the room after it
pub record OutOf (held : Bool) (gauge : Gauge) (room : List ℕ) (taken : Result ℕ Refusal) (after : List ℕ) : Type 0 where
  pub value : taken ≡ out_by held (leb (size_for gauge) (length room)) (size_for gauge)
  pub written : after ≡ pick held (room_after (leb (size_for gauge) (length room)) gauge room) room

-- what takes an image out of any state
abbrev pub GivesOut : {S : Type 0} → (S → MutBor (List ℕ) → Result ℕ Refusal → MutBor (List ℕ) → Type 0) → (S → Bool) → (S → Gauge) → Type 0
GivesOut {S} post held gauge =
    (σ : S) (room : MutBor (List ℕ)) (taken : Result ℕ Refusal) (after : MutBor (List ℕ)) →
    post σ room taken after → OutOf (held σ) (gauge σ) room.now taken after.now
