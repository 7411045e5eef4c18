-- Programming packs at the bench: the session that sets block 1 of a pack to wanted bytes, and when it is not written.
use Rattle.std.specs.Prelude.{◌≡◌, false, ⊤, Result, Ok, Err, List, [], ◌∷◌, ◌++◌, ℕ, ◌≤◌, eqb, ltb, length, drop}
use Rattle.numbers.specs.Choice.{pick}
use Rattle.state.specs.declared.Profile.TheVariants.{Ds2781}
use Rattle.record.specs.declared.Event.TheVariants as event
use Rattle.record.specs.Image.{image_bl1}
use Rattle.record.specs.Record.{refusal_number, judged_of, Taken}
use Rattle.runs.specs.Record.{record_of}
use Rattle.preset_session.specs.declared.PresetRefusal.{PresetRefusal}
use Rattle.preset_session.specs.declared.PresetRefusal.TheVariants.{Image, Parameters, Locked, Room}

-- ---- "a session that starts with that image and sets block 1 by a write, a copy and a 32-byte read-back, one kind 4 record each, at 60h after
-- CCh, nothing else read"

-- the read counts are 0, 0 and 32
abbrev pub write_payload : List ℕ → List ℕ
write_payload wanted = 0 ∷ 0xcc ∷ 0x6c ∷ 0x60 ∷ wanted

abbrev pub copy_payload : List ℕ
copy_payload = 0 ∷ 0xcc ∷ 0x48 ∷ 0x60 ∷ []

abbrev pub read_payload : List ℕ
read_payload = 32 ∷ 0xcc ∷ 0x69 ∷ 0x60 ∷ []

abbrev pub programming_of : List ℕ → List ℕ → List ℕ
programming_of image wanted =
    record_of 1 image ++ (record_of 4 (write_payload wanted) ++ (record_of 4 copy_payload ++ record_of 4 read_payload))

-- how many bytes it has, of an image of 60 bytes and 32 wanted ones
abbrev pub programming_size : ℕ
programming_size = 120

-- ---- "first what an image record would get (4, 6, 7, later 10), then 22 if the parameters are not 32 bytes, 20 if block 1 is locked, 21 if the
-- room is under 120"

abbrev pub preset_refusal_number : PresetRefusal → ℕ
preset_refusal_number (Image r) = refusal_number r
preset_refusal_number Parameters = 22
preset_refusal_number Locked = 20
preset_refusal_number Room = 21

-- what a call of `write_session` answers
abbrev pub Written : Type 0
Written = Result ⊤ PresetRefusal

abbrev pub write_done : Written
write_done = Ok tt

abbrev pub written_number : Written → ℕ
written_number (Ok _) = 0
written_number (Err why) = preset_refusal_number why

-- of an image that is accepted
abbrev pub accepted_answer : List ℕ → List ℕ → ℕ → Written
accepted_answer image wanted room =
    pick (eqb (length wanted) 32)
    (pick (image_bl1 image) (Err Locked) (pick (ltb room programming_size) (Err Room) write_done))
    (Err Parameters)

abbrev pub preset_answer_by : Taken → List ℕ → List ℕ → ℕ → Written
preset_answer_by (Ok e) image wanted room = accepted_answer image wanted room
preset_answer_by (Err r) image wanted room = Err (Image r)

unfoldable pub preset_answer : List ℕ → List ℕ → ℕ → Written
preset_answer image wanted room = preset_answer_by (judged_of image) image wanted room

-- a session is written where none of these applies
pub record Granted (image wanted : List ℕ) (room : ℕ) : Type 0 where
  pub accepted : judged_of image ≡ Ok (event.Image Ds2781)
  pub all : length wanted ≡ 32
  pub unlocked : image_bl1 image ≡ false
  pub fits : programming_size ≤ room

-- ---- "the session room is lent; what is beyond the written session stays"; "nothing is written then"

abbrev pub room_by : Written → List ℕ → List ℕ → List ℕ → List ℕ
room_by (Ok _) image wanted room = programming_of image wanted ++ drop programming_size room
room_by (Err why) image wanted room = room

pub record Programming (image wanted room : List ℕ) (said : Written) (after : List ℕ) : Type 0 where
  pub number : written_number said ≡ written_number (preset_answer image wanted (length room))
  pub answer : said ≡ preset_answer image wanted (length room)
  pub written : after ≡ room_by (preset_answer image wanted (length room)) image wanted room
