-- TWO CAUSES AT ONCE, request [2] of document 02: which answer comes first, of every two refusals of an image, of parameters and of a room.
--
-- "first what an image record would get (4, 6, 7, later 10), then 22 if the parameters are not 32 bytes, 20 if block 1 is locked, 21 if the room is
-- under 120". Each row has the two causes that it is named after and no other.
use Rattle.std.specs.Prelude.{◌≡◌, List, [], ◌∷◌, ◌++◌, ℕ, replicate}
use Rattle.slices.specs.Slices.{put}
use Rattle.preset_session.specs.PresetSession.{written_number, preset_answer}

-- ---- an image that is accepted, and what is wrong with one

-- all bytes are 0 but the family code and the CRC of the address
abbrev blank : List ℕ
blank = 0x3d ∷ (replicate 6 0 ++ (0x2c ∷ replicate 52 0))

-- 4: 61 bytes
abbrev longer : List ℕ → List ℕ
longer image = image ++ (0 ∷ [])

-- 6: another CRC
abbrev misread : List ℕ → List ℕ
misread image = put image 7 (0 ∷ [])

-- 7: lock byte 4, and 6, by which block 1 is locked too
abbrev overlocked : List ℕ → List ℕ
overlocked image = put image 59 (4 ∷ [])

abbrev overlocked_both : List ℕ → List ℕ
overlocked_both image = put image 59 (6 ∷ [])

-- 10: TBP34 is -12, below TBP23
abbrev crossed : List ℕ → List ℕ
crossed image = put image 0x34 (0xf4 ∷ [])

-- 20: block 1 is locked
abbrev locked : List ℕ → List ℕ
locked image = put image 59 (2 ∷ [])

-- ---- parameters and rooms: 22 for 31 parameters, 21 for a room of 119

abbrev all : List ℕ
all = replicate 32 0

abbrev few : List ℕ
few = replicate 31 0

abbrev answers : List ℕ → List ℕ → ℕ → ℕ
answers image wanted room = written_number (preset_answer image wanted room)

-- ---- the table, a statement for each refusal

-- each alone
abbrev pub PresetAlone : Type 0
PresetAlone =
    answers (longer blank) all 120 ∷ answers (misread blank) all 120 ∷ answers (overlocked blank) all 120 ∷ answers (crossed blank) all 120
    ∷ answers blank few 120 ∷ answers (locked blank) all 120 ∷ answers blank all 119 ∷ answers blank all 120 ∷ []
    ≡ 4 ∷ 6 ∷ 7 ∷ 10 ∷ 22 ∷ 20 ∷ 21 ∷ 0 ∷ []

-- 4 before 6, 7, 10, 22, 20 and 21
abbrev pub PresetSizeFirst : Type 0
PresetSizeFirst =
    answers (longer (misread blank)) all 120 ∷ answers (longer (overlocked blank)) all 120 ∷ answers (longer (crossed blank)) all 120
    ∷ answers (longer blank) few 120 ∷ answers (longer (locked blank)) all 120 ∷ answers (longer blank) all 119 ∷ []
    ≡ 4 ∷ 4 ∷ 4 ∷ 4 ∷ 4 ∷ 4 ∷ []

-- 6 before 7, 10, 22, 20 and 21
abbrev pub PresetAddressFirst : Type 0
PresetAddressFirst =
    answers (misread (overlocked blank)) all 120 ∷ answers (misread (crossed blank)) all 120 ∷ answers (misread blank) few 120
    ∷ answers (misread (locked blank)) all 120 ∷ answers (misread blank) all 119 ∷ []
    ≡ 6 ∷ 6 ∷ 6 ∷ 6 ∷ 6 ∷ []

-- 7 before 10, 22, 20 and 21
abbrev pub PresetLocksFirst : Type 0
PresetLocksFirst =
    answers (overlocked (crossed blank)) all 120 ∷ answers (overlocked blank) few 120 ∷ answers (overlocked_both blank) all 120
    ∷ answers (overlocked blank) all 119 ∷ []
    ≡ 7 ∷ 7 ∷ 7 ∷ 7 ∷ []

-- 10 before 22, 20 and 21
abbrev pub PresetBreaksFirst : Type 0
PresetBreaksFirst =
    answers (crossed blank) few 120 ∷ answers (crossed (locked blank)) all 120 ∷ answers (crossed blank) all 119 ∷ [] ≡ replicate 3 10

-- 22 before 20 and 21
abbrev pub PresetParametersFirst : Type 0
PresetParametersFirst = answers (locked blank) few 120 ∷ answers blank few 119 ∷ [] ≡ 22 ∷ 22 ∷ []

-- 20 before 21: a locked image and a room of 119
abbrev pub PresetLockFirst : Type 0
PresetLockFirst = answers (locked blank) all 119 ≡ 20
