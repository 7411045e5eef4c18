-- TWO CAUSES AT ONCE, request [9] of document 02: "30 not 60 bytes, or a result room under 60; then 31 wrong family".
use Rattle.std.specs.Prelude.{◌≡◌, List, [], ◌∷◌, ℕ, replicate}
use Rattle.record.specs.Image.{image_size}
use Rattle.mending.specs.Mending.{mended_number, mending_answer, listed_by, listed_number}

-- an image, all zero behind its family code, and one of another family; so many bytes
abbrev of_family : ℕ → ℕ → List ℕ
of_family family bytes = family ∷ replicate bytes 0

-- what is answered with a room for the image; and by the lines, whose room is large enough by its type
abbrev answers : List ℕ → ℕ → ℕ
answers image room = mended_number (mending_answer image room)

abbrev lists : List ℕ → ℕ
lists image = listed_number (listed_by (mending_answer image image_size) image)

-- ---- the table, a statement for each refusal

-- each alone: 59 and 61 bytes, a room of 59, another family
abbrev pub MendAlone : Type 0
MendAlone =
    answers (of_family 0x3d 58) 60 ∷ answers (of_family 0x3d 60) 60 ∷ answers (of_family 0x3d 59) 59 ∷ lists (of_family 0x3d 58)
    ∷ answers (of_family 0x3e 59) 60 ∷ lists (of_family 0x3e 59) ∷ answers (of_family 0x3d 59) 60 ∷ []
    ≡ 30 ∷ 30 ∷ 30 ∷ 30 ∷ 31 ∷ 31 ∷ 0 ∷ []

-- 30 for the length before 31
abbrev pub MendSizeFirst : Type 0
MendSizeFirst = answers (of_family 0x3e 58) 60 ∷ answers (of_family 0x3e 60) 60 ∷ lists (of_family 0x3e 60) ∷ [] ≡ 30 ∷ 30 ∷ 30 ∷ []

-- 30 for the room before 31: another family and a room of 59
abbrev pub MendRoomFirst : Type 0
MendRoomFirst = answers (of_family 0x3e 59) 59 ∷ [] ≡ 30 ∷ []
