-- Mending damaged images: the image that a session accepts, made of one that is damaged in up to four ways, the lines that tell what was changed,
-- and when nothing is mended.
use Rattle.std.specs.Prelude.{◌≡◌, ⊤, Result, Ok, Err, List, [], ◌∷◌, ◌++◌, ℕ, suc, ◌+◌, ◌%◌, min, max, eqb, ltb, length, get_or, drop}
use Rattle.numbers.specs.Choice.{pick}
use Rattle.numbers.specs.Offset.{zero_at, offset8_of, moved_into}
use Rattle.slices.specs.Slices.{part, put}
use Rattle.crc.specs.Crc.{crc_of}
use Rattle.digits.specs.Ascii.{ascii}
use Rattle.digits.specs.Digits.{lower, pair_text}
use Rattle.params.specs.declared.Breaks.{Breaks}
use Rattle.record.specs.Image.{image_size, address_at, aging_at, image_breaks, image_aging, image_locks}
use Rattle.mending.specs.declared.MendRefusal.{MendRefusal}
use Rattle.mending.specs.declared.MendRefusal.TheVariants.{Size, Family}

-- ---- "address CRC recomputed": the eighth byte, of the first seven as they are

abbrev pub crc_at : ℕ
crc_at = 7

abbrev pub mended_crc : List ℕ → ℕ
mended_crc image = crc_of (part 7 image address_at)

-- ---- "AS moved to the nearest end"

abbrev pub mended_aging : List ℕ → ℕ
mended_aging image = moved_into 63 128 (image_aging image)

-- ---- "upper six lock bits cleared"

abbrev pub mended_locks : List ℕ → ℕ
mended_locks image = image_locks image % 4

-- ---- "breakpoints capped at 40, then put in ascending order from TBP12", as signed bytes, which are kept as z + 2^7

abbrev pub cap_of : ℕ → ℕ
cap_of x = min x (zero_at 7 + 40)

abbrev pub capped_of : Breaks → Breaks
capped_of breaks = record { b34 = cap_of breaks.b34; b23 = cap_of breaks.b23; b12 = cap_of breaks.b12 }

abbrev pub smallest_of : Breaks → ℕ
smallest_of breaks = min (min breaks.b12 breaks.b23) breaks.b34

-- the larger of the first two, or the third, whichever is smaller; but not below the smaller of the first two
abbrev pub middle_of : Breaks → ℕ
middle_of breaks = max (min breaks.b12 breaks.b23) (min (max breaks.b12 breaks.b23) breaks.b34)

abbrev pub largest_of : Breaks → ℕ
largest_of breaks = max (max breaks.b12 breaks.b23) breaks.b34

unfoldable pub arranged_of : Breaks → Breaks
arranged_of breaks = record { b34 = largest_of breaks; b23 = middle_of breaks; b12 = smallest_of breaks }

-- TBP34 stands first, at 34h
abbrev pub breaks_at : ℕ
breaks_at = 0x34

-- as bytes in two's complement again
abbrev pub break_bytes : Breaks → List ℕ
break_bytes breaks = offset8_of breaks.b34 ∷ offset8_of breaks.b23 ∷ offset8_of breaks.b12 ∷ []

abbrev pub mended_breaks : List ℕ → Breaks
mended_breaks image = arranged_of (capped_of (image_breaks image))

-- ---- the mended image: these bytes over the image, and every other byte as it is

unfoldable pub mended_of : List ℕ → List ℕ
mended_of image =
    put (put (put image crc_at (mended_crc image ∷ [])) breaks_at (break_bytes (mended_breaks image))) aging_at (mended_aging image ∷ mended_locks image ∷ [])

-- ---- "one line per changed byte by rising offset: offset, old, new, each two lower-case hex digits, one space between"

abbrev pub change_line : ℕ → ℕ → ℕ → List ℕ
change_line offset old new = pair_text lower offset ++ (ascii " " ++ (pair_text lower old ++ (ascii " " ++ (pair_text lower new ++ ascii "\n"))))

-- nothing of a byte that is as it was
unfoldable pub change_text : ℕ → ℕ → ℕ → List ℕ
change_text offset old new = pick (eqb old new) [] (change_line offset old new)

-- of two lists of bytes, the first two at an offset
abbrev pub changes_from : ℕ → List ℕ → List ℕ → List ℕ
changes_from offset [] news = []
changes_from offset (old ∷ olds) [] = []
changes_from offset (old ∷ olds) (new ∷ news) = change_text offset old new ++ changes_from (suc offset) olds news

unfoldable pub changes_of : List ℕ → List ℕ
changes_of image = changes_from 0 image (mended_of image)

-- how many bytes they may be: nine for each byte of an image
abbrev pub changes_size : ℕ
changes_size = 540

-- ---- "Refusals: 30 not 60 bytes, or a result room under 60; then 31 wrong family"

abbrev pub mend_refusal_number : MendRefusal → ℕ
mend_refusal_number Size = 30
mend_refusal_number Family = 31

-- what a call of `mend` answers
abbrev pub Mended : Type 0
Mended = Result ⊤ MendRefusal

abbrev pub mend_done : Mended
mend_done = Ok tt

abbrev pub mended_number : Mended → ℕ
mended_number (Ok _) = 0
mended_number (Err why) = mend_refusal_number why

-- of an image and a room of so many bytes
unfoldable pub mending_answer : List ℕ → ℕ → Mended
mending_answer image room =
    pick (eqb (length image) image_size)
    (pick (ltb room image_size) (Err Size) (pick (eqb (get_or image address_at 0) 0x3d) mend_done (Err Family)))
    (Err Size)

-- ---- "neither writes anything"; what is beyond the 60 bytes stays

abbrev pub mended_room : Mended → List ℕ → List ℕ → List ℕ
mended_room (Ok _) image room = mended_of image ++ drop image_size room
mended_room (Err why) image room = room

pub record Mending (image room : List ℕ) (said : Mended) (after : List ℕ) : Type 0 where
  pub number : mended_number said ≡ mended_number (mending_answer image (length room))
  pub answer : said ≡ mending_answer image (length room)
  pub written : after ≡ mended_room (mending_answer image (length room)) image room

-- ---- the lines, in a room for all that they may be: how many bytes they are, and these at its front. There are none where the image is refused by
-- itself, which is in a room that is large enough

-- the lines, so many bytes, or why there are none
abbrev pub Listed : Type 0
Listed = Result ℕ MendRefusal

abbrev pub listed_by : Mended → List ℕ → Listed
listed_by (Ok _) image = Ok (length (changes_of image))
listed_by (Err why) image = Err why

abbrev pub lines_by : Mended → List ℕ → List ℕ → List ℕ
lines_by (Ok _) image room = put room 0 (changes_of image)
lines_by (Err why) image room = room

abbrev pub listed_number : Listed → ℕ
listed_number (Ok n) = 0
listed_number (Err why) = mend_refusal_number why

pub record Listing (image room : List ℕ) (said : Listed) (after : List ℕ) : Type 0 where
  pub number : listed_number said ≡ mended_number (mending_answer image image_size)
  pub answer : said ≡ listed_by (mending_answer image image_size) image
  pub written : after ≡ lines_by (mending_answer image image_size) image room
