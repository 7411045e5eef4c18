-- WHAT MENDING IS WORTH, request [9] of document 02.
--
-- "a tool which writes a 60-byte image that is accepted"; "An acceptable image with AS in range comes out unchanged with no lines. Mending twice is as
-- mending once."
--
-- Stated of the judge that a session asks, of every image; `ByCallTheorem` says that these are the images of every call of `mend` that is not refused.
-- `ListingTheorem` says what every call of `changes` tells, and the second of these sentences of the calls of both functions.
use Rattle.std.specs.Prelude.{◌≡◌, false, ◌≢◌, Ok, Err, List, [], ℕ, ◌+◌, ◌%◌, ◌≤◌, ◌<◌, pos, length, get_or, take, drop}
use Rattle.std.specs.Int.Signed.{le_z}
use Rattle.numbers.specs.Choice.{pick}
use Rattle.numbers.specs.Offset.{value, offset8_of}
use Rattle.crc.specs.Crc.{crc_of}
use Rattle.params.specs.declared.Breaks.{Breaks}
use Rattle.params.specs.Params.{byte_at}
use Rattle.state.specs.declared.Profile.TheVariants.{Ds2781}
use Rattle.record.specs.declared.Event.TheVariants.{Image}
use Rattle.record.specs.Image.{image_size, address_at, image_address, image_label, image_block, image_breaks, image_acr, image_aging, image_bl0, image_bl1}
use Rattle.record.specs.Record.{taken_of}
use Rattle.mending.specs.declared.MendRefusal.{MendRefusal}
use Rattle.mending.specs.Mending.{Mended, Listed, mend_done, cap_of, capped_of, arranged_of, mended_of, changes_of, changes_size, Mending, Listing}

-- an image that is not refused
pub record Mendable (image : List ℕ) : Type 0 where
  pub sized : length image ≡ image_size
  pub family : get_or image address_at 0 ≡ 0x3d

-- an image that is accepted as the first record of a session
abbrev pub Accepted : List ℕ → Type 0
Accepted image = taken_of 1 false image ≡ Ok (Image Ds2781)

-- ---- "a 60-byte image that is accepted"

abbrev pub AcceptedTheorem : Type 0
AcceptedTheorem = (image : List ℕ) → Mendable image → (length (mended_of image) ≡ image_size) × Accepted (mended_of image)

-- ---- "An acceptable image with AS in range comes out unchanged with no lines"

pub record SoundImage (image : List ℕ) : Type 0 where
  pub bytes : (i : ℕ) → get_or image i 0 < 256
  pub accepted : Accepted image
  pub young : image_aging image ≤ 128
  pub old : 63 ≤ image_aging image

abbrev pub UnchangedTheorem : Type 0
UnchangedTheorem = (image : List ℕ) → SoundImage image → (mended_of image ≡ image) × (changes_of image ≡ [])

-- ---- "Mending twice is as mending once": the second time there are no lines

abbrev pub TwiceTheorem : Type 0
TwiceTheorem = (image : List ℕ) → Mendable image → (mended_of (mended_of image) ≡ mended_of image) × (changes_of (mended_of image) ≡ [])

-- ---- "put in ascending order": ascending, and the same three, each as often as it was. (What any f gives for the three comes to the same sum.)

pub record Arranged (b after : Breaks) : Type 0 where
  pub smallest : after.b12 ≤ after.b23
  pub largest : after.b23 ≤ after.b34
  pub same : (f : ℕ → ℕ) → f after.b12 + f after.b23 + f after.b34 ≡ f b.b12 + f b.b23 + f b.b34

abbrev pub ArrangedTheorem : Type 0
ArrangedTheorem = (b : Breaks) → Arranged b (arranged_of b)

-- "capped at 40", in signed numbers
abbrev pub CappedTheorem : Type 0
CappedTheorem = (x : ℕ) → value 7 (cap_of x) ≡ pick (le_z (value 7 x) (pos 40)) (value 7 x) (pos 40)

-- ---- what is kept

pub record KeptBytes (image after : List ℕ) : Type 0 where
  -- the family and the six bytes of the pack's own
  pub address : take 7 (image_address after) ≡ take 7 (image_address image)
  pub label : image_label after ≡ image_label image
  -- the parameters from 60h up to 7Bh, and 7Fh: all but the breakpoints
  pub parameters : take 28 (image_block after) ≡ take 28 (image_block image)
  pub last : byte_at (image_block after) 0x7f ≡ byte_at (image_block image) 0x7f
  pub acr : image_acr after ≡ image_acr image
  pub bl0 : image_bl0 after ≡ image_bl0 image
  pub bl1 : image_bl1 after ≡ image_bl1 image
  -- byte by byte: six of them can change, the CRC, TBP34, TBP23 and TBP12, AS and the lock byte
  pub others : (i : ℕ) → i ≢ 0x07 → i ≢ 0x34 → i ≢ 0x35 → i ≢ 0x36 → i ≢ 0x3a → i ≢ 0x3b → get_or after i 0 ≡ get_or image i 0

-- ---- what stands in the six: "address CRC recomputed, AS moved to the nearest end, upper six lock bits cleared, breakpoints capped at 40, then put in
-- ascending order from TBP12"

pub record MendedBytes (image after : List ℕ) : Type 0 where
  -- of the first seven bytes, as they are
  pub crc : get_or after 0x07 0 ≡ crc_of (take 7 image)
  pub old : get_or image 0x3a 0 < 63 → get_or after 0x3a 0 ≡ 63
  pub young : 128 < get_or image 0x3a 0 → get_or after 0x3a 0 ≡ 128
  pub in_range : 63 ≤ get_or image 0x3a 0 → get_or image 0x3a 0 ≤ 128 → get_or after 0x3a 0 ≡ get_or image 0x3a 0
  pub locks : get_or after 0x3b 0 ≡ get_or image 0x3b 0 % 4

-- the three that are read from the mended image are those that are read from the image, each capped, in ascending order
pub record MendedBreakpoints (image after : List ℕ) : Type 0 where
  pub breaks : image_breaks after ≡ arranged_of (capped_of (image_breaks image))
  pub ascending : Arranged (capped_of (image_breaks image)) (image_breaks after)
  -- TBP34, TBP23 and TBP12 stand at these offsets, as bytes in two's complement
  pub tbp34 : get_or after 0x34 0 ≡ offset8_of (image_breaks after).b34
  pub tbp23 : get_or after 0x35 0 ≡ offset8_of (image_breaks after).b23
  pub tbp12 : get_or after 0x36 0 ≡ offset8_of (image_breaks after).b12

-- so each of the 60 bytes is said
abbrev pub KeptTheorem : Type 0
KeptTheorem =
    (image : List ℕ) → length image ≡ image_size
    → KeptBytes image (mended_of image) × MendedBytes image (mended_of image) × MendedBreakpoints image (mended_of image)

-- ---- and so of every call of `mend` that is done, whatever it was given

abbrev pub ByCallTheorem : Type 0
ByCallTheorem = (image room after : List ℕ) → Mending image room mend_done after → Mendable image × (take image_size after ≡ mended_of image)

-- ---- and of every call of `changes`, whose room has its size by its type

-- the lines are those of the image, in so many bytes at the front of the room, and what is behind them stays
pub record LinesTold (image room : List ℕ) (n : ℕ) (after : List ℕ) : Type 0 where
  pub mendable : Mendable image
  pub many : n ≡ length (changes_of image)
  pub lines : take n after ≡ changes_of image
  pub behind : drop n after ≡ drop n room

abbrev pub LinesTheorem : Type 0
LinesTheorem = (image room after : List ℕ) (n : ℕ) → length room ≡ changes_size → Listing image room (Ok n) after → LinesTold image room n after

-- it is refused only where no call of `mend` would be done, and then the room stays
abbrev pub NoLinesTheorem : Type 0
NoLinesTheorem = (image room after : List ℕ) (why : MendRefusal) → Listing image room (Err why) after → (Mendable image → ⊥) × (after ≡ room)

-- of what a call of `mend` has written there are no lines
abbrev pub LinesAgainTheorem : Type 0
LinesAgainTheorem =
    (image room after : List ℕ) → Mending image room mend_done after
    → (lent last : List ℕ) (said : Listed) → Listing (take image_size after) lent said last → (said ≡ Ok 0) × (last ≡ lent)

-- "An acceptable image with AS in range comes out unchanged with no lines", of any calls of the two that are given one
pub record StaysByCalls (image room : List ℕ) (said : Mended) (after lent : List ℕ) (heard : Listed) (last : List ℕ) : Type 0 where
  pub done : said ≡ mend_done
  pub same : take image_size after ≡ image
  pub none : heard ≡ Ok 0
  pub stays : last ≡ lent

abbrev pub StaysTheorem : Type 0
StaysTheorem =
    (image : List ℕ) → SoundImage image → (room : List ℕ) (said : Mended) (after : List ℕ) → image_size ≤ length room → Mending image room said after
    → (lent : List ℕ) (heard : Listed) (last : List ℕ) → Listing image lent heard last → StaysByCalls image room said after lent heard last

pub record ListingTheorem : Type 0 where
  pub told : LinesTheorem
  pub refused : NoLinesTheorem
  pub again : LinesAgainTheorem
  pub stays : StaysTheorem
