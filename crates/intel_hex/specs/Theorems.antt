-- THE 48 BYTES COME BACK, request [10] of document 02.
--
-- "Import reads just this layout, record order free, and gives back the 48 bytes of every export."
--
-- Stated of any two calls that their contracts allow: one of `intel_hex::write_text`, which is given two images of bytes, and one of
-- `intel_hex::read_text`, which is given the lines that were written, those of the data in any order.
use Rattle.std.specs.Prelude.{◌≡◌, ℕ, ◌<◌, ◌≤◌, true, ◌⊎◌, List, [], ◌∷◌, ◌++◌, length, take, drop, slice_index}
use Rattle.record.specs.Image.{image_block}
use Rattle.intel_hex.specs.Line.{good, hex_line_text, data_record, address_in, data_in, placed_of, checked_line_of}
use Rattle.intel_hex.specs.Export.{Answer, done, answer_number, export_label, exported_of, label_line}
use Rattle.intel_hex.specs.Export.{low_line, high_line, end_line, export_text, export_size, Exporting}
use Rattle.intel_hex.specs.Import.{import_size, Importing}

abbrev pub Bytes : List ℕ → Type 0
Bytes s = (i : ℕ) → slice_index s i < 256

-- ---- a line is good if, and only if, it is the end record, or 16 bytes at one of the three addresses, as they are written

-- 16 bytes at 0020h, 0060h or 0070h, with the checksum of count, address, type and these (`hex_record`)
pub record DataLine (address : ℕ) (bytes line : List ℕ) : Type 0 where
  pub placed : placed_of address ≡ true
  pub sized : length bytes ≡ 16
  pub small : Bytes bytes
  pub written : line ≡ hex_line_text (data_record address bytes)

-- "40 a line that isn't a colon, the upper-case digit pairs its count asks and a line feed, 41 checksum, 42 any record but the end record and 16 bytes at
-- 0020h, 0060h or 0070h": a line is good where it is none of these, and only there
pub record GoodLines : Type 0 where
  pub only : (l : List ℕ) → checked_line_of l ≡ good → (l ≡ end_line) ⊎ DataLine (address_in l) (data_in l) l
  pub end : checked_line_of end_line ≡ good
  pub sixteen : (address : ℕ) (bytes l : List ℕ) → DataLine address bytes l → (checked_line_of l ≡ good) × (address_in l ≡ address) × (data_in l ≡ bytes)

-- ---- the lines of an export, those of the data in any order

-- a line is one of some
abbrev pub Among : List ℕ → List (List ℕ) → Type 0
Among line [] = ⊥
Among line (l ∷ ls) = (l ≡ line) ⊎ Among line ls

-- three lines, among which each of the three is: the three in some order
pub record InSomeOrder (one two three : List ℕ) (ls : List (List ℕ)) : Type 0 where
  pub many : length ls ≡ 3
  pub first : Among one ls
  pub second : Among two ls
  pub third : Among three ls

-- lines, one behind the other
abbrev pub joined_text : List (List ℕ) → List ℕ
joined_text [] = []
joined_text (l ∷ ls) = l ++ joined_text ls

-- the text of an export, its data lines in an order
pub record Reordered (pack factory : List ℕ) (ls : List (List ℕ)) (text : List ℕ) : Type 0 where
  pub arranged : InSomeOrder (label_line (export_label pack factory)) (low_line (image_block pack)) (high_line (image_block pack)) ls
  pub lines : text ≡ joined_text ls ++ end_line

-- ---- the theorem

-- what came back
pub record Returned (pack factory room : List ℕ) (said : Answer) (after : List ℕ) : Type 0 where
  pub number : answer_number said ≡ 0
  pub sized : length (exported_of pack factory) ≡ import_size
  pub bytes : after ≡ exported_of pack factory ++ drop import_size room

-- of every call of `write_text` that says `Ok`, whatever it was given: it left 144 bytes, which are the text in an order, and any order of it is read back
abbrev pub RoundTrip : Type 0
RoundTrip =
    (pack factory room after : List ℕ) → Bytes pack → Bytes factory → Exporting pack factory room done after
    → (ls : List (List ℕ)) (text : List ℕ) → Reordered pack factory ls text
    → (lent : List ℕ) (said : Answer) (last : List ℕ) → import_size ≤ length lent → Importing text lent said last
    → Returned pack factory lent said last

abbrev pub ExportedText : Type 0
ExportedText =
    (pack factory room after : List ℕ) → Exporting pack factory room done after
    → (take export_size after ≡ export_text (export_label pack factory) (image_block pack))
    × Reordered pack factory (label_line (export_label pack factory) ∷ low_line (image_block pack) ∷ high_line (image_block pack) ∷ []) (take export_size after)
