-- "Export 48 bytes": the label and block 1 as text for the programmer.
use Rattle.std.specs.Prelude.{◌≡◌, ⊤, Result, Ok, Err, ℕ, Bool, true, false, List, [], ◌++◌, length, drop, nat_lt}
use Rattle.numbers.specs.Choice.{pick, both}
use Rattle.slices.specs.Slices.{part}
use Rattle.record.specs.Image.{image_label, image_block, image_bl0}
use Rattle.record.specs.Record.{judged_of, Taken}
use Rattle.intel_hex.specs.Line.{hex_line_text, data_record, end_record, fault_number}
use Rattle.intel_hex.specs.declared.HexRefusal.{HexRefusal}
use Rattle.intel_hex.specs.declared.HexRefusal.TheVariants as why

-- ---- the answers' numbers

abbrev pub hex_refusal_number : HexRefusal → ℕ
hex_refusal_number (why.Line fault) = fault_number fault
hex_refusal_number why.Whole = 43
hex_refusal_number why.Image = 44
hex_refusal_number why.Room = 45

abbrev pub Answer : Type 0
Answer = Result ⊤ HexRefusal

abbrev pub done : Answer
done = Ok tt

abbrev pub answer_number : Answer → ℕ
answer_number (Ok _) = 0
answer_number (Err w) = hex_refusal_number w

-- ---- "44, in export, if an image record would refuse either image"

abbrev pub accepted_by : Taken → Bool
accepted_by (Ok e) = true
accepted_by (Err r) = false

abbrev pub image_accepted : List ℕ → Bool
image_accepted image = accepted_by (judged_of image)

unfoldable pub both_accepted : List ℕ → List ℕ → Bool
both_accepted pack factory = both (image_accepted pack) (image_accepted factory)

-- ---- "The label handed back for export is a part of the pack's image if block 0 is locked there, else of the factory's (empty on 44). Block 1 is the
-- pack's"

unfoldable pub export_label : List ℕ → List ℕ → List ℕ
export_label pack factory = pick (both_accepted pack factory) (pick (image_bl0 pack) (image_label pack) (image_label factory)) []

-- the 48 bytes
abbrev pub exported_of : List ℕ → List ℕ → List ℕ
exported_of pack factory = export_label pack factory ++ image_block pack

-- ---- "the label at 0020h and block 1 at 0060h, data records of 16, upper-case, then the end record, a line feed after each"

abbrev pub label_line : List ℕ → List ℕ
label_line label = hex_line_text (data_record 0x20 label)

abbrev pub low_line : List ℕ → List ℕ
low_line block = hex_line_text (data_record 0x60 (part 16 block 0))

abbrev pub high_line : List ℕ → List ℕ
high_line block = hex_line_text (data_record 0x70 (part 16 block 16))

abbrev pub end_line : List ℕ
end_line = hex_line_text end_record

abbrev pub export_text : List ℕ → List ℕ → List ℕ
export_text label block = label_line label ++ (low_line block ++ (high_line block ++ end_line))

abbrev pub export_size : ℕ
export_size = 144

-- ---- "then 45 for a room under 144". "Nothing is written on a refusal"

unfoldable pub export_answer : List ℕ → List ℕ → ℕ → Answer
export_answer pack factory room =
    pick (both_accepted pack factory) (pick (nat_lt room export_size) (Err why.Room) done) (Err why.Image)

abbrev pub export_room : Answer → List ℕ → List ℕ → List ℕ → List ℕ
export_room (Ok _) pack factory room = export_text (export_label pack factory) (image_block pack) ++ drop export_size room
export_room (Err w) pack factory room = room

pub record Exporting (pack factory room : List ℕ) (said : Answer) (after : List ℕ) : Type 0 where
  pub number : answer_number said ≡ answer_number (export_answer pack factory (length room))
  pub answer : said ≡ export_answer pack factory (length room)
  pub written : after ≡ export_room (export_answer pack factory (length room)) pack factory room
