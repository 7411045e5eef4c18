-- What the program says of a pack's image and the factory's: the text for the programmer, or why there is none.
use Rattle.std.specs.Prelude.{Ok, Err, Bool, List, [], ◌++◌, ℕ, eqb}
use Rattle.numbers.specs.Choice.{pick}
use Rattle.digits.specs.Ascii.{ascii}
use Rattle.digits.specs.Digits.{decimal_text}
use Rattle.streams.specs.Streams.{Speech, output, error, refused_text}
use Rattle.record.specs.Image.{image_block}
use Rattle.record.specs.Record.{taken_number, judged_of}
use Rattle.text.specs.Text.{image_meaning}
use Rattle.intel_hex.specs.declared.HexRefusal.{HexRefusal}
use Rattle.intel_hex.specs.declared.HexRefusal.TheVariants.{Line, Whole, Image, Room}
use Rattle.intel_hex.specs.Export.{Answer, hex_refusal_number, export_label, export_text, export_size, export_answer}

-- ---- what the refusals mean

-- what a record of an image would be refused with
abbrev pub refused_as_text : ℕ → List ℕ
refused_as_text refusal = ascii " is refused in a record of kind 1 with " ++ (decimal_text refusal ++ (ascii ": " ++ image_meaning refusal))

-- the image of the pack, or of the factory
abbrev pub side_words : List ℕ → ℕ → List ℕ
side_words side refusal = ascii "the image of the " ++ (side ++ refused_as_text refusal)

abbrev pub judged_number : List ℕ → ℕ
judged_number image = taken_number (judged_of image)

-- the pack's, where both are refused
unfoldable pub refused_side_words : List ℕ → List ℕ → List ℕ
refused_side_words pack factory =
    pick (eqb (judged_number pack) 0) (side_words (ascii "factory") (judged_number factory)) (side_words (ascii "pack") (judged_number pack))

abbrev pub hex_out_room_words : List ℕ
hex_out_room_words = ascii "the room for the text is too small"

abbrev pub hex_out_other_words : List ℕ
hex_out_other_words = ascii "the text is refused"

-- an export is refused for an image or the room alone
abbrev pub hex_out_refusal_words : HexRefusal → List ℕ → List ℕ → List ℕ
hex_out_refusal_words (Line fault) pack factory = hex_out_other_words
hex_out_refusal_words Whole pack factory = hex_out_other_words
hex_out_refusal_words Image pack factory = refused_side_words pack factory
hex_out_refusal_words Room pack factory = hex_out_room_words

-- ---- what is said

-- the text goes to standard output, a refusal to standard error
abbrev pub hex_out_by : Answer → List ℕ → List ℕ → Speech
hex_out_by (Ok _) pack factory = output (export_text (export_label pack factory) (image_block pack))
hex_out_by (Err why) pack factory = error (refused_text (hex_refusal_number why) (hex_out_refusal_words why pack factory))

-- with room for the whole text
unfoldable pub hex_out_speech : List ℕ → List ℕ → Speech
hex_out_speech pack factory = hex_out_by (export_answer pack factory export_size) pack factory

-- what is said of the two files, or where one of them was not read: that was said by its name, and there is nothing more to say
abbrev pub hex_out_of : Bool → List ℕ → List ℕ → Speech
hex_out_of unread pack factory = pick unread (error []) (hex_out_speech pack factory)
