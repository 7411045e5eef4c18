-- What the program says of a damaged image, and what it writes to the file: the lines of what was changed and the mended image, or a refusal.
use Rattle.std.specs.Prelude.{◌≡◌, Ok, Err, Bool, List, ℕ}
use Rattle.numbers.specs.Choice.{pick}
use Rattle.digits.specs.Ascii.{ascii}
use Rattle.streams.specs.declared.Said.{Said}
use Rattle.streams.specs.Streams.{Speech, output, error, unread_text, refused_text, Saying}
use Rattle.record.specs.Image.{image_size}
use Rattle.mending.specs.declared.MendRefusal.{MendRefusal}
use Rattle.mending.specs.declared.MendRefusal.TheVariants.{Size, Family}
use Rattle.mending.specs.Mending.{Mended, mended_of, changes_of, mend_refusal_number, mending_answer}

abbrev pub mend_name : List ℕ
mend_name = ascii "mend"

-- ---- what the refusals mean

abbrev pub mend_size_words : List ℕ
mend_size_words = ascii "the image is not 60 bytes"

abbrev pub family_words : List ℕ
family_words = ascii "the image has another family code"

abbrev pub mend_refusal_words : MendRefusal → List ℕ
mend_refusal_words Size = mend_size_words
mend_refusal_words Family = family_words

-- ---- what is said, and what the file gets

-- the lines go to standard output, a refusal to standard error
abbrev pub speech_by : Mended → List ℕ → Speech
speech_by (Ok _) image = output (changes_of image)
speech_by (Err why) image = error (refused_text (mend_refusal_number why) (mend_refusal_words why))

-- the file's bytes; where nothing is written, what stood in the room for them
abbrev pub file_by : Mended → List ℕ → List ℕ → List ℕ
file_by (Ok _) image room = mended_of image
file_by (Err why) image room = room

-- with room for all of both
unfoldable pub mend_speech : List ℕ → Speech
mend_speech image = speech_by (mending_answer image image_size) image

unfoldable pub mend_file : List ℕ → List ℕ → List ℕ
mend_file image room = file_by (mending_answer image image_size) image room

-- of standard input s, or where a read of it failed
abbrev pub speech_of : Bool → List ℕ → Speech
speech_of failed s = pick failed (error (unread_text mend_name)) (mend_speech s)

abbrev pub file_of : Bool → List ℕ → List ℕ → List ℕ
file_of failed s room = pick failed room (mend_file s room)

-- what is said stands in one room, and the file's bytes in the other
pub record Mends (failed : Bool) (s file text : List ℕ) (said : Said) (file' text' : List ℕ) : Type 0 where
  pub saying : Saying (speech_of failed s) text said text'
  pub filed : file' ≡ file_of failed s file
