-- What the program says of an image and parameters: the session that sets block 1 to them, or why there is none.
use Rattle.std.specs.Prelude.{Ok, Err, Bool, List, [], ℕ}
use Rattle.numbers.specs.Choice.{pick}
use Rattle.digits.specs.Ascii.{ascii}
use Rattle.streams.specs.Streams.{Speech, output, error, refused_text}
use Rattle.record.specs.declared.Refusal.{Refusal}
use Rattle.record.specs.declared.Refusal.TheVariants as refusal
use Rattle.preset_session.specs.declared.PresetRefusal.{PresetRefusal}
use Rattle.preset_session.specs.declared.PresetRefusal.TheVariants.{Image, Parameters, Locked, Room}
use Rattle.preset_session.specs.PresetSession.{Written, programming_of, programming_size, preset_refusal_number, preset_answer}

-- ---- what the refusals mean

abbrev pub preset_size_words : List ℕ
preset_size_words = ascii "the image is not 60 bytes"

abbrev pub address_words : List ℕ
address_words = ascii "the address of the image has another family code or a wrong CRC"

abbrev pub locks_words : List ℕ
locks_words = ascii "the lock byte of the image is above 3"

abbrev pub breaks_words : List ℕ
breaks_words = ascii "the breakpoints of the image are crossed or above 40 degrees"

abbrev pub preset_other_words : List ℕ
preset_other_words = ascii "the image is refused"

abbrev pub parameters_words : List ℕ
parameters_words = ascii "the parameters are not 32 bytes"

abbrev pub locked_words : List ℕ
locked_words = ascii "block 1 is locked"

abbrev pub preset_room_words : List ℕ
preset_room_words = ascii "the room for the session is too small"

-- of an image. The judge refuses it for its size, its address, its lock byte or its breakpoints alone
abbrev pub preset_image_words : Refusal → List ℕ
preset_image_words refusal.Size = preset_size_words
preset_image_words refusal.Address = address_words
preset_image_words refusal.Locks = locks_words
preset_image_words refusal.Breaks = breaks_words
preset_image_words refusal.Kind = preset_other_words
preset_image_words refusal.Order = preset_other_words
preset_image_words refusal.Count = preset_other_words
preset_image_words refusal.Room = preset_other_words
preset_image_words refusal.Interval = preset_other_words
preset_image_words refusal.Repeated = preset_other_words

abbrev pub preset_refusal_words : PresetRefusal → List ℕ
preset_refusal_words (Image r) = preset_image_words r
preset_refusal_words Parameters = parameters_words
preset_refusal_words Locked = locked_words
preset_refusal_words Room = preset_room_words

-- ---- what is said

-- the session goes to standard output, a refusal to standard error
abbrev pub preset_by : Written → List ℕ → List ℕ → Speech
preset_by (Ok _) image wanted = output (programming_of image wanted)
preset_by (Err why) image wanted = error (refused_text (preset_refusal_number why) (preset_refusal_words why))

-- with room for the whole session
unfoldable pub preset_speech : List ℕ → List ℕ → Speech
preset_speech image wanted = preset_by (preset_answer image wanted programming_size) image wanted

-- what is said of the two files, or where one of them was not read: that was said by its name, and there is nothing more to say
abbrev pub preset_of : Bool → List ℕ → List ℕ → Speech
preset_of unread image wanted = pick unread (error []) (preset_speech image wanted)
