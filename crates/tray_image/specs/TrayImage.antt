-- What the program says of a tray session and of a word of its call, SLOT: the pack image taken out of that slot at the end, or why there is none.
use Rattle.std.specs.Prelude.{Option, Some, None, Bool, true, List, [], ◌∷◌, ◌++◌, ℕ, ◌+◌, ◌-◌, ◌*◌, ltb, leb, length}
use Rattle.numbers.specs.Choice.{pick, both}
use Rattle.digits.specs.Ascii.{ascii}
use Rattle.streams.specs.Streams.{Speech, error, unread_text}
use Rattle.runs.specs.Record.{recs_of}
use Rattle.runs.specs.Run.{lines_after, end_after, outcome_of}
use Rattle.tray_record.specs.declared.Tray.{Tray}
use Rattle.tray_record.specs.Tray.{empty_tray, tray_did}
use Rattle.tray_run.specs.TrayRun.{named_held, named_pack}
use Rattle.text.specs.Text.{ran_speech, pack_speech, first_refused}

-- ---- SLOT, in decimal digits

unfoldable pub is_digit : ℕ → Bool
is_digit c = both (leb 48 c) (leb c 57)

abbrev pub all_digits : List ℕ → Bool
all_digits [] = true
all_digits (c ∷ cs) = both (is_digit c) (all_digits cs)

-- a number has a digit, and nothing else
unfoldable pub is_number : List ℕ → Bool
is_number word = both (ltb 0 (length word)) (all_digits word)

-- the digits in front of these have come to n
abbrev pub value_from : ℕ → List ℕ → ℕ
value_from n [] = n
value_from n (c ∷ cs) = value_from (10 * n + (c - 48)) cs

-- no tray has a slot from 8 on
unfoldable pub slot_of : List ℕ → Option ℕ
slot_of word = pick (ltb (value_from 0 word) 8) (Some (value_from 0 word)) None

-- ---- words

abbrev pub tray_image_name : List ℕ
tray_image_name = ascii "tray_image"

abbrev pub no_number_text : List ℕ
no_number_text = ascii "tray_image: SLOT is no number\n"

abbrev pub slot_words : List ℕ
slot_words = ascii "no image was accepted for this slot"

-- ---- what is said

-- the state at the end of a tray session, with 65,536 bytes of reply room
unfoldable pub tray_at_end : List ℕ → Tray
tray_at_end s = end_after tray_did empty_tray 65536 (recs_of s)

-- the image goes to standard output, 5 for a slot without an image to standard error, with the first image that was refused
abbrev pub slot_speech : Tray → Option ℕ → List ℕ → Speech
slot_speech tray slot first = pack_speech (named_held slot tray) (named_pack slot tray) (slot_words ++ first)

-- and so does the refusal of a session that was not run, with an answer lent for each record that 32,768 bytes can hold
unfoldable pub tray_image_speech : Option ℕ → List ℕ → Speech
tray_image_speech slot s =
    ran_speech (outcome_of (length s)) (slot_speech (tray_at_end s) slot (first_refused 1 (lines_after tray_did empty_tray 65536 (recs_of s))))

-- of any word
unfoldable pub word_speech : List ℕ → List ℕ → Speech
word_speech word s = pick (is_number word) (tray_image_speech (slot_of word) s) (error no_number_text)

-- what is said of the word and of standard input s, or where a read of it failed
abbrev pub tray_image_of : Bool → List ℕ → List ℕ → Speech
tray_image_of failed word s = pick failed (error (unread_text tray_image_name)) (word_speech word s)
