-- What the program says: a line for each message on standard input.
use Rattle.std.specs.Prelude.{◌≡◌, Bool, List, [], ◌∷◌, ◌++◌, ℕ, zero, suc, ◌+◌, ◌-◌, ◌≤◌, ◌<◌, ltb, leb, length, get_or, take, drop}
use Rattle.numbers.specs.Choice.{pick, both}
use Rattle.crc.specs.Crc.{crc_of}
use Rattle.digits.specs.Ascii.{ascii}
use Rattle.digits.specs.Digits.{lower, pair_text}
use Rattle.streams.specs.Streams.{Speech, output, error, unread_text}

abbrev pub checksum_name : List ℕ
checksum_name = ascii "checksum"

-- the line of a CRC: two hex digits and a line feed
abbrev pub crc_line : ℕ → List ℕ
crc_line c = pair_text lower c ++ ascii "\n"

-- the line of a message that is not there whole, after which nothing is read, and of a longer input
abbrev pub cut_text : List ℕ
cut_text = ascii "--\n"

-- a message of n bytes is there: n is at most 64, and as many bytes are left
abbrev pub there_of : ℕ → ℕ → Bool
there_of n left = both (leb n 64) (leb n left)

-- the lines, where the first k bytes of the list still belong to the message before
abbrev pub sums_from : ℕ → List ℕ → List ℕ
sums_from k [] = []
sums_from (suc k) (x ∷ s) = sums_from k s
sums_from zero (n ∷ s) = pick (there_of n (length s)) (crc_line (crc_of (take n s)) ++ sums_from n s) cut_text

abbrev pub sums_text : List ℕ → List ℕ
sums_text s = sums_from 0 s

-- the text of at most 65,536 bytes
unfoldable pub checked_text : List ℕ → List ℕ
checked_text s = pick (ltb 65536 (length s)) cut_text (sums_text s)

-- what is said of standard input s, or where a read of it failed
abbrev pub summed_of : Bool → List ℕ → Speech
summed_of failed s = pick failed (error (unread_text checksum_name)) (output (checked_text s))

-- ---- what the code promises of one message

-- how many bytes the message at the front takes: all where it is not there whole
abbrev pub message_size : List ℕ → ℕ
message_size s = pick (there_of (get_or s 0 0) (length s - 1)) (1 + get_or s 0 0) (length s)

-- the lines of all are this line, and then the lines of what is behind its message. The last two fields follow, and are said for the loop
pub record Summed (s line : List ℕ) (size : ℕ) : Type 0 where
  pub goes : size ≡ message_size s
  pub lines : sums_text s ≡ line ++ sums_text (drop size s)
  pub three : length line ≡ 3
  pub onward : 0 < size
  pub within : size ≤ length s
