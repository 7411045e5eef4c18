-- Intel HEX, a line of it: "a colon, the upper-case digit pairs its count asks and a line feed". The pairs are the count, the address, high byte
-- first, the type, the data, as many bytes as the count says, and the checksum.
use Rattle.std.specs.Prelude.{⊤, Result, Ok, Err, ℕ, ◌+◌, ◌-◌, ◌*◌, ◌/◌, ◌%◌, Bool, List, [], ◌∷◌, ◌++◌, length, ◌==◌, slice_index}
use Prim.Native.Char.{code}
use Rattle.numbers.specs.Choice.{pick, both, either}
use Rattle.numbers.specs.Offset.{joined_of}
use Rattle.slices.specs.Slices.{part}
use Rattle.digits.specs.Digits.{upper, hex_text, hex_bytes, hex_digits}
use Rattle.intel_hex.specs.declared.Fault.{Fault}
use Rattle.intel_hex.specs.declared.Fault.TheVariants.{Form, Checksum, Record}

abbrev pub colon : ℕ
colon = code ":"

abbrev pub line_feed : ℕ
line_feed = code "\n"

-- ---- written

-- the line of some bytes
abbrev pub hex_line_text : List ℕ → List ℕ
hex_line_text bytes = colon ∷ (hex_text upper bytes ++ (line_feed ∷ []))

abbrev pub byte_sum : List ℕ → ℕ
byte_sum [] = 0
byte_sum (b ∷ bs) = b + byte_sum bs

-- the byte with which the others sum to 0 modulo 256
abbrev pub checksum_of : List ℕ → ℕ
checksum_of bytes = (256 - byte_sum bytes % 256) % 256

-- all but the checksum: count, address, type, data
abbrev pub content_of : ℕ → ℕ → List ℕ → List ℕ
content_of address kind bytes = length bytes ∷ address / 256 ∷ address % 256 ∷ kind ∷ bytes

abbrev pub hex_record : ℕ → ℕ → List ℕ → List ℕ
hex_record address kind bytes = content_of address kind bytes ++ (checksum_of (content_of address kind bytes) ∷ [])

-- a record of data has type 00
abbrev pub data_record : ℕ → List ℕ → List ℕ
data_record address bytes = hex_record address 0 bytes

-- the end record has type 01, the address 0000h and no data
abbrev pub end_record : List ℕ
end_record = hex_record 0 1 []

-- ---- read

-- what stands between the first byte and the last
abbrev pub digits_in : List ℕ → List ℕ
digits_in l = part (length l - 2) l 1

abbrev pub bytes_in : List ℕ → List ℕ
bytes_in l = hex_bytes upper (digits_in l)

abbrev pub length_in : List ℕ → ℕ
length_in l = slice_index (bytes_in l) 0

abbrev pub address_in : List ℕ → ℕ
address_in l = joined_of (slice_index (bytes_in l) 1) (slice_index (bytes_in l) 2)

abbrev pub type_in : List ℕ → ℕ
type_in l = slice_index (bytes_in l) 3

abbrev pub data_in : List ℕ → List ℕ
data_in l = part 16 (bytes_in l) 4

-- 40: "a line that isn't a colon, the upper-case digit pairs its count asks and a line feed". Beside the data there are five
unfoldable pub formed_of : List ℕ → Bool
formed_of l =
    both (both (slice_index l 0 == colon) (slice_index l (length l - 1) == line_feed))
    (both (hex_digits upper (digits_in l)) (length (digits_in l) == 2 * (length_in l + 5)))

-- 41: "checksum": all bytes of the line sum to 0 modulo 256
unfoldable pub sums_to_zero : List ℕ → Bool
sums_to_zero l = byte_sum (bytes_in l) % 256 == 0

-- 42: "any record but the end record and 16 bytes at 0020h, 0060h or 0070h"
abbrev pub placed_of : ℕ → Bool
placed_of address = either (address == 0x20) (either (address == 0x60) (address == 0x70))

abbrev pub headed_of : ℕ → ℕ → List ℕ → Bool
headed_of count kind l = both (length_in l == count) (type_in l == kind)

unfoldable pub expected_of : List ℕ → Bool
expected_of l = either (both (headed_of 0 1 l) (address_in l == 0)) (both (headed_of 16 0 l) (placed_of (address_in l)))

-- a line, judged by itself
abbrev pub CheckedLine : Type 0
CheckedLine = Result ⊤ Fault

abbrev pub good : CheckedLine
good = Ok tt

-- "40 to 42 in that order"
unfoldable pub checked_line_of : List ℕ → CheckedLine
checked_line_of l =
    pick (formed_of l)
    (pick (sums_to_zero l)
    (pick (expected_of l) good (Err Record))
    (Err Checksum))
    (Err Form)

abbrev pub fault_number : Fault → ℕ
fault_number Form = 40
fault_number Checksum = 41
fault_number Record = 42
