-- Numbers as bytes of text, in hexadecimal and in decimal, and bytes put at a place of a lent buffer.
use Rattle.std.specs.Prelude.{◌≡◌, Bool, true, List, [], ◌∷◌, ◌++◌, ℕ, zero, suc, ◌+◌, ◌-◌, ◌*◌, ◌/◌, ◌%◌, ◌≤◌, ltb, leb, length, get_or}
use Prim.Native.Char.{code}
use Rattle.numbers.specs.Choice.{pick, both, either}
use Rattle.slices.specs.Slices.{put}
use Rattle.digits.specs.declared.Letters.{Letters}
use Rattle.digits.specs.declared.Letters.TheVariants.{Lower, Upper}
use Rattle.digits.specs.declared.Twos.{Twos}
use Rattle.digits.specs.declared.Page.{Page}
use Rattle.std.specs.Borrow.{MutBor}

-- ---- hexadecimal

-- a hex digit; ten is shown as the given letter, and what is above it as those that follow
unfoldable pub hex_of : ℕ → ℕ → ℕ
hex_of letter d = pick (ltb d 10) (48 + d) (letter - 10 + d)

abbrev pub lower : ℕ
lower = code "a"

abbrev pub upper : ℕ
upper = code "A"

-- the letter that ten is shown as
abbrev pub letter_of : Letters → ℕ
letter_of Lower = lower
letter_of Upper = upper

-- a byte as two digits
abbrev pub pair_text : ℕ → ℕ → List ℕ
pair_text letter b = hex_of letter (b / 16) ∷ hex_of letter (b % 16) ∷ []

-- bytes, without spaces
abbrev pub hex_text : ℕ → List ℕ → List ℕ
hex_text letter [] = []
hex_text letter (b ∷ bs) = pair_text letter b ++ hex_text letter bs

-- n numbers from k on
abbrev pub count_from : ℕ → ℕ → List ℕ
count_from k zero = []
count_from k (suc n) = k ∷ count_from (suc k) n

-- a table of the two digits of each byte
unfoldable pub pairs_of : ℕ → List ℕ
pairs_of letter = hex_text letter (count_from 0 256)

-- what it has for the byte b
abbrev pub entry_text : List ℕ → ℕ → List ℕ
entry_text table b = get_or table (2 * b) 0 ∷ get_or table (2 * b + 1) 0 ∷ []

-- ---- hexadecimal, read

-- whether a byte is a digit, ten being shown as the given letter
unfoldable pub hex_digit : ℕ → ℕ → Bool
hex_digit letter c = either (both (leb 48 c) (ltb c 58)) (both (leb letter c) (ltb c (letter + 6)))

-- the number that it stands for; 0 where it is no digit
unfoldable pub hex_value : ℕ → ℕ → ℕ
hex_value letter c = pick (hex_digit letter c) (pick (ltb c 58) (c - 48) (c - letter + 10)) 0

-- the byte of two digits
abbrev pub pair_value : ℕ → ℕ → ℕ → ℕ
pair_value letter a b = 16 * hex_value letter a + hex_value letter b

-- the bytes of digits, without spaces; one that is left over stands for nothing
abbrev pub hex_bytes : ℕ → List ℕ → List ℕ
hex_bytes letter [] = []
hex_bytes letter (a ∷ []) = []
hex_bytes letter (a ∷ b ∷ cs) = pair_value letter a b ∷ hex_bytes letter cs

-- whether all are digits
abbrev pub hex_digits : ℕ → List ℕ → Bool
hex_digits letter [] = true
hex_digits letter (c ∷ cs) = both (hex_digit letter c) (hex_digits letter cs)

-- ---- decimal

-- the last digit of n
abbrev pub digit_of : ℕ → ℕ
digit_of n = 48 + n % 10

-- the last five digits of n, the zeros in front too
abbrev pub places_of : ℕ → List ℕ
places_of n = digit_of (n / 10000) ∷ digit_of (n / 1000) ∷ digit_of (n / 100) ∷ digit_of (n / 10) ∷ digit_of n ∷ []

-- the last two of them as one number, each a byte, the first the lower; and the last four by twos
abbrev pub packed_pair : ℕ → ℕ
packed_pair n = digit_of (n / 10) + 0x100 * digit_of n

abbrev pub packed_of : ℕ → Twos
packed_of n = record { high = packed_pair (n / 100); low = packed_pair n }

-- a digit of n that stands at a place, a power of ten; where n does not reach the place it is a leading zero, and left out
unfoldable pub shown_text : ℕ → ℕ → ℕ → List ℕ
shown_text place n digit = pick (ltb n place) [] (digit ∷ [])

abbrev pub place_text : ℕ → ℕ → List ℕ
place_text place n = shown_text place n (digit_of (n / place))

-- a number below 100,000
unfoldable pub short_text : ℕ → List ℕ
short_text n = place_text 10000 n ++ (place_text 1000 n ++ (place_text 100 n ++ (place_text 10 n ++ (digit_of n ∷ []))))

-- a number of at most five digits, and of so many times five more
abbrev pub fives_text : ℕ → ℕ → List ℕ
fives_text zero n = short_text n
fives_text (suc k) n = pick (ltb n 100000) (short_text n) (fives_text k (n / 100000) ++ places_of n)

-- a number of at most 20 digits, as any below 2^64 is
unfoldable pub decimal_text : ℕ → List ℕ
decimal_text n = fives_text 3 n

-- the most digits that it is said to have: five, or else all 20
unfoldable pub width_of : ℕ → ℕ
width_of n = pick (ltb n 100000) 5 20

-- ---- what the code promises

-- bytes were put at a place, and the next ones go behind them. That they are at most so many is said for the sums of callers
pub record Writing (most : ℕ) (bytes before : List ℕ) (at next : ℕ) (after : List ℕ) : Type 0 where
  pub onward : next ≡ at + length bytes
  pub written : after ≡ put before at bytes
  pub within : next ≤ at + most

-- a page is the lent room, and nothing of it is written
pub record Blank (room : MutBor (List ℕ)) (page : Page) : Type 0 where
  pub place : page.room.ref_ptr ≡ room.ref_ptr
  pub lent : page.room.ghost_name ≡ room.ghost_name
  pub same : page.room.now ≡ room.now
  pub front : page.used ≡ 0

-- the bytes were put behind what was written of a page, in the same room. That it keeps its length is said for the sums of callers
pub record Appends (most : ℕ) (bytes : List ℕ) (before after : Page) : Type 0 where
  pub place : after.room.ref_ptr ≡ before.room.ref_ptr
  pub lent : after.room.ghost_name ≡ before.room.ghost_name
  pub size : length after.room.now ≡ length before.room.now
  pub writing : Writing most bytes before.room.now before.used after.used after.room.now
