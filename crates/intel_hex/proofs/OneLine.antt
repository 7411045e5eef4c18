-- The lines that are written are read back, and a line that passes 40 is one that could have been written.
use Rattle.std.proofs.Common.{◌≡◌, ℕ, zero, suc, ◌+◌, ◌-◌, ◌*◌, ◌/◌, ◌%◌, ◌<◌, Bool, true, false, eqb, ◌⊎◌, List, [], ◌∷◌, ◌++◌, length, get_or, take, drop}
use Rattle.std.proofs.Common.{sym, refl, ap, ◌∙◌, inl, inr, ⊎_elim, arith, length-append, take-append-drop, drop_of_length-le, length-take-le, drop-cons}
use Rattle.std.proofs.Common.{take_at, eq-eqb, eqb-true}
use lib.Seq.{get_or_at}
use Rattle.numbers.specs.Choice.{both}
use Rattle.numbers.proofs.Bounds.{both_true}
use Rattle.slices.specs.Slices.{part}
use Rattle.digits.specs.Digits.{hex_of, upper, hex_text, hex_digit, hex_value, hex_bytes, hex_digits}
use Rattle.digits.proofs.Read.{either_true, Bytes, hex_length, bytes_back, digits_written, digits_back, bytes_small}
use Rattle.intel_hex.specs.Line.{colon, line_feed, hex_line_text, byte_sum, checksum_of, content_of, hex_record, data_record, end_record, digits_in, bytes_in}
use Rattle.intel_hex.specs.Line.{length_in, address_in, type_in, data_in, formed_of, sums_to_zero, placed_of, headed_of, expected_of, checked_line_of, good}
use Rattle.intel_hex.proofs.Laws.{digits_length, bytes_in_length, formed_long}

-- ---- of any bytes

module _ (bytes : List ℕ) where
  pub line_length : length (hex_line_text bytes) ≡ 2 * length bytes + 2
  line_length = omega (arith, length-append (hex_text upper bytes) (line_feed ∷ []), hex_length upper bytes)

  digits_in_lem : digits_in (hex_line_text bytes) ≡ hex_text upper bytes
  digits_in_lem = take_at (hex_text upper bytes) (line_feed ∷ []) (length (hex_line_text bytes) - 2) (omega (arith, line_length, hex_length upper bytes))

  last_in : get_or (hex_line_text bytes) (length (hex_line_text bytes) - 1) 0 ≡ line_feed
  last_in =
      get_or_at (colon ∷ hex_text upper bytes) line_feed [] 0 (length (hex_line_text bytes) - 1)
      (omega (arith, line_length, hex_length upper bytes))

  module _ (small : Bytes bytes) where
    pub bytes_in_lem : bytes_in (hex_line_text bytes) ≡ bytes
    bytes_in_lem = ap (hex_bytes upper) digits_in_lem ∙ bytes_back upper (omega arith) bytes small

    pub formed_line : length bytes ≡ get_or bytes 0 0 + 5 → formed_of (hex_line_text bytes) ≡ true
    unfolding formed_of
    formed_line counted =
        let all : length (hex_text upper bytes) ≡ 2 * (get_or bytes 0 0 + 5) = omega (arith, hex_length upper bytes) in
        rw (
          last_in,
          digits_in_lem,
          bytes_back upper (omega arith) bytes small,
          digits_written upper (omega arith) bytes small,
          eq-eqb (length (hex_text upper bytes)) (2 * (get_or bytes 0 0 + 5)) all,
        ) refl

-- ---- a line that passes 40 is the line of its bytes

module _ (l : List ℕ) (formed : formed_of l ≡ true) where
  tests : (eqb (get_or l 0 0) colon ≡ true) × (eqb (get_or l (length l - 1) 0) line_feed ≡ true) × (hex_digits upper (digits_in l) ≡ true)
  unfolding formed_of
  tests =
      let counted = eqb (length (digits_in l)) (2 * (length_in l + 5)) in
      let first = eqb (get_or l 0 0) colon in
      let last = eqb (get_or l (length l - 1) 0) line_feed in
      let outer = both_true (both first last) (both (hex_digits upper (digits_in l)) counted) formed in
      let ends = both_true first last outer.0 in
      (ends.0, ends.1, (both_true (hex_digits upper (digits_in l)) counted outer.1).0)

  long : length l ≡ 2 * length_in l + 12
  long = formed_long l formed

  pub formed_count : length (bytes_in l) ≡ length_in l + 5
  formed_count = bytes_in_length l ∙ omega (arith, long)

  -- colon, digits and line feed are all of it
  cut : (m : List ℕ) → length m ≡ length l → get_or m 0 0 ≡ colon → get_or m (length l - 1) 0 ≡ line_feed →
      colon ∷ (part (length l - 2) m 1 ++ (line_feed ∷ [])) ≡ m
  cut [] same first last = absurd (omega (arith, long))
  cut (c ∷ rest) same first last =
      let n = length l - 2 in
      let at : length l - 1 ≡ suc n = omega (arith, long) in
      let there : n < length rest = omega (arith, long) in
      let none : drop (suc n) rest ≡ [] = drop_of_length-le rest {i = suc n} (omega (arith, long)) in
      let feed : get_or rest n 0 ≡ line_feed = rw at at last in
      let end : drop n rest ≡ line_feed ∷ [] = drop-cons rest n 0 there ∙ rw (feed, none) refl in
      ap (λ (xs : List ℕ). colon ∷ (take n rest ++ xs)) (sym end)
      ∙ ap (λ (xs : List ℕ). colon ∷ xs) (take-append-drop n rest)
      ∙ ap (λ (x : ℕ). x ∷ rest) (sym first)

  pub formed_is : hex_line_text (bytes_in l) ≡ l
  formed_is =
      let even : length (digits_in l) ≡ 2 * (length_in l + 5) = digits_length l ∙ omega (arith, long) in
      ap (λ (xs : List ℕ). colon ∷ (xs ++ (line_feed ∷ []))) (digits_back upper (omega arith) (digits_in l) (length_in l + 5) tests.2 even)
      ∙ cut l refl (eqb-true (get_or l 0 0) colon tests.0) (eqb-true (get_or l (length l - 1) 0) line_feed tests.1)

-- ---- records

pub sum_append : (xs ys : List ℕ) → byte_sum (xs ++ ys) ≡ byte_sum xs + byte_sum ys
sum_append [] ys = omega arith
sum_append (x ∷ xs) ys = omega (arith, sum_append xs ys)

bytes_append : (xs ys : List ℕ) → Bytes xs → Bytes ys → Bytes (xs ++ ys)
bytes_append [] ys p q i = q i
bytes_append (x ∷ xs) ys p q zero = p 0
bytes_append (x ∷ xs) ys p q (suc i) = bytes_append xs ys (λ j. p (suc j)) q i

one_byte : (b : ℕ) → b < 256 → Bytes (b ∷ [])
one_byte b h zero = h
one_byte b h (suc i) = omega arith

-- what completes a sum to 0 is the checksum
completes : (x e : ℕ) → e < 256 → (x + e) % 256 ≡ 0 → (256 - x % 256) % 256 ≡ e
completes x e small zeroed = omega arith

-- bytes that sum to 0 and are as many as the first of them says are a record
record_whole : (s : List ℕ) → Bytes s → length s ≡ get_or s 0 0 + 5 → byte_sum s % 256 ≡ 0
    → hex_record (get_or s 1 0 * 256 + get_or s 2 0) (get_or s 3 0) (part (get_or s 0 0) s 4) ≡ s
record_whole [] small counted summed = absurd (omega arith)
record_whole (a ∷ []) small counted summed = absurd (omega arith)
record_whole (a ∷ b ∷ []) small counted summed = absurd (omega arith)
record_whole (a ∷ b ∷ c ∷ []) small counted summed = absurd (omega arith)
record_whole (a ∷ b ∷ c ∷ d ∷ rest) small counted summed =
    let there : a < length rest = omega arith in
    let some : length (take a rest) ≡ a = length-take-le a rest (omega arith) in
    let high : (b * 256 + c) / 256 ≡ b = omega (arith, small 2) in
    let low : (b * 256 + c) % 256 ≡ c = omega (arith, small 2) in
    let none : drop (suc a) rest ≡ [] = drop_of_length-le rest {i = suc a} (omega arith) in
    let end : drop a rest ≡ get_or rest a 0 ∷ [] = drop-cons rest a 0 there ∙ rw none refl in
    let split : take a rest ++ (get_or rest a 0 ∷ []) ≡ rest = ap (λ (xs : List ℕ). take a rest ++ xs) (sym end) ∙ take-append-drop a rest in
    let total : byte_sum (take a rest) + (get_or rest a 0 + 0) ≡ byte_sum rest = sym (sum_append (take a rest) (get_or rest a 0 ∷ [])) ∙ ap byte_sum split in
    let before = byte_sum (a ∷ b ∷ c ∷ d ∷ take a rest) in
    let all : before + get_or rest a 0 ≡ byte_sum (a ∷ b ∷ c ∷ d ∷ rest) = omega (arith, total) in
    let sum : checksum_of (a ∷ b ∷ c ∷ d ∷ take a rest) ≡ get_or rest a 0
    = completes before (get_or rest a 0) (small (suc (suc (suc (suc a))))) (ap (λ (x : ℕ). x % 256) all ∙ summed) in
    rw (some, high, low, sum) (ap (λ (xs : List ℕ). a ∷ b ∷ c ∷ d ∷ xs) split)

-- a line that passes 40 and 41 is the line of the record that it says it is
pub record_is : (l : List ℕ) → formed_of l ≡ true → sums_to_zero l ≡ true →
    hex_line_text (hex_record (address_in l) (type_in l) (part (length_in l) (bytes_in l) 4)) ≡ l
unfolding sums_to_zero
record_is l formed summed =
    ap hex_line_text (record_whole (bytes_in l) (bytes_small upper (omega arith) (digits_in l)) (formed_count l formed)
    (eqb-true (byte_sum (bytes_in l) % 256) 0 summed))
    ∙ formed_is l formed

module _ (address kind : ℕ) (bytes : List ℕ) (near : address < 65536) (known : kind < 256) (few : length bytes < 256) (small : Bytes bytes) where
  content_bytes : Bytes (content_of address kind bytes)
  content_bytes zero = few
  content_bytes (suc zero) = omega arith
  content_bytes (suc (suc zero)) = omega arith
  content_bytes (suc (suc (suc zero))) = known
  content_bytes (suc (suc (suc (suc i)))) = small i

  sum_small : checksum_of (content_of address kind bytes) < 256
  sum_small = omega arith

  record_bytes : Bytes (hex_record address kind bytes)
  record_bytes =
      bytes_append (content_of address kind bytes) (checksum_of (content_of address kind bytes) ∷ []) content_bytes
      (one_byte (checksum_of (content_of address kind bytes)) sum_small)

  pub record_in_lem : bytes_in (hex_line_text (hex_record address kind bytes)) ≡ hex_record address kind bytes
  record_in_lem = bytes_in_lem (hex_record address kind bytes) record_bytes

  pub record_address : address_in (hex_line_text (hex_record address kind bytes)) ≡ address
  record_address = rw record_in_lem (omega arith)

  pub record_formed : formed_of (hex_line_text (hex_record address kind bytes)) ≡ true
  record_formed =
      formed_line (hex_record address kind bytes) record_bytes (omega (arith, length-append bytes (checksum_of (content_of address kind bytes) ∷ [])))

  pub record_summed : sums_to_zero (hex_line_text (hex_record address kind bytes)) ≡ true
  unfolding sums_to_zero
  record_summed =
      let content = content_of address kind bytes in
      let zeroed : byte_sum (hex_record address kind bytes) % 256 ≡ 0 = omega (arith, sum_append content (checksum_of content ∷ [])) in
      rw record_in_lem (eq-eqb (byte_sum (hex_record address kind bytes) % 256) 0 zeroed)

-- 16 bytes at one of the three addresses, and the end record, are good lines; and these are read back
module _ (address : ℕ) (bytes : List ℕ) (near : address < 65536) (sized : length bytes ≡ 16) (small : Bytes bytes) where
  few : length bytes < 256
  few = omega arith

  pub data_address : address_in (hex_line_text (data_record address bytes)) ≡ address
  data_address = record_address address 0 bytes near (omega arith) few small

  pub data_in_lem : data_in (hex_line_text (data_record address bytes)) ≡ bytes
  data_in_lem = rw (record_in_lem address 0 bytes near (omega arith) few small) (take_at bytes (checksum_of (content_of address 0 bytes) ∷ []) 16 sized)

  pub data_good : placed_of address ≡ true → checked_line_of (hex_line_text (data_record address bytes)) ≡ good
  unfolding checked_line_of expected_of
  data_good placed =
      let count : length_in (hex_line_text (data_record address bytes)) ≡ 16 = rw (record_in_lem address 0 bytes near (omega arith) few small) sized in
      let type : type_in (hex_line_text (data_record address bytes)) ≡ 0 = rw (record_in_lem address 0 bytes near (omega arith) few small) refl in
      rw (
        record_formed address 0 bytes near (omega arith) few small,
        record_summed address 0 bytes near (omega arith) few small,
        count,
        type,
        data_address,
        placed,
      ) refl

pub end_good : checked_line_of (hex_line_text end_record) ≡ good
unfolding checked_line_of expected_of formed_of sums_to_zero hex_of hex_digit hex_value
end_good = refl

pub end_address : address_in (hex_line_text end_record) ≡ 0
unfolding hex_of hex_digit hex_value
end_address = refl

-- ---- a good line is one of these

module _ (l : List ℕ) (is : checked_line_of l ≡ good) where
  pub passed : (formed_of l ≡ true) × (sums_to_zero l ≡ true) × (expected_of l ≡ true)
  unfolding checked_line_of
  passed = by (formed_of l) refl (sums_to_zero l) refl (expected_of l) refl
    where
      by : (f : Bool) → formed_of l ≡ f → (s : Bool) → sums_to_zero l ≡ s → (k : Bool) → expected_of l ≡ k →
          (formed_of l ≡ true) × (sums_to_zero l ≡ true) × (expected_of l ≡ true)
      by true e true f true g = (e, f, g)
      by true e true f false g = let z : ◌≡◌ {A = ℕ} 0 1 = cc (rw (e, f, g) at is) in absurd (omega arith)
      by true e false f k g = let z : ◌≡◌ {A = ℕ} 0 1 = cc (rw (e, f) at is) in absurd (omega arith)
      by false e s f k g = let z : ◌≡◌ {A = ℕ} 0 1 = cc (rw e at is) in absurd (omega arith)

  kinds : ((headed_of 0 1 l ≡ true) × (address_in l ≡ 0)) ⊎ ((headed_of 16 0 l ≡ true) × (placed_of (address_in l) ≡ true))
  unfolding expected_of
  kinds =
      let end = both (headed_of 0 1 l) (eqb (address_in l) 0) in
      ⊎_elim
      (λ e. let t = both_true (headed_of 0 1 l) (eqb (address_in l) 0) e in inl (t.0, eqb-true (address_in l) 0 t.1))
      (λ e. inr (both_true (headed_of 16 0 l) (placed_of (address_in l)) e))
      (either_true end (both (headed_of 16 0 l) (placed_of (address_in l))) passed.2)

  headed_as : (count kind : ℕ) → headed_of count kind l ≡ true → (length_in l ≡ count) × (type_in l ≡ kind)
  headed_as count kind e =
      let t = both_true (eqb (length_in l) count) (eqb (type_in l) kind) e in
      (eqb-true (length_in l) count t.0, eqb-true (type_in l) kind t.1)

  written_so : (count kind : ℕ) → headed_of count kind l ≡ true → hex_line_text (hex_record (address_in l) kind (part count (bytes_in l) 4)) ≡ l
  written_so count kind e =
      let h = headed_as count kind e in
      let same = record_is l passed.0 passed.1 in
      rw (h.0, h.1) at same

  pub good_is : (l ≡ hex_line_text end_record) ⊎ ((placed_of (address_in l) ≡ true) × (l ≡ hex_line_text (data_record (address_in l) (data_in l))))
  good_is =
      ⊎_elim
      (λ e. inl (sym (written_so 0 1 e.0) ∙ ap (λ (a : ℕ). hex_line_text (hex_record a 1 [])) e.1))
      (λ d. inr (d.1, sym (written_so 16 0 d.0)))
      kinds

  -- one that is not at 0000h has 16 bytes of data
  pub good_long : (address_in l ≡ 0 → ⊥) → length (bytes_in l) ≡ 21
  good_long other =
      ⊎_elim (λ e. absurd (other e.1)) (λ d. formed_count l passed.0 ∙ ap (λ (n : ℕ). n + 5) (headed_as 16 0 d.0).0) kinds
