-- What follows of the definitions of a line, for its functions.
use Rattle.std.proofs.Common.{◌≡◌, ℕ, ◌+◌, ◌-◌, ◌*◌, ◌/◌, ◌%◌, ◌<◌, ◌≤◌, Bool, true, false, eqb, List, [], ◌∷◌, ◌++◌, length, get_or, take, drop, set}
use Rattle.std.proofs.Common.{replicate, sym, refl, ap, ◌∙◌, arith, length-drop, length-take, get_or-drop, get_or-take, take_at, ne_eqb}
use Rattle.std.proofs.Common.{eqb-true}
use lib.ListN.{get_or-eq_default}
use lib.Seq.{set_at}
use Rattle.numbers.specs.Choice.{both}
use Rattle.numbers.proofs.Bounds.{both_true}
use Rattle.slices.specs.Slices.{part, put}
use Rattle.slices.proofs.Laws.{put_next, put_front, part_length}
use Rattle.digits.specs.Digits.{upper, pair_value, hex_digits}
use Rattle.digits.proofs.Read.{bytes_length, byte_there}
use Rattle.intel_hex.specs.Line.{colon, line_feed, checksum_of, content_of, data_record, digits_in, bytes_in, length_in, data_in, formed_of}

-- ---- a record of data, laid over an array of 21

module _ (address : ℕ) (bytes : List ℕ) (small : address < 256) (sized : length bytes ≡ 16) where
  same_content : 16 ∷ 0 ∷ address ∷ 0 ∷ bytes ≡ content_of address 0 bytes
  same_content =
      let high : address / 256 ≡ 0 = omega arith in
      let low : address % 256 ≡ address = omega arith in
      rw (sized, high, low) refl

  content_laid : put (put (replicate 21 0) 0 (16 ∷ 0 ∷ address ∷ 0 ∷ [])) 4 bytes ≡ content_of address 0 bytes ++ (0 ∷ [])
  content_laid =
      let whole : List ℕ = 16 ∷ 0 ∷ address ∷ 0 ∷ bytes in
      let long : length whole ≡ 20 = omega arith in
      let zeros : List ℕ = replicate 21 0 in
      let fits : length whole ≤ length zeros = omega arith in
      put_next (replicate 21 0) 0 4 (16 ∷ 0 ∷ address ∷ 0 ∷ []) bytes refl
      ∙ put_front (replicate 21 0) whole fits
      ∙ ap (λ (n : ℕ). whole ++ drop n (replicate 21 0)) long
      ∙ ap (λ (l : List ℕ). l ++ (0 ∷ [])) same_content

  pub record_laid : (array : List ℕ) → array ≡ put (put (replicate 21 0) 0 (16 ∷ 0 ∷ address ∷ 0 ∷ [])) 4 bytes
      → set array 20 (checksum_of (take 20 array)) ≡ data_record address bytes
  record_laid array is =
      let long : length (content_of address 0 bytes) ≡ 20 = omega arith in
      let content : List ℕ = content_of address 0 bytes in
      ap (λ (l : List ℕ). set l 20 (checksum_of (take 20 l))) (is ∙ content_laid)
      ∙ ap (λ (l : List ℕ). set (content ++ (0 ∷ [])) 20 (checksum_of l)) (take_at content (0 ∷ []) 20 long)
      ∙ set_at content 0 [] (checksum_of content) 20 long

-- ---- the bytes of a line

module _ (l : List ℕ) where
  pub digits_length : length (digits_in l) ≡ length l - 2
  digits_length = length-take (length l - 2) (drop 1 l) ∙ omega (arith, length-drop 1 l)

  pub bytes_in_length : length (bytes_in l) ≡ (length l - 2) / 2
  bytes_in_length = bytes_length upper (digits_in l) ∙ ap (λ (n : ℕ). n / 2) digits_length

  digit_at : (k : ℕ) → k < length l - 2 → get_or (digits_in l) k 0 ≡ get_or l (k + 1) 0
  digit_at k h =
      let e : 1 + k ≡ k + 1 = omega arith in
      get_or-take (length l - 2) (drop 1 l) k 0 h ∙ get_or-drop 1 l k 0 ∙ ap (λ (n : ℕ). get_or l n 0) e

  pub byte_read : (k : ℕ) → 2 * k + 1 + 3 ≤ length l → pair_value upper (get_or l (2 * k + 1) 0) (get_or l (2 * k + 1 + 1) 0) ≡ get_or (bytes_in l) k 0
  byte_read k h =
      rw (← digit_at (2 * k) (omega arith), ← digit_at (2 * k + 1) (omega arith))
      (byte_there upper (digits_in l) k (omega (arith, digits_length)))

  pub byte_past : (k : ℕ) → length l < 2 * k + 1 + 3 → 0 ≡ get_or (bytes_in l) k 0
  byte_past k h = sym (get_or-eq_default (bytes_in l) 0 {n = k} (omega (arith, bytes_in_length)))

  pub data_length : 20 ≤ length (bytes_in l) → length (data_in l) ≡ 16
  data_length e = part_length 16 (bytes_in l) 4 (omega arith)

  -- and only there
  pub data_long : length (data_in l) ≡ 16 → 20 ≤ length (bytes_in l)
  data_long e = omega (arith, length-take 16 (drop 4 (bytes_in l)), length-drop 4 (bytes_in l))

  pub data_at_lem : (i : ℕ) → i < 16 → get_or (bytes_in l) (4 + i) 0 ≡ get_or (data_in l) i 0
  data_at_lem i h = sym (get_or-take 16 (drop 4 (bytes_in l)) i 0 h ∙ get_or-drop 4 (bytes_in l) i 0)

  -- ---- its form

  both_false : (s : Bool) → both s false ≡ false
  both_false true = refl
  both_false false = refl

  pub formed_short : length l < 12 → false ≡ formed_of l
  unfolding formed_of
  formed_short h =
      let few : eqb (length (digits_in l)) (2 * (length_in l + 5))
      ≡ false = ne_eqb (length (digits_in l)) (2 * (length_in l + 5)) (λ e. omega (arith, digits_length)) in
      rw (few, both_false (hex_digits upper (digits_in l)), both_false (both (eqb (get_or l 0 0) colon) (eqb (get_or l (length l - 1) 0) line_feed))) refl

  -- as the code asks it
  pub formed_asked : 2 ≤ length l
      → both (both (eqb (get_or l 0 0) colon) (eqb (get_or l (length l - 1) 0) line_feed))
      (both (hex_digits upper (part (length l - 1 - 1) l 1)) (eqb (length l - 2) (2 * (length_in l + 5))))
      ≡ formed_of l
  unfolding formed_of
  formed_asked h =
      let e : length l - 1 - 1 ≡ length l - 2 = omega arith in
      rw (e, digits_length) refl

  pub formed_long : formed_of l ≡ true → length l ≡ 2 * length_in l + 12
  unfolding formed_of
  formed_long e =
      let counted = eqb (length (digits_in l)) (2 * (length_in l + 5)) in
      let outer = both_true (both (eqb (get_or l 0 0) colon) (eqb (get_or l (length l - 1) 0) line_feed)) (both (hex_digits upper (digits_in l)) counted) e in
      let inner = both_true (hex_digits upper (digits_in l)) counted outer.1 in
      omega (arith, eqb-true (length (digits_in l)) (2 * (length_in l + 5)) inner.1, digits_length)
