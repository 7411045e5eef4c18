-- Laws of the records of a session.
use mathlib.Core.Path.{◌≡◌, refl, sym, ap, ◌∙◌}
use mathlib.Core.Bool.{Bool, true, false}
use mathlib.Core.List.{List, [], ◌∷◌, ◌++◌, append_assoc}
use Prim.Native.Nat.{ℕ, zero, suc, ◌+◌, ◌-◌, ◌*◌, ◌≤◌, ◌<◌, min}
use native.Mathlib.Nat.{not-suc-le-zero, div-add-mod'}
use native.Mathlib.Omega.{arith}
use borrow.Author.Tests.{ltb-false, leb-true, le-ltb, le-leb}
use lib.Dec.{ltb, leb}
use lib.ListN.{length, get_or, take, drop, length-append, length-drop, get_or-append}
use lib.Seq.{take-add, take_at, drop_at, length-take-le, get_or-take}
use Rattle.numbers.specs.Choice.{pick}
use Rattle.slices.specs.Slices.{part, put, pair_at}
use Rattle.slices.proofs.Laws.{put_next}
use Rattle.digits.specs.Digits.{Writing}
use Rattle.runs.specs.Record.{Rec, whole, cut, whole_of, rec_of, size_of, recs_from, recs_of, kind_in, record_of}

-- ---- a whole record has its header and its payload

whole_cases : (a b : Bool) → pick a false b ≡ true → (a ≡ false) × (b ≡ true)
whole_cases true b e = let z : ◌≡◌ {A = ℕ} 0 1 = cc in absurd (omega arith)
whole_cases false b e = (refl, e)

pub whole_head : (l : List ℕ) → whole_of l ≡ true → 4 ≤ length l
unfolding whole_of
whole_head l e = ltb-false (length l) 4 (whole_cases (ltb (length l) 4) (leb (4 + pair_at l 0) (length l)) e).0

pub whole_end : (l : List ℕ) → whole_of l ≡ true → 4 + pair_at l 0 ≤ length l
unfolding whole_of
whole_end l e = leb-true (4 + pair_at l 0) (length l) (whole_cases (ltb (length l) 4) (leb (4 + pair_at l 0) (length l)) e).1

-- its kind, its payload and its size: n is what the length says
module _ (l : List ℕ) (n kind : ℕ) (w : whole_of l ≡ true) (en : n ≡ pair_at l 0) (ek : kind ≡ pair_at l 2) where
  pub rec_whole : rec_of l ≡ whole kind (part (4 + n - 4) l 4)
  unfolding rec_of
  rec_whole =
      let e : 4 + n - 4 ≡ n = omega arith in
      rw (w, e, en, ek) refl

  pub size_whole : size_of l ≡ 4 + n
  unfolding size_of
  size_whole = rw (w, en) refl

pub rec_cut : (l : List ℕ) → whole_of l ≡ false → rec_of l ≡ cut
unfolding rec_of
rec_cut l w = rw w refl

pub size_cut : (l : List ℕ) → whole_of l ≡ false → size_of l ≡ length l
unfolding size_of
size_cut l w = rw w refl

-- ---- a record takes some bytes, no more than there are, and four or all

pub record Sizes (l : List ℕ) : Type 0 where
  pub some : 0 < size_of l
  pub fits : size_of l ≤ length l
  pub four : min 4 (length l) ≤ size_of l

sizes_cases : (l : List ℕ) → 0 < length l → (b : Bool) → whole_of l ≡ b → Sizes l
unfolding size_of
sizes_cases l h true w =
    let e : size_of l ≡ 4 + pair_at l 0 = rw w refl in
    record { some = omega arith; fits = omega (arith, whole_end l w); four = omega arith }
sizes_cases l h false w =
    let e : size_of l ≡ length l = rw w refl in
    record { some = omega arith; fits = omega arith; four = omega arith }

pub sizes : (l : List ℕ) → 0 < length l → Sizes l
sizes l h = sizes_cases l h (whole_of l) refl

-- ---- a kind is two bytes

-- a list of bytes
abbrev pub Bytes : List ℕ → Type 0
Bytes s = (i : ℕ) → get_or s i 0 < 256

pub rec_narrow : (l : List ℕ) → Bytes l → kind_in (rec_of l) < 65536
unfolding rec_of
rec_narrow l h = by (whole_of l) refl
  where
    by : (b : Bool) → whole_of l ≡ b → kind_in (rec_of l) < 65536
    by true e = rw e (omega (arith, h 2, h 3))
    by false e = rw e (omega arith)

-- ---- one record after the other

recs_skip : (k : ℕ) (l : List ℕ) → recs_from k l ≡ recs_from 0 (drop k l)
recs_skip zero [] = refl
recs_skip zero (x ∷ xs) = refl
recs_skip (suc k) [] = refl
recs_skip (suc k) (x ∷ xs) = recs_skip k xs

pub recs_cons : (l : List ℕ) → 0 < length l → recs_of l ≡ rec_of l ∷ recs_of (drop (size_of l) l)
recs_cons [] h = absurd (not-suc-le-zero h)
recs_cons (x ∷ xs) h =
    let n = size_of (x ∷ xs) in
    let e : n ≡ suc (n - 1) = omega (arith, (sizes (x ∷ xs) h).some) in
    ap (λ (r : List Rec). rec_of (x ∷ xs) ∷ r) (recs_skip (n - 1) xs ∙ ap (λ (k : ℕ). recs_from 0 (drop k (x ∷ xs))) (sym e))

pub recs_few : (k : ℕ) (l : List ℕ) → 4 * length (recs_from k l) ≤ length l - k + 3
recs_few k [] = omega arith
recs_few zero (x ∷ xs) =
    let size = sizes (x ∷ xs) (omega arith) in
    omega (arith, recs_few (size_of (x ∷ xs) - 1) xs, size.four, size.fits)
recs_few (suc k) (x ∷ xs) = omega (arith, recs_few k xs)

-- ---- a whole record, and any bytes after it

module _ (s t : List ℕ) (w : whole_of s ≡ true) where
  abbrev n : ℕ
  n = pair_at s 0

  abbrev bytes : List ℕ
  bytes = take (4 + n) s ++ t

  long : length (take (4 + n) s) ≡ 4 + n
  long = length-take-le (4 + n) s (whole_end s w)

  same_byte : (i : ℕ) → i < 4 → get_or bytes i 0 ≡ get_or s i 0
  same_byte i h =
      get_or-append (take (4 + n) s) t 0 i (omega (arith, long))
      ∙ get_or-take (4 + n) s i 0 (omega arith)

  same_size : pair_at bytes 0 ≡ n
  same_size = omega (arith, same_byte 0 (omega arith), same_byte 1 (omega arith))

  same_kind : pair_at bytes 2 ≡ pair_at s 2
  same_kind = omega (arith, same_byte 2 (omega arith), same_byte 3 (omega arith))

  still_whole : whole_of bytes ≡ true
  unfolding whole_of
  still_whole =
      let e = length-append (take (4 + n) s) t in
      rw (le-ltb (length bytes) 4 (omega (arith, long)), le-leb (4 + pair_at bytes 0) (length bytes) (omega (arith, long, same_size))) refl

  same_payload : part n bytes 4 ≡ part n s 4
  same_payload =
      let four : length (take 4 s) ≡ 4 = length-take-le 4 s (omega (arith, whole_end s w)) in
      let long' : length (part n s 4) ≡ n = length-take-le n (drop 4 s) (omega (arith, whole_end s w, length-drop 4 s)) in
      rw (take-add 4 n s, append_assoc, drop_at (take 4 s) (part n s 4 ++ t) 4 four) (take_at (part n s 4) t n long')

  pub recs_whole : recs_of (take (size_of s) s ++ t) ≡ rec_of s ∷ recs_of t
  unfolding rec_of size_of
  recs_whole =
      let size : size_of s ≡ 4 + n = rw w refl in
      let size' : size_of bytes ≡ 4 + n = rw (still_whole, same_size) refl in
      let head : rec_of bytes ≡ rec_of s = rw (still_whole, w, same_size, same_kind, same_payload) refl in
      let rest : drop (size_of bytes) bytes ≡ t = ap (λ (k : ℕ). drop k bytes) size' ∙ drop_at (take (4 + n) s) t (4 + n) long in
      ap (λ (k : ℕ). recs_of (take k s ++ t)) size
      ∙ recs_cons bytes (omega (arith, length-append (take (4 + n) s) t, long))
      ∙ ap (λ (r : Rec). r ∷ recs_of (drop (size_of bytes) bytes)) head
      ∙ ap (λ (l : List ℕ). rec_of s ∷ recs_of l) rest

-- ---- a record that is written is read again, and then the records after it

module _ (kind : ℕ) (p t : List ℕ) where
  abbrev written : List ℕ
  written = record_of kind p ++ t

  size_read : pair_at written 0 ≡ length p
  size_read = omega (arith, div-add-mod' (length p) 256)

  kind_read : pair_at written 2 ≡ kind
  kind_read = omega (arith, div-add-mod' kind 256)

  written_whole : whole_of written ≡ true
  unfolding whole_of
  written_whole =
      let e = length-append p t in
      rw (le-ltb (length written) 4 (omega arith), le-leb (4 + pair_at written 0) (length written) (omega (arith, size_read))) refl

  pub recs_record : recs_of (record_of kind p ++ t) ≡ whole kind p ∷ recs_of t
  recs_record =
      let size : size_of written ≡ 4 + length p = size_whole written (length p) kind written_whole (sym size_read) (sym kind_read) in
      let n : 4 + length p - 4 ≡ length p = omega arith in
      let head : rec_of written ≡ whole kind p =
      rec_whole written (length p) kind written_whole (sym size_read) (sym kind_read)
      ∙ ap (whole kind) (ap (λ (k : ℕ). take k (p ++ t)) n ∙ take_at p t (length p) refl) in
      let rest : drop (size_of written) written ≡ t = ap (λ (k : ℕ). drop k written) size ∙ drop_at (record_of kind p) t (4 + length p) (omega arith) in
      recs_cons written (omega arith) ∙ ap (λ (r : Rec). r ∷ recs_of (drop (size_of written) written)) head
      ∙ ap (λ (l : List ℕ). whole kind p ∷ recs_of l) rest

-- what is put behind a record that was written stands behind it
pub record_then : {most : ℕ} (kind : ℕ) (p : List ℕ) {before : List ℕ} {at next : ℕ} {after : List ℕ} → Writing most (record_of kind p) before at next after
    → (rest : List ℕ) → put after next rest ≡ put before at (record_of kind p ++ rest)
record_then kind p {before} {at} {next} h rest =
    ap (λ (l : List ℕ). put l next rest) h.written ∙ put_next before at next (record_of kind p) rest h.onward
