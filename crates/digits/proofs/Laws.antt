-- How pieces of text are joined, and what follows of the digits' definitions.
use mathlib.Core.Path.{◌≡◌, refl, sym, ap, ◌∙◌}
use mathlib.Core.Bool.{Bool, true, false}
use mathlib.Core.List.{List, [], ◌∷◌, ◌++◌}
use Prim.Native.Nat.{ℕ, zero, suc, ◌+◌, ◌-◌, ◌*◌, ◌/◌, ◌%◌, ◌≤◌, ◌<◌}
use native.Mathlib.Nat.{add-zero}
use native.Mathlib.Numerals.{add-one}
use native.Mathlib.Omega.{arith}
use borrow.Author.Tests.{lt-ltb, le-ltb}
use lib.Dec.{ltb}
use lib.ListN.{length, get_or, take, drop, length-append, length-drop, take-append-drop}
use lib.Seq.{take-suc, take_all, length-take-le}
use Rattle.numbers.specs.Choice.{pick}
use Rattle.numbers.proofs.Bounds.{picked}
use Rattle.slices.specs.Slices.{put, part}
use Rattle.slices.proofs.Laws.{put_length, put_next, part_rest}
use Rattle.digits.specs.declared.Twos.{Twos}
use Rattle.digits.specs.Digits.{lower, pair_text, hex_text, digit_of, packed_pair, packed_of, places_of, shown_text, place_text}
use Rattle.digits.specs.Digits.{short_text, fives_text, decimal_text, width_of, Writing, Blank, Appends}
use Rattle.digits.specs.declared.Page.{Page}
use Rattle.std.specs.Borrow.{MutBor}

-- ---- writing

-- the buffer keeps its length
pub kept : {m i j : ℕ} {xs l l' : List ℕ} → Writing m xs l i j l' → length l' ≡ length l
kept {m} {i} {j} {xs} {l} {l'} w = ap length w.written ∙ put_length l i xs

-- nothing
pub unwritten : (m : ℕ) (l : List ℕ) (i : ℕ) → Writing m [] l i i l
unwritten m l i = record { onward = sym (add-zero i); written = refl; within = omega arith }

-- a larger bound
pub wider_writing : {m n i j : ℕ} {xs l l' : List ℕ} → Writing m xs l i j l' → m ≤ n → Writing n xs l i j l'
wider_writing w h = record { onward = w.onward; written = w.written; within = omega (arith, w.within) }

-- ---- pages

-- nothing
pub none : (p : Page) → Appends 0 [] p p
none p = record { place = refl; lent = refl; size = refl; writing = unwritten 0 p.room.now p.used }

-- a piece, and one behind it
pub then : {m n : ℕ} {xs ys : List ℕ} {p q r : Page} → Appends m xs p q → Appends n ys q r → Appends (m + n) (xs ++ ys) p r
then {m} {n} {xs} {ys} {p} {q} {r} a b = let w = a.writing in
    let v = b.writing in
    record {
      place = b.place ∙ a.place;
      lent = b.lent ∙ a.lent;
      size = b.size ∙ a.size;
      writing =
          record {
            onward = omega (arith, length-append xs ys, w.onward, v.onward);
            written = v.written ∙ ap (λ (l : List ℕ). put l q.used ys) w.written ∙ put_next p.room.now p.used q.used xs ys w.onward;
            within = omega (arith, w.within, v.within);
          };
    }

-- a larger bound
pub wider : {m n : ℕ} {xs : List ℕ} {p q : Page} → Appends m xs p q → m ≤ n → Appends n xs p q
wider a h = record { place = a.place; lent = a.lent; size = a.size; writing = wider_writing a.writing h }

-- a bound that the bytes themselves give, where they are fewer than was said
pub narrow : {m n : ℕ} {xs : List ℕ} {p q : Page} → Appends m xs p q → length xs ≤ n → Appends n xs p q
narrow {xs = xs} a h =
    let w = a.writing in
    record {
      place = a.place;
      lent = a.lent;
      size = a.size;
      writing = record { onward = w.onward; written = w.written; within = omega (arith, w.onward) };
    }

-- the bytes of a list one by one: the next one, and all
next_taken : (s : List ℕ) (i : ℕ) → i < length s → take (i + 1) s ≡ take i s ++ get_or s i 0 ∷ []
next_taken s i h = rw (add-one, take-suc s i 0) refl

pub one_more : (s : List ℕ) (i : ℕ) {p q r : Page} → i < length s → Appends i (take i s) p q → Appends 1 (get_or s i 0 ∷ []) q r
    → Appends (i + 1) (take (i + 1) s) p r
one_more s i h a b = rw (next_taken s i h) (then a b)

pub all_of : (s : List ℕ) (i : ℕ) {m : ℕ} {p q : Page} → length s ≤ i → Appends m (take i s) p q → Appends m s p q
all_of s i h a = rw (take_all i s h) at a

-- what is put on a page of which nothing was written stands at the front of the room
pub fronted : {m : ℕ} {xs last : List ℕ} {room : MutBor (List ℕ)} {p q : Page} → Blank room p → Appends m xs p q → last ≡ q.room.now
    → Writing m xs room.now 0 q.used last
fronted blank put ended = rw (ended, ← blank.same, ← blank.front) put.writing

-- ---- bytes in hex

-- a letter is so much more than a decimal digit would be
pub lettered : (t : Bool) (d letter : ℕ) → 58 ≤ letter → 48 + d + pick t 0 (letter - 10 - 48) ≡ pick t (48 + d) (letter - 10 + d)
lettered true d letter h = omega arith
lettered false d letter h = omega arith

pub hex_append : (letter : ℕ) (xs ys : List ℕ) → hex_text letter (xs ++ ys) ≡ hex_text letter xs ++ hex_text letter ys
hex_append letter [] ys = refl
hex_append letter (x ∷ xs) ys = ap (λ (r : List ℕ). pair_text letter x ++ r) (hex_append letter xs ys)

-- one byte more
pub hex_more : (letter : ℕ) (s : List ℕ) (i : ℕ) → i < length s →
    hex_text letter (take i s) ++ pair_text letter (get_or s i 0) ≡ hex_text letter (take (i + 1) s)
hex_more letter s i h = sym (rw (add-one, take-suc s i 0) (hex_append letter (take i s) (get_or s i 0 ∷ [])))

-- the bytes so far stand in hex, and one byte more behind them
pub hex_then : (letter : ℕ) {p q r : Page} (s : List ℕ) (i : ℕ) → i < length s
    → Appends (2 * i) (hex_text letter (take i s)) p q → Appends 2 (pair_text letter (get_or s i 0)) q r
    → Appends (2 * (i + 1)) (hex_text letter (take (i + 1) s)) p r
hex_then letter s i h a b = rw (← hex_more letter s i h) (wider (then a b) (omega arith))

-- the bytes up to a place, and behind them those from there on
pub hex_parts : {p q r : Page} (s : List ℕ) (i : ℕ) → i ≤ length s
    → Appends (2 * length (take i s)) (hex_text lower (take i s)) p q
    → Appends (2 * length (part (length s - i) s i)) (hex_text lower (part (length s - i) s i)) q r
    → Appends (2 * length s) (hex_text lower s) p r
hex_parts s i h a b =
    let whole = sym (hex_append lower (take i s) (drop i s)) ∙ ap (hex_text lower) (take-append-drop i s) in
    rw (← whole) (wider (then a (rw (part_rest s i) at b)) (omega (arith, length-take-le i s h, length-drop i s)))

-- ---- the next number

by_tens : (n : ℕ) → n / 100 ≡ n / 10 / 10
by_tens n = omega arith

thousands : (n : ℕ) → n / 1000 ≡ n / 100 / 10
thousands n = omega arith

module _ (n : ℕ) {p : Twos} (e : p ≡ packed_of n) where
  first : p.high ≡ packed_pair (n / 100)
  first = ap (λ (x : Twos). x.high) e

  last : p.low ≡ packed_pair n
  last = ap (λ (x : Twos). x.low) e

  -- each byte of the packed digits is one of them
  pub packed_bytes : (p.high % 256 ≡ digit_of (n / 1000)) × (p.high / 256 ≡ digit_of (n / 100)) × (p.low % 256 ≡ digit_of (n / 10))
      × (p.low / 256 ≡ digit_of n)
  packed_bytes = (rw (thousands n) (omega (arith, first)), omega (arith, first), omega (arith, last), omega (arith, last))

  -- the last digit alone changes
  pub ones_more : p.low < 0x3900 → ◌≡◌ {A = Twos} (record { high = p.high; low = p.low + 0x100 }) (packed_of (n + 1))
  ones_more h =
      let below : digit_of n < 57 = omega (arith, h, last) in
      let hundreds : n / 100 ≡ (n + 1) / 100 = omega (arith, below) in
      let tens : n / 10 % 10 ≡ (n + 1) / 10 % 10 = omega (arith, below) in
      let low : p.low + 0x100 ≡ packed_pair (n + 1) = omega (arith, last, tens, below) in
      λ i. record { high = (first ∙ ap packed_pair hundreds) i; low = low i }

  -- the last is 9, and the one before it is not
  pub tens_more : 0x3900 ≤ p.low → p.low % 256 < 57 → ◌≡◌ {A = Twos} (record { high = p.high; low = p.low + 1 - 9 * 0x100 }) (packed_of (n + 1))
  tens_more h k =
      let nine : 57 ≤ digit_of n = omega (arith, h, last) in
      let less : digit_of (n / 10) < 57 = omega (arith, k, packed_bytes.2) in
      let tens : (n + 1) / 10 ≡ n / 10 + 1 = omega (arith, nine) in
      let same : n / 10 / 10 ≡ (n / 10 + 1) / 10 = omega (arith, less) in
      let hundreds : n / 100 ≡ (n + 1) / 100 = by_tens n ∙ same ∙ ap (λ (m : ℕ). m / 10) (sym tens) ∙ sym (by_tens (n + 1)) in
      let d : digit_of (n / 10) + 1 ≡ digit_of ((n + 1) / 10) = omega (arith, tens, less) in
      let z : 48 ≡ digit_of (n + 1) = omega (arith, nine) in
      let low : p.low + 1 - 9 * 0x100 ≡ packed_pair (n + 1) = omega (arith, last, d, z, nine) in
      λ i. record { high = (first ∙ ap packed_pair hundreds) i; low = low i }

-- ---- the digits that are shown

module _ (n place : ℕ) where
  pub left_out : n < place → place_text place n ≡ []
  unfolding shown_text
  left_out h = rw (lt-ltb n place h)

  pub shown : place ≤ n → place_text place n ≡ digit_of (n / place) ∷ []
  unfolding shown_text
  shown h = rw (le-ltb n place h)

-- a number below 100,000, and any other: what is above its last five digits, and then these
pub fives_short : (k n : ℕ) → n < 100000 → fives_text k n ≡ short_text n
fives_short zero n h = refl
fives_short (suc k) n h = rw (lt-ltb n 100000 h) refl

pub fives_long : (k n : ℕ) → 100000 ≤ n → fives_text (suc k) n ≡ fives_text k (n / 100000) ++ places_of n
fives_long k n h = rw (le-ltb n 100000 h) refl

pub fives_next : (more n : ℕ) → 1 ≤ more → 100000 ≤ n → fives_text more n ≡ fives_text (more - 1) (n / 100000) ++ places_of n
fives_next zero n some h = absurd (omega arith)
fives_next (suc k) n some h = let e : suc k - 1 ≡ k = omega arith in rw e (fives_long k n h)

pub decimal_short : (n : ℕ) → n < 100000 → decimal_text n ≡ short_text n
unfolding decimal_text
decimal_short n h = fives_short 3 n h

pub width_short : (n : ℕ) → n < 100000 → width_of n ≡ 5
unfolding width_of
width_short n h = rw (lt-ltb n 100000 h) refl

pub width_long : (n : ℕ) → 100000 ≤ n → width_of n ≡ 20
unfolding width_of
width_long n h = rw (le-ltb n 100000 h) refl

pub width_least : (n : ℕ) → 5 ≤ width_of n
unfolding width_of
width_least n = picked (λ (w : ℕ). 5 ≤ w) (ltb n 100000) 5 20 (λ e. omega arith) (λ e. omega arith)

-- a number of one digit
pub single : (n : ℕ) → n < 10 → (48 + n) ∷ [] ≡ decimal_text n
unfolding short_text
single n h =
    let e : n ≡ n % 10 = omega arith in
    rw (decimal_short n (omega arith), left_out n 10000 (omega arith), left_out n 1000 (omega arith), left_out n 100 (omega arith), left_out n 10 h)
    (ap (λ (k : ℕ). (48 + k) ∷ []) e)

-- ---- how many digits

shown_few : (place n digit : ℕ) → length (shown_text place n digit) ≤ 1
unfolding shown_text
shown_few place n digit = picked (λ (xs : List ℕ). length xs ≤ 1) (ltb n place) [] (digit ∷ []) (λ e. omega arith) (λ e. omega arith)

-- a number below a thousand has three digits at most
pub three : (n : ℕ) → n < 1000 → length (decimal_text n) ≤ 3
unfolding short_text
three n h =
    let ones = digit_of n ∷ [] in
    let tens = place_text 10 n ++ ones in
    rw (decimal_short n (omega arith), left_out n 10000 (omega arith), left_out n 1000 h)
    (omega (
      arith,
      length-append (place_text 100 n) tens,
      length-append (place_text 10 n) ones,
      shown_few 100 n (digit_of (n / 100)),
      shown_few 10 n (digit_of (n / 10)),
    ))
