-- What follows of `part`, `put` and the little-endian numbers, for the proofs of this crate and of those above it.
use mathlib.Core.Path.{◌≡◌, refl, sym, ap, ◌∙◌}
use mathlib.Core.Bool.{Bool, true, false}
use mathlib.Core.Logic.{◌⊎◌, inl, inr, ⊎_elim}
use mathlib.Core.List.{List, [], ◌∷◌, ◌++◌, append_assoc, append-nil}
use Prim.Native.Nat.{ℕ, zero, suc, ◌+◌, ◌-◌, ◌/◌, ◌%◌, ◌≤◌, ◌<◌, min, max}
use native.Mathlib.Nat.{zero-add, add-zero, suc-add, add-suc, sub-zero}
use native.Mathlib.Numerals.{add-one}
use native.Mathlib.Omega.{arith}
use lib.Dec.{eqb, leb}
use lib.ListN.{length, get_or, take, drop, set, length-append, length-take, length-drop, length-set, drop_of_length-le, take-append-drop}
use lib.Seq.{sets-eq, length-sets, drop-cons, drop-length, take-add, take_all, take-nil, take_at, drop_at}
use lib.Seq.{drop-drop, length-take-le, get_or-set_same, get_or-set_other, get_or-take, get_or-drop}
use borrow.Author.Tests.{eqb-true, eqb-false, leb-true, leb-false}
use Rattle.slices.specs.Slices.{part, put, laid_of, pair_at}

-- What `put` means

-- the bytes before i, the bytes vs, and what stood behind them
pub put_is : (l : List ℕ) (i : ℕ) (vs : List ℕ) → i + length vs ≤ length l → put l i vs ≡ take i l ++ vs ++ drop (i + length vs) l
put_is l i vs room = sets-eq vs l i room

pub put_length : (l : List ℕ) (i : ℕ) (vs : List ℕ) → length (put l i vs) ≡ length l
put_length l i vs = length-sets l i vs

-- what was put is read back
pub put_read : (l : List ℕ) (i : ℕ) (vs : List ℕ) → i + length vs ≤ length l → part (length vs) (put l i vs) i ≡ vs
put_read l i vs room =
    rw (put_is l i vs room, append_assoc, drop_at (take i l) (vs ++ drop (i + length vs) l) i (length-take-le i l (omega arith)))
    (take_at vs (drop (i + length vs) l) (length vs) refl)

-- One `put` from several, and several from one

-- one byte more: a store, and the rest of the bytes
pub put_more : (l s : List ℕ) (at i : ℕ) → i < length s
    → put l (at + i) (drop i s) ≡ put (set l (at + i) (get_or s i 0)) (at + (i + 1)) (drop (i + 1) s)
put_more l s at i h = rw (drop-cons s i 0) (simp (add-one, add-suc))

-- bytes, and bytes after them
pub put_append : (l : List ℕ) (i : ℕ) (xs ys : List ℕ) → put l i (xs ++ ys) ≡ put (put l i xs) (i + length xs) ys
put_append l i [] ys = rw add-zero
put_append l i (x ∷ xs) ys =
    put_append (set l i x) (suc i) xs ys
    ∙ ap (λ (k : ℕ). put (put l i (x ∷ xs)) k ys) (suc-add i (length xs) ∙ sym (add-suc i (length xs)))

-- the same, from where the first bytes end
pub put_next : (l : List ℕ) (i j : ℕ) (xs ys : List ℕ) → j ≡ i + length xs → put (put l i xs) j ys ≡ put l i (xs ++ ys)
put_next l i j xs ys e = rw e (sym (put_append l i xs ys))

-- At the front, and over the whole

pub put_front : (l vs : List ℕ) → length vs ≤ length l → put l 0 vs ≡ vs ++ drop (length vs) l
put_front l vs h =
    put_is l 0 vs (omega (arith, zero-add (length vs)))
    ∙ ap (λ (k : ℕ). vs ++ drop k l) (zero-add (length vs))

pub put_whole : (l vs : List ℕ) → length vs ≡ length l → put l 0 vs ≡ vs
put_whole l vs h =
    put_front l vs (omega arith)
    ∙ ap (λ (r : List ℕ). vs ++ r) (drop_of_length-le l {i = length vs} (omega arith))
    ∙ append-nil vs

-- A part that is copied out

pub part_length : (n : ℕ) (s : List ℕ) (at : ℕ) → at + n ≤ length s → length (part n s at) ≡ n
part_length n s at h = length-take-le n (drop at s) (omega (arith, length-drop at s))

-- a part of s, put over a whole list that is as long
pub put_copy : (l s : List ℕ) (at n : ℕ) → length l ≡ n → at + n ≤ length s → put l 0 (part (at + n - at) s at) ≡ part n s at
put_copy l s at n e h =
    let k : at + n - at ≡ n = omega arith in
    rw k (put_whole l (part n s at) (part_length n s at h ∙ sym e))

-- two parts, one behind the other
pub part_joined : (m n : ℕ) (s : List ℕ) (at : ℕ) → part (m + n) s at ≡ part m s at ++ part n s (at + m)
part_joined m n s at = take-add m n (drop at s) ∙ ap (λ (r : List ℕ). part m s at ++ take n r) (drop-drop m at s)

pub put_both : (l s : List ℕ) (at m n : ℕ) → length l ≡ m + n → at + (m + n) ≤ length s →
    put (put l 0 (part m s at)) m (part n s (at + m)) ≡ part (m + n) s at
put_both l s at m n e h =
    put_next l 0 m (part m s at) (part n s (at + m)) (omega (arith, part_length m s at (omega arith)))
    ∙ ap (put l 0) (sym (part_joined m n s at))
    ∙ put_whole l (part (m + n) s at) (part_length (m + n) s at h ∙ sym e)

-- Bytes that stand there already need not be written

pub put_there : (s : List ℕ) (i n : ℕ) (x : List ℕ) → part n s i ≡ x → i + n ≤ length s → put s i x ≡ s
put_there s i n x e h =
    let size = part_length n s i h in
    ap (put s i) (sym e)
    ∙ put_is s i (part n s i) (omega (arith, size))
    ∙ ap (λ (k : ℕ). take i s ++ part n s i ++ drop (i + k) s) size
    ∙ ap (λ (r : List ℕ). r ++ drop (i + n) s) (sym (take-add i n s))
    ∙ take-append-drop (i + n) s

-- the first of two, one behind the other
pub put_second : (s : List ℕ) (i m : ℕ) (x y : List ℕ) → length x ≡ m → part m s i ≡ x → i + m ≤ length s → put s (i + m) y ≡ put s i (x ++ y)
put_second s i m x y size e h =
    ap (λ (l : List ℕ). put l (i + m) y) (sym (put_there s i m x e h)) ∙ put_next s i (i + m) x y (omega (arith, size))

-- what stands behind bytes that are written is as it was
pub part_behind : (s : List ℕ) (i m n : ℕ) (x : List ℕ) → length x ≡ m → i + m ≤ length s → part n (put s i x) (i + m) ≡ part n s (i + m)
part_behind s i m n x size h =
    let front : length (take i s ++ x) ≡ i + m = length-append (take i s) x ∙ omega (arith, length-take-le i s (omega arith), size) in
    ap (λ (l : List ℕ). part n l (i + m)) (put_is s i x (omega (arith, size)))
    ∙ ap (take n) (drop_at (take i s ++ x) (drop (i + length x) s) (i + m) front)
    ∙ ap (λ (k : ℕ). take n (drop (i + k) s)) size

-- A part that is lent, `&mut l[i..]`, and comes back

-- what is lent
pub part_rest : (l : List ℕ) (i : ℕ) → part (length l - i) l i ≡ drop i l
part_rest l i = take_all (length l - i) (drop i l) (omega (arith, length-drop i l))

-- a callee that wrote vs at the front of it has put them into the whole
pub put_part : (l : List ℕ) (i k : ℕ) (vs : List ℕ) → i + length vs ≤ length l → k ≡ length l - i
    → take i l ++ ((vs ++ drop (length vs) (drop i l)) ++ drop k (drop i l)) ≡ put l i vs
put_part l i k vs room e =
    ap (λ (r : List ℕ). take i l ++ ((vs ++ drop (length vs) (drop i l)) ++ r))
    (drop_of_length-le (drop i l) {i = k} (omega (arith, length-drop i l)))
    ∙ ap (λ (r : List ℕ). take i l ++ r) (append-nil (vs ++ drop (length vs) (drop i l)))
    ∙ ap (λ (r : List ℕ). take i l ++ (vs ++ r)) (drop-drop (length vs) i l)
    ∙ sym (append_assoc (take i l) vs (drop (i + length vs) l))
    ∙ sym (put_is l i vs room)

-- the whole is as long as it was
pub back_length : (l x : List ℕ) (i : ℕ) → i ≤ length l → length x ≡ length (part (length l - i) l i)
    → length (take i l ++ (x ++ drop (length l - i) (drop i l))) ≡ length l
back_length l x i h e =
    let f : length x ≡ length l - i = e ∙ ap length (part_rest l i) ∙ length-drop i l in
    let d : length (drop (length l - i) (drop i l)) ≡ 0 = length-drop (length l - i) (drop i l) ∙ omega (arith, length-drop i l) in
    length-append (take i l) (x ++ drop (length l - i) (drop i l))
    ∙ omega (arith, length-append x (drop (length l - i) (drop i l)), length-take-le i l h)

-- A part up to the end

-- nothing is past the end
pub drop_lower : (i : ℕ) (s : List ℕ) → drop (min i (length s)) s ≡ drop i s
drop_lower i s = go (leb i (length s)) refl
  where
    go : (t : Bool) → leb i (length s) ≡ t → drop (min i (length s)) s ≡ drop i s
    go true e = let f : min i (length s) ≡ i = omega (arith, leb-true i (length s) e) in rw f refl
    go false e =
        let f : min i (length s) ≡ length s = omega (arith, leb-false i (length s) e) in
        rw f (drop-length s ∙ sym (drop_of_length-le s {i = i} (omega (arith, leb-false i (length s) e))))

-- Bytes laid over an array

-- an index before what was put, or behind it, has what it had
put_other : (l : List ℕ) (i : ℕ) (vs : List ℕ) (j d : ℕ) → (j < i) ⊎ (i + length vs ≤ j) → get_or (put l i vs) j d ≡ get_or l j d
put_other l i [] j d h = refl
put_other l i (v ∷ vs) j d h =
    put_other (set l i v) (suc i) vs j d (⊎_elim (λ e. inl (omega arith)) (λ e. inr (omega arith)) h)
    ∙ get_or-set_other l i j v d (λ e. ⊎_elim (λ f. omega arith) (λ f. omega arith) h)

-- any other index has what was put there
put_same : (l : List ℕ) (i : ℕ) (vs : List ℕ) (j d : ℕ) → j < length l → i ≤ j → j < i + length vs →
    get_or (put l i vs) j d ≡ get_or vs (j - i) d
put_same l i [] j d inside low high = absurd (omega arith)
put_same l i (v ∷ vs) j d inside low high =
    go (eqb i j) refl (λ apart. put_same (set l i v) (suc i) vs j d (rw (length-set l i v) inside) (omega arith) (omega arith))
  where
    go : (t : Bool) → eqb i j ≡ t → (i < j → get_or (put (set l i v) (suc i) vs) j d ≡ get_or vs (j - suc i) d)
        → get_or (put (set l i v) (suc i) vs) j d ≡ get_or (v ∷ vs) (j - i) d
    go true e later =
        let f : j ≡ i = sym (eqb-true i j e) in
        let z : i - i ≡ 0 = omega arith in
        rw (f, z) (put_other (set l i v) (suc i) vs i d (inl (omega arith)) ∙ get_or-set_same l i v d (omega arith))
    go false e later =
        let apart : i < j = omega (arith, eqb-false i j e) in
        let k : j - i ≡ suc (j - suc i) = omega arith in
        rw k (later apart)

module _ (low high : ℕ) (array : List ℕ) (a : ℕ) (bytes : List ℕ) where
  -- where no byte falls into the array it stays
  pub laid_none : min (a + length bytes) high ≤ max a low → laid_of low high array a bytes ≡ array
  unfolding laid_of
  laid_none h =
      ap (put array (a - low))
      (drop_of_length-le (take (high - a) bytes) {i = low - a} (rw (length-take (high - a) bytes) (omega arith)))

  pub laid_length : length (laid_of low high array a bytes) ≡ length array
  unfolding laid_of
  laid_length = put_length array (a - low) (drop (low - a) (take (high - a) bytes))

  module _ (i : ℕ) (inside : i < length array) (below : low + i < high) where
    fallen : length (drop (low - a) (take (high - a) bytes)) ≡ min (high - a) (length bytes) - (low - a)
    fallen = rw (length-drop (low - a) (take (high - a) bytes), length-take (high - a) bytes) refl

    -- an address that the bytes reach has its byte of them
    pub laid_reached : a ≤ low + i → low + i < a + length bytes → get_or (laid_of low high array a bytes) i 0 ≡ get_or bytes (low + i - a) 0
    unfolding laid_of
    laid_reached from to =
        put_same array (a - low) (drop (low - a) (take (high - a) bytes)) i 0 inside (omega arith) (rw fallen (omega arith))
        ∙ get_or-drop (low - a) (take (high - a) bytes) (i - (a - low)) 0
        ∙ ap (λ (k : ℕ). get_or (take (high - a) bytes) k 0) at
        ∙ get_or-take (high - a) bytes (low + i - a) 0 (omega arith)
      where
        at : low - a + (i - (a - low)) ≡ low + i - a
        at = omega arith

    -- any other keeps what it had
    pub laid_missed : (low + i < a) ⊎ (a + length bytes ≤ low + i) → get_or (laid_of low high array a bytes) i 0 ≡ get_or array i 0
    unfolding laid_of
    laid_missed h =
        put_other array (a - low) (drop (low - a) (take (high - a) bytes)) i 0
        (⊎_elim (λ e. inl (omega arith)) (λ (e : a + length bytes ≤ low + i). inr (rw fallen (omega arith))) h)

-- an array of n bytes stands up to low + n
pub laid_sized : (low : ℕ) (array : List ℕ) (a : ℕ) (bytes : List ℕ) {r : List ℕ} (n : ℕ) → length array ≡ n
    → r ≡ laid_of low (low + length array) array a bytes → r ≡ laid_of low (low + n) array a bytes
laid_sized low array a bytes n e h = h ∙ ap (λ (k : ℕ). laid_of low (low + k) array a bytes) e

-- some of the first m bytes, taken out of all of them
part_of_first : (s : List ℕ) (k n m : ℕ) → n + k ≡ min m (length s) → part n s k ≡ drop k (take m s)
part_of_first s k n m e = go (leb m (length s)) refl
  where
    turned : (s : List ℕ) (k m : ℕ) → drop k (take m s) ≡ take (m - k) (drop k s)
    turned s zero m = rw (sub-zero m) refl
    turned [] (suc k) m = rw (take-nil {A = ℕ} m) (sym (take-nil (m - suc k)))
    turned (x ∷ xs) (suc k) zero = let z : 0 - suc k ≡ 0 = omega arith in rw z refl
    turned (x ∷ xs) (suc k) (suc m) = let e : suc m - suc k ≡ m - k = omega arith in rw e (turned xs k m)

    go : (t : Bool) → leb m (length s) ≡ t → part n s k ≡ drop k (take m s)
    go true f =
        let h : n ≡ m - k = omega (arith, leb-true m (length s) f) in
        rw h (sym (turned s k m))
    go false f =
        let rest = length-drop k s in
        take_all n (drop k s) (omega (arith, leb-false m (length s) f))
        ∙ ap (drop k) (sym (take_all m s (omega (arith, leb-false m (length s) f))))

-- what a copy of the bytes from the first address that is in both up to the end of one of them leaves
module _ (low high : ℕ) (array : List ℕ) (a : ℕ) (bytes : List ℕ) (first past : ℕ) where
  pub laid_copied : first ≡ max a low → past ≡ min (a + length bytes) high → first < past
      → put array (first - low) (part (past - a - (first - a)) bytes (first - a)) ≡ laid_of low high array a bytes
  unfolding laid_of
  laid_copied f p some =
      rw (part_of_first bytes (first - a) (past - a - (first - a)) (high - a) (all (omega arith) ∙ upto p), start f, skip f) refl
    where
      start : first ≡ max a low → first - low ≡ a - low
      start f = omega arith

      skip : first ≡ max a low → first - a ≡ low - a
      skip f = omega arith

      all : first - a ≤ past - a → past - a - (first - a) + (first - a) ≡ past - a
      all h = omega arith

      upto : past ≡ min (a + length bytes) high → past - a ≡ min (high - a) (length bytes)
      upto p = omega arith

-- Little-endian numbers

-- the two bytes of a number, read back
pub pair_read : (x : ℕ) → pair_at (x % 256 ∷ x / 256 ∷ []) 0 ≡ x
pair_read x = omega arith
