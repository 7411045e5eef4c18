-- Laws of layouts: what was written is read again, of each part and so of the whole.
use mathlib.Core.Path.{◌≡◌, refl, sym, ap, subst, ◌∙◌}
use mathlib.Core.Bool.{Bool, true, false}
use mathlib.Core.List.{List, [], ◌∷◌, ◌++◌, append_assoc, append-nil}
use Prim.Native.Nat.{ℕ, zero, suc, ◌+◌, ◌*◌, ◌/◌, ◌%◌, ◌<◌}
use native.Mathlib.Nat.{add-zero, zero-add, suc-add, suc-mul}
use native.Mathlib.Omega.{arith}
use native.Mathlib.Numerals.{add-one}
use lib.ListN.{length, get_or, take, drop, length-append}
use lib.Seq.{take-nil, take_at, drop_at, drop-drop, get_or-take, get_or-drop}
use Rattle.slices.specs.Slices.{part, put, Stored}
use Rattle.slices.proofs.Laws.{put_next}
use Rattle.state_bytes.specs.Layout.{Layout, number1, number2, number4, flag, flag_byte, flag_in, bytes, ◌then◌, indexed, out_each, repeated, Fields}
use Rattle.state_bytes.specs.Layout.{formed}

-- ---- one behind the other, in a room

pub stored_then : {m n : ℕ} {xs ys l a b : List ℕ} {i : ℕ} → Stored m xs l i a → Stored n ys a (i + m) b → Stored (m + n) (xs ++ ys) l i b
stored_then {m} {n} {xs} {ys} {l} {a} {b} {i} f g = record {
  sized = omega (arith, length-append xs ys, f.sized, g.sized);
  written =
      g.written ∙ ap (λ (x : List ℕ). put x (i + m) ys) f.written ∙ put_next l i (i + m) xs ys (omega (arith, f.sized));
}

-- the same, of so many bytes in all
pub stored_both : {k m n : ℕ} {xs ys l a b : List ℕ} {i : ℕ} → Stored m xs l i a → Stored n ys a (i + m) b → k ≡ m + n → Stored k (xs ++ ys) l i b
stored_both {xs = xs} {ys} {l} {b = b} {i} f g e = subst (λ (n : ℕ). Stored n (xs ++ ys) l i b) (sym e) (stored_then f g)

-- an array that holds the bytes of a value was stored
pub stored_as : {n : ℕ} {array vs l b : List ℕ} {i : ℕ} → array ≡ vs → Stored n array l i b → Stored n vs l i b
stored_as {n} {l = l} {b} {i} e h = subst (λ (x : List ℕ). Stored n x l i b) e h

-- ---- what was written is read again

pub record Lawful {A : Type 0} (good : A → Type 0) (layout : Layout A) : Type 0 where
  pub sized : (v : A) → good v → length (layout.out v) ≡ layout.size
  pub back : (s : List ℕ) (i : ℕ) (v : A) → good v → part layout.size s i ≡ layout.out v → layout.at s i ≡ v

-- of some values nothing is asked
abbrev pub Any : {A : Type 0} → A → Type 0
Any v = Unit

-- a byte of a part
part_byte : (n : ℕ) (s : List ℕ) (i : ℕ) (l : List ℕ) → part n s i ≡ l → (k : ℕ) → k < n → get_or s (i + k) 0 ≡ get_or l k 0
part_byte n s i l e k h = sym (get_or-drop i s k 0) ∙ sym (get_or-take n (drop i s) k 0 h) ∙ ap (λ (x : List ℕ). get_or x k 0) e

first_byte_lem : (n : ℕ) (s : List ℕ) (i : ℕ) (l : List ℕ) → part n s i ≡ l → 0 < n → get_or s i 0 ≡ get_or l 0 0
first_byte_lem n s i l e h = ap (λ (k : ℕ). get_or s k 0) (sym (add-zero i)) ∙ part_byte n s i l e 0 h

pub lawful_byte : Lawful Any number1
lawful_byte = record { sized = λ v h. refl; back = λ s i v h e. first_byte_lem 1 s i (v ∷ []) e (omega arith) }

pub lawful_two : Lawful Any number2
lawful_two = record {
  sized = λ v h. refl;
  back = λ s i v h e.
      let l = v % 256 ∷ v / 256 ∷ [] in
      omega (arith, first_byte_lem 2 s i l e (omega arith), part_byte 2 s i l e 1 (omega arith));
}

pub lawful_four : Lawful Any number4
lawful_four = record {
  sized = λ v h. refl;
  back = λ s i v h e.
      let l = v % 256 ∷ v / 256 % 256 ∷ v / 65536 % 256 ∷ v / 16777216 ∷ [] in
      let at : (k : ℕ) → k < 4 → get_or s (i + k) 0 ≡ get_or l k 0 = part_byte 4 s i l e in
      let three : i + 2 + 1 ≡ i + 3 = omega arith in
      rw three
      (omega (arith, first_byte_lem 4 s i l e (omega arith), at 1 (omega arith), at 2 (omega arith), at 3 (omega arith)));
}

flag_back : (b : Bool) → flag_in (flag_byte b) ≡ b
flag_back true = refl
flag_back false = refl

pub lawful_flag : Lawful Any flag
lawful_flag = record {
  sized = λ v h. refl;
  back = λ s i v h e. ap flag_in (first_byte_lem 1 s i (flag_byte v ∷ []) e (omega arith)) ∙ flag_back v;
}

pub lawful_bytes : (n : ℕ) → Lawful (λ (l : List ℕ). length l ≡ n) (bytes n)
lawful_bytes n = record { sized = λ v h. h; back = λ s i v h e. e }

-- the front and the rest of a part
take_less : (m n : ℕ) (l : List ℕ) → take m (take (m + n) l) ≡ take m l
take_less zero n l = refl
take_less (suc m) n [] = ap (take (suc m)) (take-nil (suc m + n))
take_less (suc m) n (x ∷ xs) = rw (suc-add m n) (ap (λ (r : List ℕ). x ∷ r) (take_less m n xs))

drop_less : (m n : ℕ) (l : List ℕ) → drop m (take (m + n) l) ≡ take n (drop m l)
drop_less zero n l = ap (λ (k : ℕ). take k l) (zero-add n)
drop_less (suc m) n [] = ap (drop (suc m)) (take-nil (suc m + n)) ∙ sym (take-nil n)
drop_less (suc m) n (x ∷ xs) = rw (suc-add m n) (drop_less m n xs)

-- what two lists joined are a part of stands there one behind the other
pub part_both : (m n : ℕ) (s : List ℕ) (i : ℕ) (x y : List ℕ) → length x ≡ m → part (m + n) s i ≡ x ++ y → (part m s i ≡ x) × (part n s (i + m) ≡ y)
part_both m n s i x y size e = (
  sym (take_less m n (drop i s)) ∙ ap (take m) e ∙ take_at x y m size,
  ap (take n) (sym (drop-drop m i s)) ∙ sym (drop_less m n (drop i s)) ∙ ap (drop m) e ∙ drop_at x y m size,
)

module _ {A B : Type 0} {goodA : A → Type 0} {goodB : B → Type 0} {a : Layout A} {b : Layout B} where
  pub lawful_then : Lawful goodA a → Lawful goodB b → Lawful (λ (v : A × B). goodA v.0 × goodB v.1) (a then b)
  lawful_then f g = record {
    sized = λ v h. omega (arith, length-append (a.out v.0) (b.out v.1), f.sized v.0 h.0, g.sized v.1 h.1);
    back = λ s i v h e.
        let parts = part_both a.size b.size s i (a.out v.0) (b.out v.1) (f.sized v.0 h.0) e in
        let p = f.back s i v.0 h.0 parts.0 in
        let q = g.back s (i + a.size) v.1 h.1 parts.1 in
        λ k. (p k, q k);
  }

-- a struct, of which its fields give it back where it is good
pub lawful_held : {A B : Type 0} {goodA : A → Type 0} {goodB : B → Type 0} {a : Layout A} (form : Fields A B)
    → ((v : B) → goodB v → form.to (form.from v) ≡ v) → ((v : B) → goodB v → goodA (form.from v)) → Lawful goodA a → Lawful goodB (formed form a)
lawful_held form undo good f = record {
  sized = λ v h. f.sized (form.from v) (good v h);
  back = λ s i v h e. ap form.to (f.back s i (form.from v) (good v h) e) ∙ undo v h;
}

pub lawful_formed : {A B : Type 0} {goodA : A → Type 0} {goodB : B → Type 0} {a : Layout A} (form : Fields A B) → ((v : B) → form.to (form.from v) ≡ v)
    → ((v : B) → goodB v → goodA (form.from v)) → Lawful goodA a → Lawful goodB (formed form a)
lawful_formed form undo good f = lawful_held form (λ v h. undo v) good f

-- ---- so many values

-- what holds of each
abbrev pub Each : {A : Type 0} → (A → Type 0) → List A → Type 0
Each good [] = Unit
Each good (v ∷ vs) = good v × Each good vs

module _ {A : Type 0} {good : A → Type 0} {l : Layout A} (f : Lawful good l) where
  each_length : (vs : List A) → Each good vs → length (out_each l vs) ≡ length vs * l.size
  each_length [] h = sym (zero_times l.size)
    where
      zero_times : (n : ℕ) → 0 * n ≡ 0
      zero_times n = omega arith
  each_length (v ∷ vs) h =
      let head = f.sized v h.0 in
      let rest = each_length vs h.1 in
      omega (arith, length-append (l.out v) (out_each l vs), head, rest, suc-mul (length vs) l.size)

  -- from the value k on
  each_back : (s : List ℕ) (i k n : ℕ) (vs : List A) → length vs ≡ n → Each good vs → part (n * l.size) s (i + k * l.size) ≡ out_each l vs
      → indexed (λ (j : ℕ). l.at s (i + j * l.size)) k n ≡ vs
  each_back s i k zero [] size h e = refl
  each_back s i k (suc n) [] size h e = absurd (omega (arith, size))
  each_back s i k zero (v ∷ vs) size h e = absurd (omega (arith, size))
  each_back s i k (suc n) (v ∷ vs) size h e =
      let whole : suc n * l.size ≡ l.size + n * l.size = omega (arith, suc-mul n l.size) in
      let next : i + k * l.size + l.size ≡ i + (k + 1) * l.size = omega (arith, suc-mul k l.size, add-one k) in
      let joint = ap (λ (m : ℕ). part m s (i + k * l.size)) (sym whole) ∙ e in
      let parts = part_both l.size (n * l.size) s (i + k * l.size) (l.out v) (out_each l vs) (f.sized v h.0) joint in
      let head = f.back s (i + k * l.size) v h.0 parts.0 in
      let behind = ap (part (n * l.size) s) (sym next) ∙ parts.1 in
      let rest = each_back s i (k + 1) n vs (omega (arith, size)) h.1 behind in
      λ x. head x ∷ rest x

  pub lawful_repeated : (n : ℕ) → Lawful (λ (vs : List A). (length vs ≡ n) × Each good vs) (repeated n l)
  lawful_repeated n = record {
    sized = λ vs h. each_length vs h.1 ∙ ap (λ (k : ℕ). k * l.size) h.0;
    back = λ s i vs h e. each_back s i 0 n vs h.0 h.1 (ap (part (n * l.size) s) (from_first i l.size) ∙ e);
  }
    where
      from_first : (i n : ℕ) → i + 0 * n ≡ i
      from_first i n = omega arith

-- ---- of an index

module _ {A : Type 0} (f : ℕ → A) where
  -- one more
  indexed_next : (i n : ℕ) → indexed f i (suc n) ≡ indexed f i n ++ (f (i + n) ∷ [])
  indexed_next i zero = ap (λ (k : ℕ). f k ∷ []) (sym (add-zero i))
  indexed_next i (suc n) =
      let e : i + 1 + n ≡ i + suc n = omega arith in
      ap (λ (vs : List A). f i ∷ vs) (indexed_next (i + 1) n ∙ ap (λ (k : ℕ). indexed f (i + 1) n ++ (f k ∷ [])) e)

  -- what holds of each
  pub each_indexed : (P : A → Type 0) → ((j : ℕ) → P (f j)) → (i n : ℕ) → Each P (indexed f i n)
  each_indexed P h i zero = tt
  each_indexed P h i (suc n) = (h i, each_indexed P h (i + 1) n)

  pub indexed_holds : (P : A → Type 0) (d : A) → P d → (i n : ℕ) → ((j : ℕ) → j < i + n → P (f j)) → (k : ℕ) → P (get_or (indexed f i n) k d)
  indexed_holds P d p i zero h k = p
  indexed_holds P d p i (suc n) h zero = h i (omega arith)
  indexed_holds P d p i (suc n) h (suc k) = indexed_holds P d p (i + 1) n (λ j low. h j (omega arith)) k

out_both : {A : Type 0} (l : Layout A) (xs ys : List A) → out_each l (xs ++ ys) ≡ out_each l xs ++ out_each l ys
out_both l [] ys = refl
out_both l (x ∷ xs) ys =
    ap (λ (r : List ℕ). l.out x ++ r) (out_both l xs ys) ∙ sym (append_assoc (l.out x) (out_each l xs) (out_each l ys))

-- one value more was stored behind the others
pub stored_next : {A : Type 0} (l : Layout A) (f : ℕ → A) {m n i : ℕ} {room before after : List ℕ} (k : ℕ)
    → Stored m (out_each l (indexed f 0 k)) room i before → Stored n (l.out (f k)) before (i + m) after
    → Stored (m + n) (out_each l (indexed f 0 (suc k))) room i after
stored_next {A} l f {m} {n} {i} {room} {before} {after} k first next =
    let more : out_each l (indexed f 0 (suc k)) ≡ out_each l (indexed f 0 k) ++ l.out (f k) =
    ap (out_each l) (indexed_next f 0 k) ∙ out_both l (indexed f 0 k) (f (0 + k) ∷ [])
    ∙ ap (λ (r : List ℕ). out_each l (indexed f 0 k) ++ r) (append-nil (l.out (f (0 + k))))
    ∙ ap (λ (j : ℕ). out_each l (indexed f 0 k) ++ l.out (f j)) (zero-add k) in
    subst (λ (vs : List ℕ). Stored (m + n) vs room i after) (sym more) (stored_then first next)
