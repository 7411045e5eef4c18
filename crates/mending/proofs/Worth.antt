-- What mending is worth, proved.
use mathlib.Core.Path.{◌≡◌, refl, sym, ap, subst, ◌∙◌}
use mathlib.Core.Bool.{Bool, true, false}
use mathlib.Core.Logic.{◌≢◌}
use Rattle.std.specs.Prelude.{Ok, Err}
use mathlib.Core.List.{List, [], ◌∷◌, ◌++◌}
use Prim.Native.Nat.{ℕ, suc, ◌+◌, ◌*◌, ◌%◌, ◌/◌, ◌≤◌, ◌<◌, min, max}
use native.Mathlib.Omega.{arith}
use borrow.Author.Tests.{eq-eqb, le-leb, le-ltb, leb-true, leb-false, eqb-true}
use lib.Dec.{eqb, leb}
use lib.IntN.{pos}
use lib.Signed.{le_z}
use lib.ListN.{length, get_or, take, drop, set, length-set, length-take, length-drop, length-append}
use lib.Seq.{get_or-set_same, get_or-set_other, set-get_or, take-set-le, get_or-take, get_or-drop, take-take, take_at, drop_at, ext_get_or}
use Rattle.std.specs.Prelude.{Ok, Err}
use Rattle.numbers.specs.Choice.{pick}
use Rattle.numbers.specs.Offset.{value, offset8_of, moved_into}
use Rattle.numbers.proofs.Offset.{natural, at_most}
use Rattle.numbers.proofs.Bounds.{both_true, picked}
use Rattle.slices.specs.Slices.{part}
use Rattle.slices.proofs.Laws.{put_front}
use Rattle.crc.specs.Crc.{crc_of}
use Rattle.params.specs.declared.Breaks.{Breaks}
use Rattle.state.specs.declared.Profile.TheVariants.{Ds2781}
use Rattle.record.specs.declared.Event.TheVariants.{Image}
use Rattle.record.specs.declared.Refusal.TheVariants as refusal
use Rattle.record.specs.Image.{image_size, image_address, image_block, image_breaks, image_aging, image_locks}
use Rattle.record.specs.Record.{kind_of, addressed_of, lockable_of, ordered_of, judged_among, judged_of, taken_of}
use Rattle.record.proofs.Fits.{plain_taking}
use Rattle.mending.specs.Mending.{mended_crc, mended_aging, mended_locks, cap_of, capped_of, arranged_of}
use Rattle.mending.specs.Mending.{mended_breaks, mended_of, change_line, change_text, changes_from, changes_of, changes_size, mending_answer}
use Rattle.mending.specs.Mending.{Mended, mend_done, mended_room, listed_by, lines_by, Mending}
use Rattle.mending.specs.declared.MendRefusal.{MendRefusal}
use Rattle.mending.specs.Worth.{Mendable, SoundImage, Arranged, KeptBytes, MendedBytes, MendedBreakpoints, LinesTold}
use Rattle.mending.specs.Worth.{AcceptedTheorem, UnchangedTheorem, TwiceTheorem}
use Rattle.mending.specs.Worth.{ArrangedTheorem, CappedTheorem, KeptTheorem, ByCallTheorem}
use Rattle.mending.specs.Worth.{LinesTheorem, NoLinesTheorem, LinesAgainTheorem, StaysTheorem, ListingTheorem}
use Rattle.mending.proofs.Laws.{granted, mended_length}

-- ---- signed bytes in offset form, and back

back : (x : ℕ) → x < 256 → offset8_of (offset8_of x) ≡ x
back x h = omega arith

-- ---- what is done twice, or is not needed

moved_again : (x : ℕ) → moved_into 63 128 (moved_into 63 128 x) ≡ moved_into 63 128 x
moved_again x = omega arith

moved_up : (x : ℕ) → x < 63 → moved_into 63 128 x ≡ 63
moved_up x h = omega arith

moved_down : (x : ℕ) → 128 < x → moved_into 63 128 x ≡ 128
moved_down x h = omega arith

moved_none : (x : ℕ) → 63 ≤ x → x ≤ 128 → moved_into 63 128 x ≡ x
moved_none x h i = omega arith

cleared_again : (x : ℕ) → x % 4 % 4 ≡ x % 4
cleared_again x = omega arith

cleared_none : (x : ℕ) → x ≤ 3 → x % 4 ≡ x
cleared_none x h = omega arith

bit_0 : (x : ℕ) → x % 4 % 2 ≡ x % 2
bit_0 x = omega arith

bit_1 : (x : ℕ) → x % 4 / 2 % 2 ≡ x / 2 % 2
bit_1 x = omega arith

-- ---- breakpoints that are in order stay, and those that are mended are in order

lower_is : (a b : ℕ) → a ≤ b → min a b ≡ a
lower_is a b h = omega arith

higher_is : (a b : ℕ) → a ≤ b → max a b ≡ b
higher_is a b h = omega arith

capped_stays : (b : Breaks) → b.b34 ≤ 168 → b.b23 ≤ 168 → b.b12 ≤ 168 → capped_of b ≡ b
capped_stays b h i j = rw (lower_is b.b34 168 h, lower_is b.b23 168 i, lower_is b.b12 168 j) refl

arranged_stays : (b : Breaks) → b.b12 ≤ b.b23 → b.b23 ≤ b.b34 → arranged_of b ≡ b
unfolding arranged_of
arranged_stays b h i =
    let first : (arranged_of b).b34 ≡ b.b34 = omega (arith, h, i) in
    let second : (arranged_of b).b23 ≡ b.b23 = omega (arith, h, i) in
    let third : (arranged_of b).b12 ≡ b.b12 = omega (arith, h, i) in
    λ j. record { b34 = first j; b23 = second j; b12 = third j }

-- of the smaller and the larger of two, and a third
smallest_below : (low high c : ℕ) → min low c ≤ max low (min high c)
smallest_below low high c = omega arith

middle_below : (low high c : ℕ) → low ≤ high → max low (min high c) ≤ max high c
middle_below low high c h = omega arith

smaller_below : (a b : ℕ) → min a b ≤ max a b
smaller_below a b = omega arith

largest_low : (a b c : ℕ) → a ≤ 168 → b ≤ 168 → c ≤ 168 → max (max a b) c ≤ 168
largest_low a b c h i j = omega arith

cap_low : (x : ℕ) → min x 168 ≤ 168
cap_low x = omega arith

record Ascending (b : Breaks) : Type 0 where
  one : b.b12 ≤ b.b23
  two : b.b23 ≤ b.b34
  three : b.b34 ≤ 168

ascending_means : (b : Breaks) → ordered_of b ≡ true → Ascending b
unfolding ordered_of
ascending_means b h =
    let first = both_true (leb b.b12 b.b23) _ h in
    let second = both_true (leb b.b23 b.b34) _ first.1 in
    record { one = leb-true b.b12 b.b23 first.0; two = leb-true b.b23 b.b34 second.0; three = leb-true b.b34 168 second.1 }

ascending_ordered : (b : Breaks) → Ascending b → ordered_of b ≡ true
unfolding ordered_of
ascending_ordered b o = rw (le-leb b.b12 b.b23 o.one, le-leb b.b23 b.b34 o.two, le-leb b.b34 168 o.three) refl

stays : (b : Breaks) → Ascending b → arranged_of (capped_of b) ≡ b
stays b o = ap arranged_of (capped_stays b o.three (omega arith) (omega arith)) ∙ arranged_stays b o.one o.two

ascends : (b : Breaks) → Ascending (arranged_of (capped_of b))
unfolding arranged_of
ascends b =
    let x = min b.b12 168 in
    let y = min b.b23 168 in
    let z = min b.b34 168 in
    record {
      one = smallest_below (min x y) (max x y) z;
      two = middle_below (min x y) (max x y) z (smaller_below x y);
      three = largest_low x y z (cap_low b.b12) (cap_low b.b23) (cap_low b.b34);
    }

-- ---- the three that are put in order are the same three

module _ (f : ℕ → ℕ) where
  two_same : (a b : ℕ) → f (min a b) + f (max a b) ≡ f a + f b
  two_same a b = by (leb a b) refl
    where
      by : (t : Bool) → leb a b ≡ t → f (min a b) + f (max a b) ≡ f a + f b
      by true e = let h = leb-true a b e in rw (lower_is a b h, higher_is a b h) refl
      by false e =
          let x : min a b ≡ b = omega (arith, leb-false a b e) in
          let y : max a b ≡ a = omega (arith, leb-false a b e) in
          rw (x, y) (omega arith)

  -- a third, put among two in order
  third_same : (u v c : ℕ) → u ≤ v → f (min u c) + f (max u (min v c)) + f (max v c) ≡ f u + f v + f c
  third_same u v c h = by (leb c v) refl
    where
      by : (t : Bool) → leb c v ≡ t → f (min u c) + f (max u (min v c)) + f (max v c) ≡ f u + f v + f c
      by true e =
          let x : min v c ≡ c = omega (arith, leb-true c v e) in
          let y : max v c ≡ v = omega (arith, leb-true c v e) in
          rw (x, y) (omega (arith, two_same u c))
      by false e =
          let x : min v c ≡ v = omega (arith, leb-false c v e) in
          let y : max v c ≡ c = omega (arith, leb-false c v e) in
          let z : min u c ≡ u = omega (arith, leb-false c v e) in
          rw (x, y, z, higher_is u v h) refl

pub arranged : ArrangedTheorem
unfolding arranged_of
arranged b =
    let low = min b.b12 b.b23 in
    let high = max b.b12 b.b23 in
    record {
      smallest = smallest_below low high b.b34;
      largest = middle_below low high b.b34 (smaller_below b.b12 b.b23);
      same = λ f. third_same f low high b.b34 (smaller_below b.b12 b.b23) ∙ ap (λ (n : ℕ). n + f b.b34) (two_same f b.b12 b.b23);
    }

pub capped : CappedTheorem
capped x = by (leb x 168) refl
  where
    forty : le_z (value 7 x) (value 7 168) ≡ le_z (value 7 x) (pos 40)
    forty = ap (le_z (value 7 x)) (natural 7 40)

    by : (t : Bool) → leb x 168 ≡ t → value 7 (cap_of x) ≡ pick (le_z (value 7 x) (pos 40)) (value 7 x) (pos 40)
    by true e = rw (lower_is x 168 (leb-true x 168 e), ← sym (sym (at_most 7 x 168 ∙ forty)), e) refl
    by false e =
        let over : min x 168 ≡ 168 = omega (arith, leb-false x 168 e) in
        rw (over, ← at_most 7 x 168 ∙ forty, e) (natural 7 40)

-- ---- six bytes stored into a list

module _ (l : List ℕ) (c x y z a k : ℕ) where
  abbrev l₁ : List ℕ
  l₁ = set l 0x07 c

  abbrev l₂ : List ℕ
  l₂ = set l₁ 0x34 x

  abbrev l₃ : List ℕ
  l₃ = set l₂ 0x35 y

  abbrev l₄ : List ℕ
  l₄ = set l₃ 0x36 z

  abbrev l₅ : List ℕ
  l₅ = set l₄ 0x3a a

  abbrev l₆ : List ℕ
  l₆ = set l₅ 0x3b k

  elsewhere : (i : ℕ) → i ≢ 0x07 → i ≢ 0x34 → i ≢ 0x35 → i ≢ 0x36 → i ≢ 0x3a → i ≢ 0x3b → get_or l₆ i 0 ≡ get_or l i 0
  elsewhere i p q r s t u =
      get_or-set_other l₅ 0x3b i k 0 u ∙ get_or-set_other l₄ 0x3a i a 0 t ∙ get_or-set_other l₃ 0x36 i z 0 s ∙ get_or-set_other l₂ 0x35 i y 0 r
      ∙ get_or-set_other l₁ 0x34 i x 0 q ∙ get_or-set_other l 0x07 i c 0 p

  first_seven : take 7 l₆ ≡ take 7 l
  first_seven =
      take-set-le 7 l₅ 0x3b k (omega arith) ∙ take-set-le 7 l₄ 0x3a a (omega arith) ∙ take-set-le 7 l₃ 0x36 z (omega arith)
      ∙ take-set-le 7 l₂ 0x35 y (omega arith) ∙ take-set-le 7 l₁ 0x34 x (omega arith) ∙ take-set-le 7 l 0x07 c (omega arith)

  module _ (size : length l ≡ image_size) where
    at_crc : get_or l₆ 0x07 0 ≡ c
    at_crc =
        get_or-set_other l₅ 0x3b 0x07 k 0 (λ e. omega arith) ∙ get_or-set_other l₄ 0x3a 0x07 a 0 (λ e. omega arith)
        ∙ get_or-set_other l₃ 0x36 0x07 z 0 (λ e. omega arith) ∙ get_or-set_other l₂ 0x35 0x07 y 0 (λ e. omega arith)
        ∙ get_or-set_other l₁ 0x34 0x07 x 0 (λ e. omega arith) ∙ get_or-set_same l 0x07 c 0 (omega arith)

    at_34 : get_or l₆ 0x34 0 ≡ x
    at_34 =
        get_or-set_other l₅ 0x3b 0x34 k 0 (λ e. omega arith) ∙ get_or-set_other l₄ 0x3a 0x34 a 0 (λ e. omega arith)
        ∙ get_or-set_other l₃ 0x36 0x34 z 0 (λ e. omega arith) ∙ get_or-set_other l₂ 0x35 0x34 y 0 (λ e. omega arith)
        ∙ get_or-set_same l₁ 0x34 x 0 (simp length-set (omega arith))

    at_23 : get_or l₆ 0x35 0 ≡ y
    at_23 =
        get_or-set_other l₅ 0x3b 0x35 k 0 (λ e. omega arith) ∙ get_or-set_other l₄ 0x3a 0x35 a 0 (λ e. omega arith)
        ∙ get_or-set_other l₃ 0x36 0x35 z 0 (λ e. omega arith) ∙ get_or-set_same l₂ 0x35 y 0 (simp length-set (omega arith))

    at_12 : get_or l₆ 0x36 0 ≡ z
    at_12 =
        get_or-set_other l₅ 0x3b 0x36 k 0 (λ e. omega arith) ∙ get_or-set_other l₄ 0x3a 0x36 a 0 (λ e. omega arith)
        ∙ get_or-set_same l₃ 0x36 z 0 (simp length-set (omega arith))

    at_aging : get_or l₆ 0x3a 0 ≡ a
    at_aging = get_or-set_other l₅ 0x3b 0x3a k 0 (λ e. omega arith) ∙ get_or-set_same l₄ 0x3a a 0 (simp length-set (omega arith))

    at_locks : get_or l₆ 0x3b 0 ≡ k
    at_locks = get_or-set_same l₅ 0x3b k 0 (simp length-set (omega arith))

-- where each of them stands then; every other byte is as it was
record Stored (l m : List ℕ) (c x y z a k : ℕ) : Type 0 where
  crc : get_or m 0x07 0 ≡ c
  b34 : get_or m 0x34 0 ≡ x
  b23 : get_or m 0x35 0 ≡ y
  b12 : get_or m 0x36 0 ≡ z
  aging : get_or m 0x3a 0 ≡ a
  locks : get_or m 0x3b 0 ≡ k
  others : (i : ℕ) → i ≢ 0x07 → i ≢ 0x34 → i ≢ 0x35 → i ≢ 0x36 → i ≢ 0x3a → i ≢ 0x3b → get_or m i 0 ≡ get_or l i 0
  front : take 7 m ≡ take 7 l

stored : (l : List ℕ) (c x y z a k : ℕ) → length l ≡ image_size → Stored l (l₆ l c x y z a k) c x y z a k
stored l c x y z a k size = record {
  crc = at_crc l c x y z a k size;
  b34 = at_34 l c x y z a k size;
  b23 = at_23 l c x y z a k size;
  b12 = at_12 l c x y z a k size;
  aging = at_aging l c x y z a k size;
  locks = at_locks l c x y z a k size;
  others = elsewhere l c x y z a k;
  front = first_seven l c x y z a k;
}

-- bytes that stand there already change nothing
same_again : (l : List ℕ) {c x y z a k : ℕ} → c ≡ get_or l 0x07 0 → x ≡ get_or l 0x34 0 → y ≡ get_or l 0x35 0 → z ≡ get_or l 0x36 0 →
    a ≡ get_or l 0x3a 0 → k ≡ get_or l 0x3b 0
    → l₆ l c x y z a k ≡ l
same_again l p q r s t u = rw (p, q, r, s, t, u) (simp set-get_or)

-- ---- the mended image

-- a byte of block 1 stands in the image
block_at : (p : List ℕ) (i : ℕ) → i < 32 → get_or (image_block p) i 0 ≡ get_or p (24 + i) 0
block_at p i h = get_or-take 32 (drop 24 p) i 0 h ∙ get_or-drop 24 p i 0

-- the same bytes in a part are the same part
part_kept : (m l : List ℕ) (n i : ℕ) → length m ≡ length l → ((j : ℕ) → j < n → get_or m (i + j) 0 ≡ get_or l (i + j) 0) →
    part n m i ≡ part n l i
part_kept m l n i long same =
    ext_get_or 0 (part n m i) (part n l i) (simp (length-take, length-drop, long)) (λ j inside. let few : j < n = omega (arith, length-take n (drop i m)) in
    get_or-take n (drop i m) j 0 few ∙ get_or-drop i m j 0 ∙ same j few ∙ sym (get_or-drop i l j 0) ∙ sym (get_or-take n (drop i l) j 0 few))

module _ (image : List ℕ) (size : length image ≡ image_size) where
  abbrev m : List ℕ
  m = mended_of image

  abbrev b : Breaks
  b = mended_breaks image

  there : Stored image m (mended_crc image) (offset8_of b.b34) (offset8_of b.b23) (offset8_of b.b12) (mended_aging image) (mended_locks image)
  unfolding mended_of
  there = stored image (mended_crc image) (offset8_of b.b34) (offset8_of b.b23) (offset8_of b.b12) (mended_aging image) (mended_locks image) size

  long : length m ≡ image_size
  long = mended_length image ∙ size

  breaks_there : image_breaks m ≡ b
  breaks_there =
      let o = ascends (image_breaks image) in
      let x = ap offset8_of (block_at m 28 (omega arith) ∙ there.b34) ∙ back b.b34 (omega (arith, o.three)) in
      let y = ap offset8_of (block_at m 29 (omega arith) ∙ there.b23) ∙ back b.b23 (omega (arith, o.two, o.three)) in
      let z = ap offset8_of (block_at m 30 (omega arith) ∙ there.b12) ∙ back b.b12 (omega (arith, o.one, o.two, o.three)) in
      λ i. record { b34 = x i; b23 = y i; b12 = z i }

  -- ---- it is accepted

  addressed : get_or image 0 0 ≡ 0x3d → addressed_of Ds2781 (image_address m) ≡ true
  unfolding addressed_of
  addressed family =
      let first : get_or (take 8 m) 0 0
      ≡ 0x3d =
      get_or-take 8 m 0 0 (omega arith)
      ∙ there.others 0 (λ e. omega arith) (λ e. omega arith) (λ e. omega arith) (λ e. omega arith) (λ e. omega arith) (λ e. omega arith) ∙ family in
      let last : get_or (take 8 m) 7 0
      ≡ crc_of (take 7 (take 8 m)) = get_or-take 8 m 7 0 (omega arith) ∙ there.crc ∙ ap crc_of (sym (take-take 7 8 m (omega arith) ∙ there.front)) in
      rw (first, eq-eqb (get_or (take 8 m) 7 0) (crc_of (take 7 (take 8 m))) last) refl

  lockable : lockable_of m ≡ true
  lockable = le-leb (image_locks m) 3 (omega (arith, there.locks))

  ordered : ordered_of (image_breaks m) ≡ true
  ordered = ap ordered_of breaks_there ∙ ascending_ordered b (ascends (image_breaks image))

  judged : get_or image 0 0 ≡ 0x3d → judged_of m ≡ Ok (Image Ds2781)
  unfolding judged_among
  judged family = rw (eq-eqb (length m) image_size long, addressed family, lockable, ordered) refl

  taken : get_or image 0 0 ≡ 0x3d → taken_of 1 false m ≡ Ok (Image Ds2781)
  unfolding taken_of kind_of
  taken family = rw (eq-eqb (length m) image_size long) (judged family)

  -- ---- mended again it stays

  again : mended_of m ≡ m
  unfolding mended_of
  again =
      let settled : mended_breaks m ≡ b = ap (λ (x : Breaks). arranged_of (capped_of x)) breaks_there ∙ stays b (ascends (image_breaks image)) in
      same_again m
      (ap crc_of there.front ∙ sym there.crc)
      (ap (λ (x : Breaks). offset8_of x.b34) settled ∙ sym there.b34)
      (ap (λ (x : Breaks). offset8_of x.b23) settled ∙ sym there.b23)
      (ap (λ (x : Breaks). offset8_of x.b12) settled ∙ sym there.b12)
      (ap (moved_into 63 128) there.aging ∙ moved_again (image_aging image) ∙ sym there.aging)
      (ap (λ (n : ℕ). n % 4) there.locks ∙ cleared_again (image_locks image) ∙ sym there.locks)

  -- ---- what is kept

  kept_at : (i : ℕ) → (8 ≤ i) → (i < 0x34) → get_or m i 0 ≡ get_or image i 0
  kept_at i low high = there.others i (λ e. omega arith) (λ e. omega arith) (λ e. omega arith) (λ e. omega arith) (λ e. omega arith) (λ e. omega arith)

  kept_behind : (i : ℕ) → (0x37 ≤ i) → (i < 0x3a) → get_or m i 0 ≡ get_or image i 0
  kept_behind i low high =
      there.others i (λ e. omega arith) (λ e. omega arith) (λ e. omega arith) (λ e. omega arith) (λ e. omega arith) (λ e. omega arith)

  keeps : KeptBytes image m
  keeps = record {
    address = take-take 7 8 m (omega arith) ∙ there.front ∙ sym (take-take 7 8 image (omega arith));
    label = part_kept m image 16 8 (mended_length image) (λ j h. kept_at (8 + j) (omega arith) (omega arith));
    parameters =
        take-take 28 32 (drop 24 m) (omega arith) ∙ part_kept m image 28 24 (mended_length image) (λ j h. kept_at (24 + j) (omega arith) (omega arith))
        ∙ sym (take-take 28 32 (drop 24 image) (omega arith));
    last = block_at m 31 (omega arith) ∙ kept_behind 55 (omega arith) (omega arith) ∙ sym (block_at image 31 (omega arith));
    acr = rw (kept_behind 56 (omega arith) (omega arith), kept_behind 57 (omega arith) (omega arith)) refl;
    bl0 = ap (λ (n : ℕ). eqb (n % 2) 1) there.locks ∙ ap (λ (n : ℕ). eqb n 1) (bit_0 (image_locks image));
    bl1 = ap (λ (n : ℕ). eqb (n / 2 % 2) 1) there.locks ∙ ap (λ (n : ℕ). eqb n 1) (bit_1 (image_locks image));
    others = there.others;
  }

  -- ---- what stands in the six bytes that can change

  stands : MendedBytes image m
  stands = record {
    crc = there.crc;
    old = λ h. there.aging ∙ moved_up (image_aging image) h;
    young = λ h. there.aging ∙ moved_down (image_aging image) h;
    in_range = λ low high. there.aging ∙ moved_none (image_aging image) low high;
    locks = there.locks;
  }

  breaks_stand : MendedBreakpoints image m
  breaks_stand = record {
    breaks = breaks_there;
    ascending = subst (Arranged (capped_of (image_breaks image))) (sym breaks_there) (arranged (capped_of (image_breaks image)));
    tbp34 = there.b34 ∙ sym (ap (λ (x : Breaks). offset8_of x.b34) breaks_there);
    tbp23 = there.b23 ∙ sym (ap (λ (x : Breaks). offset8_of x.b23) breaks_there);
    tbp12 = there.b12 ∙ sym (ap (λ (x : Breaks). offset8_of x.b12) breaks_there);
  }

-- ---- an image that is sound already

module _ (image : List ℕ) (s : SoundImage image) where
  judge : (false ≡ false) × (judged_of image ≡ Ok (Image Ds2781)) × (length image ≡ image_size)
  judge = rw s.accepted at (plain_taking false image 1)

  tests : (t u v w : Bool) →
      pick t (pick u (pick v (pick w (Ok (Image Ds2781)) (Err refusal.Breaks)) (Err refusal.Locks)) (Err refusal.Address))
      (Err refusal.Size) ≡ Ok (Image Ds2781)
      → (u ≡ true) × (v ≡ true) × (w ≡ true)
  tests true true true true e = (refl, refl, refl)
  tests true true true false e = absurd cc
  tests true true false w e = absurd cc
  tests true false v w e = absurd cc
  tests false u v w e = absurd cc

  passed : (addressed_of Ds2781 (image_address image) ≡ true) × (lockable_of image ≡ true) × (ordered_of (image_breaks image) ≡ true)
  unfolding judged_among
  passed = tests (eqb (length image) image_size) (addressed_of Ds2781 (image_address image)) (lockable_of image) (ordered_of (image_breaks image)) judge.1

  sound_mendable : Mendable image
  unfolding addressed_of
  sound_mendable =
      let family = (both_true (eqb (get_or (take 8 image) 0 0) 0x3d) _ passed.0).0 in
      record { sized = judge.2; family = sym (get_or-take 8 image 0 0 (omega arith)) ∙ eqb-true (get_or (take 8 image) 0 0) 0x3d family }

  own_crc : mended_crc image ≡ get_or image 7 0
  unfolding addressed_of
  own_crc =
      let own = (both_true (eqb (get_or (take 8 image) 0 0) 0x3d) _ passed.0).1 in
      ap crc_of (sym (take-take 7 8 image (omega arith))) ∙ sym (eqb-true (get_or (take 8 image) 7 0) (crc_of (take 7 (take 8 image))) own)
      ∙ get_or-take 8 image 7 0 (omega arith)

  same_breaks : mended_breaks image ≡ image_breaks image
  same_breaks = stays (image_breaks image) (ascending_means (image_breaks image) passed.2)

  -- a breakpoint, as a byte again
  same_byte : (i : ℕ) → i < 32 → offset8_of (offset8_of (get_or (image_block image) i 0)) ≡ get_or image (24 + i) 0
  same_byte i h = ap (λ (x : ℕ). offset8_of (offset8_of x)) (block_at image i h) ∙ back (get_or image (24 + i) 0) (s.bytes (24 + i))

  same : mended_of image ≡ image
  unfolding mended_of
  same =
      same_again image own_crc
      (ap (λ (x : Breaks). offset8_of x.b34) same_breaks ∙ same_byte 28 (omega arith))
      (ap (λ (x : Breaks). offset8_of x.b23) same_breaks ∙ same_byte 29 (omega arith))
      (ap (λ (x : Breaks). offset8_of x.b12) same_breaks ∙ same_byte 30 (omega arith))
      (moved_none (image_aging image) s.old s.young)
      (cleared_none (image_locks image) (leb-true (image_locks image) 3 passed.1))

-- ---- no lines of an image that stays

none : (k : ℕ) (l : List ℕ) → changes_from k l l ≡ []
unfolding change_text
none k [] = refl
none k (x ∷ l) = rw (eq-eqb x x refl) (none (suc k) l)

quiet : (image : List ℕ) → mended_of image ≡ image → changes_of image ≡ []
unfolding changes_of
quiet image same = rw same (none 0 image)

-- ---- the theorems

pub accepted : AcceptedTheorem
accepted image g =
    let family : get_or image 0 0 ≡ 0x3d = g.family in
    (long image g.sized, taken image g.sized family)

pub unchanged : UnchangedTheorem
unchanged image s = (same image s, quiet image (same image s))

pub twice : TwiceTheorem
twice image g = let e = again image g.sized in (e, quiet (mended_of image) e)

pub kept : KeptTheorem
kept image size = (keeps image size, stands image size, breaks_stand image size)

by_done : (image room after : List ℕ) → Mending image room mend_done after → Mendable image × (take image_size after ≡ mended_of image)
by_done image room after w =
    let g = granted image (length room) (sym w.answer) in
    let front : after ≡ mended_of image ++ drop image_size room = rw (sym w.answer) at w.written in (
      record { sized = g.sized; family = g.family },
      ap (take image_size) front
          ∙ take_at (mended_of image) (drop image_size room) image_size (long image g.sized),
    )

pub by_call : ByCallTheorem
by_call = by_done

-- ---- the calls of `changes`

-- a line has nine bytes, or none
change_few : (offset old new : ℕ) → length (change_text offset old new) ≤ 9
unfolding change_text
change_few offset old new = picked (λ (s : List ℕ). length s ≤ 9) (eqb old new) [] (change_line offset old new) (λ e. omega arith) (λ e. omega arith)

changes_few : (k : ℕ) (olds news : List ℕ) → length (changes_from k olds news) ≤ 9 * length olds
changes_few k [] news = omega arith
changes_few k (old ∷ olds) [] = omega arith
changes_few k (old ∷ olds) (new ∷ news) =
    rw (length-append (change_text k old new) (changes_from (suc k) olds news)) (omega (arith, change_few k old new, changes_few (suc k) olds news))

lines_few : (image : List ℕ) → length image ≡ image_size → length (changes_of image) ≤ changes_size
unfolding changes_of
lines_few image size = omega (arith, changes_few 0 image (mended_of image), size)

-- an image that can be mended is, in a room that is large enough
mendable_done : (image : List ℕ) (room : ℕ) → Mendable image → image_size ≤ room → mending_answer image room ≡ mend_done
unfolding mending_answer
mendable_done image room g fits =
    rw (eq-eqb (length image) image_size g.sized, le-ltb room image_size fits, eq-eqb (get_or image 0 0) 0x3d g.family) refl

told_by : (image room after : List ℕ) (n : ℕ) (m : Mended) → mending_answer image image_size ≡ m → length room ≡ changes_size
    → Ok n ≡ listed_by m image → after ≡ lines_by m image room → LinesTold image room n after
told_by image room after n (Ok tt) is size said written =
    let g = granted image image_size is in
    let many : n ≡ length (changes_of image) = cc in
    let fits = lines_few image g.sized in
    let front : after ≡ changes_of image ++ drop (length (changes_of image)) room = written ∙ put_front room (changes_of image) (omega (arith, fits, size)) in
    record {
      mendable = record { sized = g.sized; family = g.family };
      many = many;
      lines = rw (front, many) (take_at (changes_of image) (drop (length (changes_of image)) room) (length (changes_of image)) refl);
      behind = rw (front, many) (drop_at (changes_of image) (drop (length (changes_of image)) room) (length (changes_of image)) refl);
    }
told_by image room after n (Err why) is size said written = absurd cc

refused_by : (image room after : List ℕ) (why : MendRefusal) (m : Mended) → mending_answer image image_size ≡ m
    → Err why ≡ listed_by m image → after ≡ lines_by m image room → (Mendable image → ⊥) × (after ≡ room)
refused_by image room after why (Ok tt) is said written = absurd cc
refused_by image room after why (Err w) is said written =
    (λ g. let e = sym (mendable_done image image_size g (omega arith)) ∙ is in absurd cc, written)

lines_told : LinesTheorem
lines_told image room after n size w = told_by image room after n (mending_answer image image_size) refl size w.answer w.written

no_lines : NoLinesTheorem
no_lines image room after why w = refused_by image room after why (mending_answer image image_size) refl w.answer w.written

lines_again : LinesAgainTheorem
lines_again image room after w lent last said l =
    let c = by_done image room after w in
    let d = accepted image c.0 in
    let kept-family : get_or (mended_of image) 0 0 ≡ 0x3d =
    (keeps image c.0.sized).others 0 (λ e. omega arith) (λ e. omega arith) (λ e. omega arith) (λ e. omega arith) (λ e. omega arith) (λ e. omega arith)
    ∙ c.0.family in
    let again-done : mending_answer (mended_of image) image_size ≡ mend_done =
    mendable_done (mended_of image) image_size (record { sized = d.0; family = kept-family }) (omega arith) in
    let none : changes_of (mended_of image) ≡ [] = (twice image c.0).1 in
    let v = rw c.1 at l in
    (v.answer ∙ rw (again-done, none) refl, v.written ∙ rw (again-done, none) refl)

sound_stays : StaysTheorem
sound_stays image s room said after fits w lent heard last l =
    let g = sound_mendable image s in
    let first-done = mendable_done image (length room) g fits in
    let listed-done = mendable_done image image_size g (omega arith) in
    let quiet-now = (unchanged image s).1 in
    let front : after ≡ mended_of image ++ drop image_size room = w.written ∙ ap (λ (m : Mended). mended_room m image room) first-done in
    record {
      done = w.answer ∙ first-done;
      same = ap (take image_size) front ∙ take_at (mended_of image) (drop image_size room) image_size (long image g.sized) ∙ (unchanged image s).0;
      none = l.answer ∙ rw (listed-done, quiet-now) refl;
      stays = l.written ∙ rw (listed-done, quiet-now) refl;
    }

pub listing : ListingTheorem
listing = record { told = lines_told; refused = no_lines; again = lines_again; stays = sound_stays }
