-- What follows of the definitions, for the proofs of this crate and of those above it.
use mathlib.Core.Path.{◌≡◌, refl, sym, ap, ◌∙◌}
use mathlib.Core.Bool.{Bool, true, false}
use Rattle.std.specs.Prelude.{Ok, Err}
use mathlib.Core.List.{List, [], ◌∷◌, ◌++◌, append-nil, append_assoc}
use Prim.Native.Nat.{ℕ, zero, suc, ◌+◌, ◌*◌, ◌≤◌, ◌<◌}
use native.Mathlib.Nat.{zero-add, add-zero, add-suc, suc-add}
use native.Mathlib.Numerals.{add-one}
use native.Mathlib.Omega.{arith}
use borrow.Author.Tests.{eqb-true, ltb-false}
use lib.Dec.{eqb, ltb}
use lib.ListN.{length, get_or, take, drop, set, length-set}
use lib.Seq.{take_all}
use Rattle.numbers.specs.Choice.{pick}
use Rattle.numbers.specs.Offset.{offset8_of}
use Rattle.slices.specs.Slices.{part, put}
use Rattle.slices.proofs.Laws.{put_front}
use Rattle.digits.specs.declared.Page.{Page}
use Rattle.digits.specs.Digits.{Writing, Appends}
use Rattle.digits.proofs.Laws.{then, wider}
use Rattle.params.specs.declared.Breaks.{Breaks}
use Rattle.record.specs.Image.{image_size}
use Rattle.mending.specs.declared.MendRefusal.TheVariants.{Size, Family}
use Rattle.mending.specs.Mending.{mend_done, mended_crc, mended_aging, mended_locks, mended_breaks, mended_of, change_text}
use Rattle.mending.specs.Mending.{changes_from, changes_of, changes_size, mending_answer, Listing}

-- ---- the answer

-- an image is mended where it has its size and the room does, and its family is right
pub record Granted (image : List ℕ) (room : ℕ) : Type 0 where
  pub sized : length image ≡ image_size
  pub fits : image_size ≤ room
  pub family : get_or image 0 0 ≡ 0x3d

tests : (a b c : Bool) → pick a (pick b (Err Size) (pick c mend_done (Err Family))) (Err Size) ≡ mend_done →
    (a ≡ true) × (b ≡ false) × (c ≡ true)
tests true true c e = absurd cc
tests true false true e = (refl, refl, refl)
tests true false false e = absurd cc
tests false b c e = absurd cc

pub granted : (image : List ℕ) (room : ℕ) → mending_answer image room ≡ mend_done → Granted image room
unfolding mending_answer
granted image room is =
    let held = tests (eqb (length image) image_size) (ltb room image_size) (eqb (get_or image 0 0) 0x3d) is in
    record {
      sized = eqb-true (length image) image_size held.0;
      fits = ltb-false room image_size held.1;
      family = eqb-true (get_or image 0 0) 0x3d held.2;
    }

-- ---- the image

-- the bytes that mending changes, one after the other over a copy of the image
pub mended_laid : {copy : List ℕ} {b : Breaks} {check x y z aging : ℕ} (image : List ℕ) → length image ≡ image_size → copy ≡ part image_size image 0
    → check ≡ mended_crc image → b ≡ mended_breaks image → x ≡ offset8_of b.b34 → y ≡ offset8_of b.b23 → z ≡ offset8_of b.b12 →
    aging ≡ mended_aging image
    → set (set (set (set (set (set copy 7 check) 52 x) 53 y) 54 z) 58 aging) 59 (mended_locks image) ≡ mended_of image
unfolding mended_of
mended_laid image size copied crc breaks one two three age =
    rw (copied, crc, one, two, three, breaks, age, take_all image_size image (omega arith)) refl

pub mended_length : (image : List ℕ) → length (mended_of image) ≡ length image
unfolding mended_of
mended_length image = simp length-set

-- and all of it over the front of a room
pub mended_put : {m after : List ℕ} (image room : List ℕ) → length image ≡ 60 → 60 ≤ length room → m ≡ mended_of image → after ≡ put room 0 m
    → after ≡ mended_of image ++ drop 60 room
mended_put image room size fits is put =
    let long : length (mended_of image) ≡ 60 = mended_length image ∙ size in
    put ∙ rw is (put_front room (mended_of image) (omega arith) ∙ ap (λ (n : ℕ). mended_of image ++ drop n room) long)

-- ---- the lines

-- one byte more
pub changes_more : (k : ℕ) (olds news : List ℕ) (i : ℕ) → i < length olds → length olds ≡ length news
    → changes_from k (take i olds) (take i news) ++ change_text (k + i) (get_or olds i 0) (get_or news i 0)
    ≡ changes_from k (take (suc i) olds) (take (suc i) news)
changes_more k [] news i h e = absurd (omega arith)
changes_more k (old ∷ olds) [] i h e = absurd (omega arith)
changes_more k (old ∷ olds) (new ∷ news) zero h e = rw add-zero (sym (append-nil (change_text k old new)))
changes_more k (old ∷ olds) (new ∷ news) (suc i) h e =
    append_assoc (change_text k old new) (changes_from (suc k) (take i olds) (take i news)) (change_text (k + suc i) (get_or olds i 0) (get_or news i 0))
    ∙ ap (λ (r : List ℕ). change_text k old new ++ r)
    (rw (add-suc k i, ← suc-add k i) (changes_more (suc k) olds news i (omega arith) (omega arith)))

-- the lines so far stand in the room, and that of one byte more behind them
pub changes_then : {p q r : Page} (olds news : List ℕ) (i : ℕ) → i < length olds → length olds ≡ length news
    → Appends (9 * i) (changes_from 0 (take i olds) (take i news)) p q
    → Appends 9 (change_text i (get_or olds i 0) (get_or news i 0)) q r
    → Appends (9 * (i + 1)) (changes_from 0 (take (i + 1) olds) (take (i + 1) news)) p r
changes_then olds news i h e w v =
    let z : 0 + i ≡ i = omega arith in
    let more = rw z at (changes_more 0 olds news i h e) in
    rw (add-one i, ← more) (wider (then w v) (omega arith))

-- none is left
pub changes_all : {p q : Page} (olds news : List ℕ) (i : ℕ) → length olds ≤ i → i ≤ 60 → length olds ≡ length news
    → Appends (9 * i) (changes_from 0 (take i olds) (take i news)) p q → Appends changes_size (changes_from 0 olds news) p q
changes_all olds news i h few e w = wider (rw (take_all i olds h, take_all i news (omega arith)) at w) (omega arith)

-- all of them, in a room for as many as there may be
pub listed : {m room after : List ℕ} {next : ℕ} (image : List ℕ) → mending_answer image image_size ≡ mend_done → m ≡ mended_of image
    → Writing changes_size (changes_from 0 image m) room 0 next after → Listing image room (Ok next) after
unfolding changes_of
listed image answer is w =
    record { number = rw answer; answer = rw answer (ap Ok (rw is at w.onward ∙ zero-add _)); written = rw answer (rw is at w.written) }
