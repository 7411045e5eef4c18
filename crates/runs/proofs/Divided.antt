-- Input that comes read by read has the records of the whole, and a run that is carried on the lines of one.
use mathlib.Core.Path.{◌≡◌, refl, sym, ap, ◌∙◌}
use mathlib.Core.Bool.{Bool, true, false}
use mathlib.Core.List.{List, [], ◌∷◌, ◌++◌, append_assoc, append-nil}
use Prim.Native.Nat.{ℕ, zero, suc, ◌+◌, ◌*◌, ◌≤◌, ◌<◌}
use native.Mathlib.Omega.{arith}
use borrow.Author.Tests.{lt-ltb, le-ltb, le-leb, leb-true, leb-false}
use lib.Dec.{leb}
use lib.ListN.{length, take, drop, length-append, length-drop, get_or-append, take-append-drop}
use Rattle.numbers.specs.Choice.{pick}
use Rattle.slices.specs.Slices.{pair_at}
use Rattle.runs.specs.Record.{Rec, whole_of, rec_of, size_of, recs_of}
use Rattle.runs.specs.Run.{Did, Line, lines_after, end_after}
use Rattle.runs.specs.Step.{own_room}
use Rattle.runs.specs.Divided.{wholes_in, left_over, answered_in, input_of, Divided, CarriedOn}
use Rattle.runs.proofs.Records.{whole_end, size_whole, recs_whole}
use Rattle.runs.proofs.Steps.{step_by_step, own_lines, own_end}

-- ---- whole records first, then what is left

-- a whole record, whatever comes behind
first_whole : (l t : List ℕ) → whole_of l ≡ true → recs_of (l ++ t) ≡ rec_of l ∷ recs_of (drop (size_of l) l ++ t)
first_whole l t w =
    ap (λ (x : List ℕ). recs_of (x ++ t)) (sym (take-append-drop (size_of l) l))
    ∙ ap recs_of (append_assoc (take (size_of l) l) (drop (size_of l) l) t)
    ∙ recs_whole l (drop (size_of l) l ++ t) w

pub taken_first : (n : ℕ) (l t : List ℕ) → recs_of (l ++ t) ≡ wholes_in n l ++ recs_of (left_over n l ++ t)
taken_first zero l t = refl
taken_first (suc n) l t = by (whole_of l) refl (taken_first n (drop (size_of l) l) t)
  where
    by : (b : Bool) → whole_of l ≡ b
        → recs_of (drop (size_of l) l ++ t) ≡ wholes_in n (drop (size_of l) l) ++ recs_of (left_over n (drop (size_of l) l) ++ t)
        → recs_of (l ++ t)
        ≡ pick (whole_of l) (rec_of l ∷ wholes_in n (drop (size_of l) l)) [] ++ recs_of (pick (whole_of l) (left_over n (drop (size_of l) l)) l ++ t)
    by true w rest = rw w (first_whole l t w ∙ ap (λ (rs : List Rec). rec_of l ∷ rs) rest)
    by false w rest = rw w refl

read_by_read : (most : ℕ) (left : List ℕ) (reads : List (List ℕ)) → answered_in most left reads ≡ recs_of (left ++ input_of reads)
read_by_read most left [] = ap recs_of (sym (append-nil left))
read_by_read most left (read ∷ reads) =
    ap (λ (rs : List Rec). wholes_in most (left ++ read) ++ rs) (read_by_read most (left_over most (left ++ read)) reads)
    ∙ sym (taken_first most (left ++ read) (input_of reads))
    ∙ ap recs_of (append_assoc left read (input_of reads))

-- ---- a read leaves no whole record

short_cut : (l : List ℕ) → length l < 4 → whole_of l ≡ false
unfolding whole_of
short_cut l h = rw (lt-ltb (length l) 4 h) refl

-- each record takes four bytes at least
few_left : (n : ℕ) (l : List ℕ) → length l ≤ 4 * n + 3 → whole_of (left_over n l) ≡ false
few_left zero l h = short_cut l (omega arith)
few_left (suc n) l h = by (whole_of l) refl (λ k. few_left n (drop (size_of l) l) k)
  where
    by : (b : Bool) → whole_of l ≡ b → (length (drop (size_of l) l) ≤ 4 * n + 3 → whole_of (left_over n (drop (size_of l) l)) ≡ false)
        → whole_of (pick (whole_of l) (left_over n (drop (size_of l) l)) l) ≡ false
    by true w rest =
        let size = size_whole l (pair_at l 0) (pair_at l 2) w refl refl in
        rw w (rest (omega (arith, length-drop (size_of l) l, size)))
    by false w rest = rw w w

-- a record that is cut, completed by what comes behind, ends in that
module _ (left read : List ℕ) (cut : whole_of left ≡ false) (w : whole_of (left ++ read) ≡ true) where
  abbrev joint : List ℕ
  joint = left ++ read

  same_length : 4 ≤ length left → pair_at joint 0 ≡ pair_at left 0
  same_length h = omega (arith, get_or-append left read 0 0 (omega arith), get_or-append left read 0 1 (omega arith))

  not_within : 4 ≤ length left → 4 + pair_at left 0 ≤ length left → ⊥
  unfolding whole_of
  not_within h k =
      let z : ◌≡◌ {A = Bool} true false = sym (rw (le-ltb (length left) 4 h, le-leb (4 + pair_at left 0) (length left) k) refl) ∙ cut in
      let e : ◌≡◌ {A = ℕ} 0 1 = cc in
      omega arith

  ends_behind : length left < size_of joint
  ends_behind = by (leb (size_of joint) (length left)) refl
    where
      size : size_of joint ≡ 4 + pair_at joint 0
      size = size_whole joint (pair_at joint 0) (pair_at joint 2) w refl refl

      by : (b : Bool) → leb (size_of joint) (length left) ≡ b → length left < size_of joint
      by true e =
          let h = leb-true (size_of joint) (length left) e in
          let four : 4 ≤ length left = omega (arith, size) in
          absurd (not_within four (omega (arith, size, same_length four)))
      by false e = leb-false (size_of joint) (length left) e

completed : (most : ℕ) (left read : List ℕ) → whole_of left ≡ false → length read ≤ 4 * most → whole_of (left_over most (left ++ read)) ≡ false
completed zero left read cut h = by (whole_of (left ++ read)) refl
  where
    by : (b : Bool) → whole_of (left ++ read) ≡ b → whole_of (left ++ read) ≡ false
    by true w =
        let behind = ends_behind left read cut w in
        let size = size_whole (left ++ read) (pair_at (left ++ read) 0) (pair_at (left ++ read) 2) w refl refl in
        absurd (omega (arith, behind, size, whole_end (left ++ read) w, length-append left read))
    by false w = w
completed (suc n) left read cut h = by (whole_of (left ++ read)) refl
  where
    by : (b : Bool) → whole_of (left ++ read) ≡ b
        → whole_of (pick (whole_of (left ++ read)) (left_over n (drop (size_of (left ++ read)) (left ++ read))) (left ++ read)) ≡ false
    by true w =
        let behind = ends_behind left read cut w in
        let rest = length-drop (size_of (left ++ read)) (left ++ read) in
        rw w (few_left n (drop (size_of (left ++ read)) (left ++ read)) (omega (arith, behind, rest, length-append left read)))
    by false w = rw w w

pub divided : Divided
divided = record { records = λ most reads. read_by_read most [] reads; completed = completed }

-- ---- carried on

module _ {S : Type 0} (did : S → ℕ → Rec → Did S) (own : ℕ) where
  pub carried_on : CarriedOn did own
  carried_on = record {
    lines = λ σ rs ts.
        (step_by_step (own_room own did)).lines_cut σ own rs ts
        ∙ ap (λ (ls : List Line). lines_after (own_room own did) σ own rs ++ ls) (own_lines did own (end_after (own_room own did) σ own rs) _ own ts);
    end = λ σ rs ts.
        (step_by_step (own_room own did)).end_cut σ own rs ts ∙ own_end did own (end_after (own_room own did) σ own rs) _ own ts;
  }
