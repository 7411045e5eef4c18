-- The bytes of the whole records at the front: these records are theirs, and the rest is what is left.
use mathlib.Core.Path.{◌≡◌, refl, sym, ap, ◌∙◌}
use mathlib.Core.Bool.{Bool, true, false}
use mathlib.Core.List.{List, [], ◌∷◌, ◌++◌, append_assoc, append-nil}
use Prim.Native.Nat.{ℕ, zero, suc, ◌+◌, ◌-◌, ◌≤◌, ◌<◌}
use native.Mathlib.Omega.{arith}
use lib.ListN.{length, take, drop, length-drop}
use lib.Seq.{take-add, drop-drop}
use Rattle.numbers.specs.Choice.{pick}
use Rattle.slices.specs.Slices.{part, pair_at}
use Rattle.slices.proofs.Laws.{part_rest}
use Rattle.runs.specs.Record.{Rec, whole_of, rec_of, size_of, recs_of}
use Rattle.runs.specs.Divided.{wholes_in, left_over, wholes_span}
use Rattle.runs.proofs.Records.{whole_end, size_whole, recs_whole}

-- a whole record takes four bytes at least, and no more than there are
whole_size : (l : List ℕ) → whole_of l ≡ true → (4 ≤ size_of l) × (size_of l ≤ length l)
whole_size l w =
    let size = size_whole l (pair_at l 0) (pair_at l 2) w refl refl in
    (omega (arith, size), omega (arith, size, whole_end l w))

pub span_within : (n : ℕ) (l : List ℕ) → wholes_span n l ≤ length l
span_within zero l = omega arith
span_within (suc n) l = by (whole_of l) refl (span_within n (drop (size_of l) l))
  where
    by : (b : Bool) → whole_of l ≡ b → wholes_span n (drop (size_of l) l) ≤ length (drop (size_of l) l)
        → pick (whole_of l) (size_of l + wholes_span n (drop (size_of l) l)) 0 ≤ length l
    by true w rest = rw w (omega (arith, rest, length-drop (size_of l) l, (whole_size l w).1))
    by false w rest = rw w (omega arith)

pub span_left : (n : ℕ) (l : List ℕ) → drop (wholes_span n l) l ≡ left_over n l
span_left zero l = refl
span_left (suc n) l = by (whole_of l) refl (span_left n (drop (size_of l) l))
  where
    by : (b : Bool) → whole_of l ≡ b → drop (wholes_span n (drop (size_of l) l)) (drop (size_of l) l) ≡ left_over n (drop (size_of l) l)
        → drop (pick (whole_of l) (size_of l + wholes_span n (drop (size_of l) l)) 0) l ≡ pick (whole_of l) (left_over n (drop (size_of l) l)) l
    by true w rest = rw w (sym (drop-drop (wholes_span n (drop (size_of l) l)) (size_of l) l) ∙ rest)
    by false w rest = rw w refl

-- they are the records of so many bytes, whatever comes behind
span_first : (n : ℕ) (l t : List ℕ) → recs_of (take (wholes_span n l) l ++ t) ≡ wholes_in n l ++ recs_of t
span_first zero l t = refl
span_first (suc n) l t = by (whole_of l) refl (span_first n (drop (size_of l) l) t)
  where
    by : (b : Bool) → whole_of l ≡ b → recs_of (take (wholes_span n (drop (size_of l) l)) (drop (size_of l) l) ++ t) ≡
        wholes_in n (drop (size_of l) l) ++ recs_of t
        → recs_of (take (pick (whole_of l) (size_of l + wholes_span n (drop (size_of l) l)) 0) l ++ t)
        ≡ pick (whole_of l) (rec_of l ∷ wholes_in n (drop (size_of l) l)) [] ++ recs_of t
    by true w rest =
        let k = wholes_span n (drop (size_of l) l) in
        rw (w, take-add (size_of l) k l, append_assoc (take (size_of l) l) (take k (drop (size_of l) l)) t)
        (recs_whole l (take k (drop (size_of l) l) ++ t) w ∙ ap (λ (rs : List Rec). rec_of l ∷ rs) rest)
    by false w rest = rw w refl

pub span_records : (n : ℕ) (l : List ℕ) → recs_of (take (wholes_span n l) l) ≡ wholes_in n l
span_records n l = ap recs_of (sym (append-nil (take (wholes_span n l) l))) ∙ span_first n l [] ∙ append-nil (wholes_in n l)

pub wholes_few : (n : ℕ) (l : List ℕ) → length (wholes_in n l) ≤ n
wholes_few zero l = omega arith
wholes_few (suc n) l = by (whole_of l) refl (wholes_few n (drop (size_of l) l))
  where
    by : (b : Bool) → whole_of l ≡ b → length (wholes_in n (drop (size_of l) l)) ≤ n
        → length (pick (whole_of l) (rec_of l ∷ wholes_in n (drop (size_of l) l)) []) ≤ suc n
    by true w rest = rw w (omega arith)
    by false w rest = rw w (omega arith)

-- ---- the loop of `span`: what is behind it and what is still ahead make the whole

pub record Spanning (most : ℕ) (l : List ℕ) (n at : ℕ) : Type 0 where
  pub within : at ≤ length l
  pub few : n ≤ most
  pub whole : at + wholes_span (most - n) (drop at l) ≡ wholes_span most l

pub spanning : (most : ℕ) (l : List ℕ) → Spanning most l 0 0
spanning most l =
    let all : most - 0 ≡ most = omega arith in
    record { within = omega arith; few = omega arith; whole = omega (arith, ap (λ (k : ℕ). wholes_span k l) all) }

span_whole : (n : ℕ) (l : List ℕ) → whole_of l ≡ true → wholes_span (suc n) l ≡ size_of l + wholes_span n (drop (size_of l) l)
span_whole n l w = rw w refl

span_none : (n : ℕ) (l : List ℕ) → whole_of l ≡ false → wholes_span (suc n) l ≡ 0
span_none n l w = rw w refl

module _ {most : ℕ} {l : List ℕ} {n at : ℕ} (s : Spanning most l n at) where
  -- what is left, as the code lends it
  abbrev rest : List ℕ
  rest = part (length l - at) l at

  ahead_of : n < most → wholes_span (most - n) (drop at l) ≡ wholes_span (suc (most - (n + 1))) rest
  ahead_of h =
      let left : most - n ≡ suc (most - (n + 1)) = omega arith in
      ap (λ (k : ℕ). wholes_span k (drop at l)) left ∙ ap (wholes_span (suc (most - (n + 1)))) (sym (part_rest l at))

  pub span_more : {k : ℕ} → n < most → whole_of rest ≡ true → k ≡ pair_at rest 0 → Spanning most l (n + 1) (at + (4 + k))
  span_more {k} h w e =
      let ahead = part_rest l at in
      let size : size_of rest ≡ 4 + k = size_whole rest k (pair_at rest 2) w e refl in
      let next = ahead_of h ∙ span_whole (most - (n + 1)) rest w in
      let behind : drop (size_of rest) rest ≡ drop (at + (4 + k)) l =
      ap (drop (size_of rest)) ahead ∙ drop-drop (size_of rest) at l ∙ ap (λ (m : ℕ). drop (at + m) l) size in
      record {
        within = omega (arith, (whole_size rest w).1, size, ap length ahead, length-drop at l, s.within);
        few = omega arith;
        whole = omega (arith, s.whole, next, size, ap (wholes_span (most - (n + 1))) behind);
      }

  pub span_cut : n < most → whole_of rest ≡ false → at ≡ wholes_span most l
  span_cut h w = omega (arith, s.whole, ahead_of h ∙ span_none (most - (n + 1)) rest w)

  pub span_full : most ≤ n → at ≡ wholes_span most l
  span_full h =
      let left : most - n ≡ 0 = omega (arith, s.few) in
      omega (arith, s.whole, ap (λ (k : ℕ). wholes_span k (drop at l)) left)
