-- What follows of what was read, and of what is said.
use mathlib.Core.Path.{◌≡◌, refl, sym, ap, ◌∙◌}
use mathlib.Core.Bool.{Bool, true, false}
use mathlib.Core.List.{List, [], ◌++◌}
use Prim.Native.Nat.{ℕ, ◌+◌, ◌≤◌, ◌<◌}
use native.Mathlib.Omega.{arith}
use borrow.Author.Tests.{ltb-true, ltb-false, leb-true, leb-false}
use lib.Dec.{ltb, leb}
use lib.ListN.{length, take, drop, length-take}
use lib.Seq.{take_all}
use Rattle.std.specs.Prelude.{Result, Ok, Err, IfOk}
use Rattle.slices.specs.Slices.{put}
use Rattle.slices.proofs.Laws.{put_front, put_length}
use Rattle.streams.specs.declared.Said.{Said}
use Rattle.streams.specs.Streams.{Front, CountWithin, Speech, Saying}
use Rattle.streams.specs.Work.{AlikeFrom}

-- ---- what was read

-- the bytes of a count, and of a count within the room, are the same
pub cut : {count n : ℕ} {room : List ℕ} → CountWithin count room n → take n room ≡ take count room
cut {count} {n} {room} h = by (leb count (length room)) refl
  where
    by : (b : Bool) → leb count (length room) ≡ b → take n room ≡ take count room
    by true e = let same : n ≡ count = omega (arith, h.least, leb-true count (length room) e) in rw same
    by false e =
        let all : length room ≤ n = omega (arith, h.least, leb-false count (length room) e) in
        let over : length room ≤ count = omega (arith, leb-false count (length room) e) in
        take_all n room all ∙ sym (take_all count room over)

-- what stands at the front of a room may have been all of the input
pub own : (room : List ℕ) (n : ℕ) → Front (take n room) room n
own room n = record { same = take_all (length room) (take n room) (omega (arith, length-take n room)) }

-- an input that may have been read so
abbrev pub read_of : {E : Type 0} → List ℕ → Result ℕ E → List ℕ
read_of room (Ok count) = take count room
read_of room (Err why) = []

pub own_read : {E : Type 0} (room : List ℕ) (got : Result ℕ E) → IfOk got (Front (read_of room got) room)
own_read room (Ok count) = own room count
own_read room (Err why) = tt

-- Where an input that fills the room may as well be any other that does, what is made of the bytes that were read is made of the whole input.
pub read_same : {A : Type 0} {f : List ℕ → A} {s room : List ℕ} {count n : ℕ} → AlikeFrom (length room) f → CountWithin count room n
    → Front s room count → f (take n room) ≡ f s
read_same {A} {f} {s} {room} {count} {n} alike h front = by (leb (length room) (length s)) refl
  where
    read : take n room ≡ take (length room) s
    read = cut h ∙ sym front.same

    by : (b : Bool) → leb (length room) (length s) ≡ b → f (take n room) ≡ f s
    by true e =
        let long : length room ≤ length s = leb-true (length room) (length s) e in
        alike (take n room) s (omega (arith, ap length read, length-take (length room) s)) long
    by false e = ap f (read ∙ take_all (length room) s (omega (arith, leb-false (length room) (length s) e)))

-- ---- two ways to say the same are one

module _ {what : Speech} {before : List ℕ} {x y : Said} {after after' : List ℕ} (h : Saying what before x after)
    (h' : Saying what before y after') where
  pub same_said : x ≡ y
  same_said = λ i. record { stream = (h.stream ∙ sym h'.stream) i; count = (h.counted ∙ sym h'.counted) i }

  pub same_room : after ≡ after'
  same_room = h.written ∙ sym h'.written

-- ---- what stands in the room

-- so many bytes at its front, and what stood behind them
pub front_put : (room text : List ℕ) {n : ℕ} → length text ≡ n → n ≤ length room → put room 0 text ≡ text ++ drop n room
front_put room text long fits = put_front room text (omega (arith, long)) ∙ ap (λ (k : ℕ). text ++ drop k room) long

-- what is said leaves the room its length
pub said_sized : {what : Speech} {room after : List ℕ} {r : Said} → Saying what room r after → length room ≡ length after
said_sized {what} {room} w = sym (ap length w.written ∙ put_length room 0 what.text)
