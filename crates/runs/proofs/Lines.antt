-- What the lines of a run are like: how many they are, how long the replies, their kinds and answers.
use mathlib.Core.Path.{◌≡◌, refl, ap}
use mathlib.Core.List.{List, [], ◌∷◌}
use Prim.Native.Nat.{ℕ, zero, suc, ◌+◌, ◌-◌, ◌/◌, ◌≤◌, ◌<◌}
use native.Mathlib.Omega.{arith}
use lib.ListN.{length, length-append}
use Rattle.runs.specs.Record.{Rec, rec_of, recs_from, recs_of}
use Rattle.runs.specs.Run.{Did, Fits, Line, lines_after, replies_of}
use Rattle.runs.proofs.Records.{Bytes, rec_narrow, recs_few}

-- what a line's number holds whole
pub record Coded (l : Line) : Type 0 where
  pub narrow : l.kind < 65536
  pub small : l.answer < 256

abbrev pub AllCoded : List Line → Type 0
AllCoded [] = Unit
AllCoded (l ∷ ls) = Coded l × AllCoded ls

module _ {S : Type 0} (did : S → ℕ → Rec → Did S) where
  pub lines_length : (σ : S) (room : ℕ) (rs : List Rec) → length (lines_after did σ room rs) ≡ length rs
  lines_length σ room [] = refl
  lines_length σ room (r ∷ rs) = ap suc (lines_length (did σ room r).state (room - length (did σ room r).reply) rs)

  pub lines_few : (σ : S) (room : ℕ) (s : List ℕ) → length (lines_after did σ room (recs_of s)) ≤ (length s + 3) / 4
  lines_few σ room s = omega (arith, lines_length σ room (recs_of s), recs_few 0 s)

  module _ (f : Fits did) where
    lines_narrow : (k : ℕ) (l : List ℕ) (σ : S) (room : ℕ) → Bytes l → AllCoded (lines_after did σ room (recs_from k l))
    lines_narrow k [] σ room h = tt
    lines_narrow zero (x ∷ xs) σ room h = (
      record { narrow = rec_narrow (x ∷ xs) h; small = f.answer σ room (rec_of (x ∷ xs)) },
      lines_narrow _ xs _ _ (λ i. h (suc i)),
    )
    lines_narrow (suc k) (x ∷ xs) σ room h = lines_narrow k xs σ room (λ i. h (suc i))

    pub lines_coded : (σ : S) (room : ℕ) (s : List ℕ) → Bytes s → AllCoded (lines_after did σ room (recs_of s))
    lines_coded σ room s h = lines_narrow 0 s σ room h

    pub lines_fit : (σ : S) (room : ℕ) (rs : List Rec) → length (replies_of (lines_after did σ room rs)) ≤ room
    lines_fit σ room [] = omega arith
    lines_fit σ room (r ∷ rs) =
        let d = did σ room r in
        let rest = lines_after did d.state (room - length d.reply) rs in
        omega (arith, length-append d.reply (replies_of rest), f.reply σ room r, lines_fit d.state (room - length d.reply) rs)
