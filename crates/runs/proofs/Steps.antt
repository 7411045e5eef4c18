-- A run is its steps one after another, of any state.
use mathlib.Core.Path.{◌≡◌, refl, sym, ap, ◌∙◌}
use mathlib.Core.List.{List, [], ◌∷◌, ◌++◌, append_assoc, append-nil}
use Prim.Native.Nat.{ℕ, ◌-◌, ◌*◌, ◌≤◌}
use native.Mathlib.Omega.{arith}
use lib.ListN.{length, length-append}
use Rattle.runs.specs.Record.{Rec}
use Rattle.runs.specs.Run.{Did, Line, line_of, lines_after, end_after, replies_of}
use Rattle.runs.specs.Step.{steps_over, left_after, StepByStep, own_room}

module _ {S : Type 0} (did : S → ℕ → Rec → Did S) where
  -- what was left, less what the rest replied
  left_more : (room : ℕ) (reply : List ℕ) (rest : List Line) → room - length reply - length (replies_of rest) ≡ room - length (reply ++ replies_of rest)
  left_more room reply rest = omega (arith, length-append reply (replies_of rest))

  lines_cut : (σ : S) (room : ℕ) (rs ts : List Rec) →
      lines_after did σ room (rs ++ ts) ≡ lines_after did σ room rs ++ lines_after did (end_after did σ room rs) (left_after did σ room rs) ts
  lines_cut σ room [] ts = let e : room ≡ room - 0 = omega arith in ap (λ (n : ℕ). lines_after did σ n ts) e
  lines_cut σ room (r ∷ rs) ts =
      let d = did σ room r in
      let rest = lines_after did d.state (room - length d.reply) rs in
      ap (λ (ls : List Line). line_of r d ∷ ls)
      (lines_cut d.state (room - length d.reply) rs ts
      ∙ ap (λ (n : ℕ). rest ++ lines_after did (end_after did d.state (room - length d.reply) rs) n ts) (left_more room d.reply rest))

  end_cut : (σ : S) (room : ℕ) (rs ts : List Rec) →
      end_after did σ room (rs ++ ts) ≡ end_after did (end_after did σ room rs) (left_after did σ room rs) ts
  end_cut σ room [] ts = let e : room ≡ room - 0 = omega arith in ap (λ (n : ℕ). end_after did σ n ts) e
  end_cut σ room (r ∷ rs) ts =
      let d = did σ room r in
      let rest = lines_after did d.state (room - length d.reply) rs in
      end_cut d.state (room - length d.reply) rs ts
      ∙ ap (λ (n : ℕ). end_after did (end_after did d.state (room - length d.reply) rs) n ts) (left_more room d.reply rest)

  -- from any lines on
  steps_on : (σ : S) (room : ℕ) (before : List Line) (rs : List Rec) →
      steps_over did (record { state = σ; left = room; lines = before }) rs
      ≡ record { state = end_after did σ room rs; left = left_after did σ room rs; lines = before ++ lines_after did σ room rs }
  steps_on σ room before [] =
      let e : room ≡ room - 0 = omega arith in
      λ i. record { state = σ; left = e i; lines = sym (append-nil before) i }
  steps_on σ room before (r ∷ rs) =
      let d = did σ room r in
      let left = room - length d.reply in
      let rest = lines_after did d.state left rs in
      let n = left_more room d.reply rest in
      let ls = append_assoc before (line_of r d ∷ []) rest in
      steps_on d.state left (before ++ (line_of r d ∷ [])) rs
      ∙ (λ i. record { state = end_after did d.state left rs; left = n i; lines = ls i })

  pub step_by_step : StepByStep did
  step_by_step = record { steps = λ σ room rs. steps_on σ room [] rs; lines_cut = lines_cut; end_cut = end_cut }

-- ---- with a room of its own each record does what it does, whatever is left

module _ {S : Type 0} (did : S → ℕ → Rec → Did S) (own : ℕ) where
  pub own_lines : (σ : S) (m n : ℕ) (rs : List Rec) → lines_after (own_room own did) σ m rs ≡ lines_after (own_room own did) σ n rs
  own_lines σ m n [] = refl
  own_lines σ m n (r ∷ rs) = ap (λ (ls : List Line). line_of r (did σ own r) ∷ ls) (own_lines (did σ own r).state _ _ rs)

  pub own_end : (σ : S) (m n : ℕ) (rs : List Rec) → end_after (own_room own did) σ m rs ≡ end_after (own_room own did) σ n rs
  own_end σ m n [] = refl
  own_end σ m n (r ∷ rs) = own_end (did σ own r).state _ _ rs

  -- and so does a run with room enough for all of them, where no record asks more than its own
  module _ (same : (σ : S) (room : ℕ) (r : Rec) → own ≤ room → did σ room r ≡ did σ own r)
      (few : (σ : S) (r : Rec) → length (did σ own r).reply ≤ own) where
    pub roomy_lines : (σ : S) (room left : ℕ) (rs : List Rec) → own * length rs ≤ room → lines_after did σ room rs ≡ lines_after (own_room own did) σ left rs
    roomy_lines σ room left [] h = refl
    roomy_lines σ room left (r ∷ rs) h =
        let e = same σ room r (omega arith) in
        rw e
        (ap (λ (ls : List Line). line_of r (did σ own r) ∷ ls)
        (roomy_lines (did σ own r).state (room - length (did σ own r).reply) _ rs (omega (arith, few σ r))))

    pub roomy_end : (σ : S) (room left : ℕ) (rs : List Rec) → own * length rs ≤ room → end_after did σ room rs ≡ end_after (own_room own did) σ left rs
    roomy_end σ room left [] h = refl
    roomy_end σ room left (r ∷ rs) h =
        let e = same σ room r (omega arith) in
        rw e (roomy_end (did σ own r).state (room - length (did σ own r).reply) _ rs (omega (arith, few σ r)))
