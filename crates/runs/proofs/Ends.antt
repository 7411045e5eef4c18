-- How a session ends, and that the promise of a run leaves no choice.
use mathlib.Core.Path.{◌≡◌, refl, sym, ap, ◌∙◌}
use mathlib.Core.Bool.{Bool, true, false}
use mathlib.Core.List.{List}
use Prim.Native.Nat.{ℕ, ◌≤◌, ◌<◌}
use native.Mathlib.Omega.{arith}
use borrow.Author.Tests.{ltb-false, le-ltb, lt-ltb}
use lib.Dec.{ltb}
use Rattle.numbers.specs.Choice.{pick}
use Rattle.runs.specs.declared.Outcome.{Outcome}
use Rattle.runs.specs.declared.Outcome.TheVariants.{Done, Over}
use Rattle.runs.specs.declared.Ran.{Ran}
use Rattle.runs.specs.Record.{Rec}
use Rattle.runs.specs.Run.{Did, Result, result_of, outcome_of, Idle, RunsTo}

-- ---- how a session ends

done_not_over : (over : Bool) → pick over Over Done ≡ Done → over ≡ false
done_not_over true e = let z : ◌≡◌ {A = ℕ} 0 1 = cc in absurd (omega arith)
done_not_over false e = refl

module _ (bytes : ℕ) where
  pub done_within : outcome_of bytes ≡ Done → bytes ≤ 32768
  unfolding outcome_of
  done_within e = ltb-false 32768 bytes (done_not_over (ltb 32768 bytes) e)

  pub within_done : bytes ≤ 32768 → outcome_of bytes ≡ Done
  unfolding outcome_of
  within_done within = rw (le-ltb 32768 bytes within) refl

  pub over_over : 32768 < bytes → outcome_of bytes ≡ Over
  unfolding outcome_of
  over_over over = rw (lt-ltb 32768 bytes over) refl

-- ---- any two results that the promise of a run allows are equal

module _ {S : Type 0} (did : S → ℕ → Rec → Did S) (start : S) (s room answers : List ℕ) (r r' : Result S)
    (after after' told told' : List ℕ) where
  idle_same : {o : Outcome} → Idle start o room answers r after told → Idle start o room answers r' after' told'
      → (r ≡ r') × (after ≡ after') × (told ≡ told')
  idle_same h k = (h.result ∙ sym k.result, h.replies ∙ sym k.replies, h.answered ∙ sym k.answered)

  pub runs_same : (o : Outcome) → RunsTo did start o s room answers r after told → RunsTo did start o s room answers r' after' told'
      → (r ≡ r') × (after ≡ after') × (told ≡ told')
  runs_same Done h k =
      let o = h.outcome ∙ sym k.outcome in
      let σ = h.state ∙ sym k.state in
      let l = h.lines ∙ sym k.lines in
      let n = h.replied ∙ sym k.replied in
      (λ i. record { outcome = o i; state = σ i; lines = l i; replied = n i }, h.replies ∙ sym k.replies, h.answered ∙ sym k.answered)
  runs_same Over h k = idle_same h k

-- and what the code hands back is as equal
ran_of : {S : Type 0} → Result S → Ran S
ran_of r = record { state = r.state; ended = record { outcome = r.outcome; lines = r.lines; replied = r.replied } }

pub ran_same : {S : Type 0} (r r' : Ran S) → result_of r ≡ result_of r' → r ≡ r'
unfolding ran_of
ran_same r r' e = ap ran_of e
