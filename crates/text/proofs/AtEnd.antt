-- What a program knows of the end of a run for which it lent 65,536 bytes of reply room: its outcome, and, where it was run, the state and the first
-- image that was refused; and what it says by them.
use mathlib.Core.Path.{◌≡◌, refl, sym, ap, ◌∙◌}
use mathlib.Core.List.{List}
use Prim.Native.Nat.{ℕ}
use native.Mathlib.Omega.{arith}
use lib.ListN.{length, take}
use Rattle.streams.specs.declared.Said.{Said}
use Rattle.streams.specs.Streams.{Speech, Saying}
use Rattle.runs.specs.declared.Outcome.{Outcome}
use Rattle.runs.specs.declared.Outcome.TheVariants.{Done, Over}
use Rattle.runs.specs.Record.{Rec, recs_of}
use Rattle.runs.specs.Run.{Did, Fits, lines_after, end_after, Result, outcome_of, RunsTo, Runs}
use Rattle.runs.proofs.Records.{Bytes}
use Rattle.runs.proofs.Lines.{lines_coded}
use Rattle.runs.proofs.Ends.{done_within}
use Rattle.text.specs.Text.{first_refused, first_coded, ran_speech}
use Rattle.text.proofs.Refused.{first_coded_lem}
use Rattle.text.proofs.Printed.{codes_told}

module _ {S : Type 0} (did : S → ℕ → Rec → Did S) (start : S) (s : List ℕ) (r : Result S) (told : List ℕ) where
  pub record AtEnd : Type 0 where
    pub outcome : outcome_of (length s) ≡ r.outcome
    pub state : r.outcome ≡ Done → end_after did start 65536 (recs_of s) ≡ r.state
    pub first : r.outcome ≡ Done → first_refused 1 (lines_after did start 65536 (recs_of s)) ≡ first_coded 1 (take r.lines told)

  module _ (replies answers after : List ℕ) where
    outcome : (o : Outcome) → RunsTo did start o s replies answers r after told → o ≡ r.outcome
    outcome Done run = sym run.outcome
    outcome Over idle = ap (λ (x : Result S). x.outcome) (sym idle.result)

    end : (o : Outcome) → o ≡ Done → RunsTo did start o s replies answers r after told → end_after did start (length replies) (recs_of s) ≡ r.state
    end Done e run = sym run.state
    end Over e idle = cc

    module _ (f : Fits did) (bytes : Bytes s) (few : 8192 ≡ length answers) where
      first_told : (o : Outcome) → outcome_of (length s) ≡ o → o ≡ Done → RunsTo did start o s replies answers r after told
          → first_refused 1 (lines_after did start (length replies) (recs_of s)) ≡ first_coded 1 (take r.lines told)
      first_told Done so e run =
          sym (ap (first_coded 1) (codes_told did start f s replies answers r after told bytes (omega (arith, done_within (length s) so)) run)
          ∙ first_coded_lem 1 (lines_after did start (length replies) (recs_of s)) (lines_coded did f start (length replies) s bytes))
      first_told Over so e idle = cc

      pub at_end : 65536 ≡ length replies → Runs did start s replies answers r after told → AtEnd
      at_end fits runs =
          let o = outcome (outcome_of (length s)) runs in
          record {
            outcome = o;
            state = λ e. rw fits (end (outcome_of (length s)) (o ∙ e) runs);
            first = λ e. rw fits (first_told (outcome_of (length s)) refl (o ∙ e) runs);
          }

-- what is said of a session that was run, by its end and the first image that was refused; and of one that was not
module _ {S : Type 0} (did : S → ℕ → Rec → Did S) (start : S) (speech : S → List ℕ → Speech) (s told : List ℕ) where
  abbrev said_of : Outcome → Speech
  said_of o = ran_speech o (speech (end_after did start 65536 (recs_of s)) (first_refused 1 (lines_after did start 65536 (recs_of s))))

  module _ {r : Result S} (h : AtEnd did start s r told) {room out : List ℕ} {x : Said} where
    pub done_said : r.outcome ≡ Done → Saying (speech r.state (first_coded 1 (take r.lines told))) room x out
        → Saying (said_of (outcome_of (length s))) room x out
    done_said e w = rw (h.outcome ∙ e, h.state e, h.first e) w

    pub idle_said : (o : Outcome) → r.outcome ≡ o → Saying (said_of o) room x out → Saying (said_of (outcome_of (length s))) room x out
    idle_said o e w = rw (h.outcome ∙ e) w
