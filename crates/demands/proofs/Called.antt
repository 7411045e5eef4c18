-- Any session within the limits has a call, and so has each of its moments, of every run.
use mathlib.Core.Path.{◌≡◌, refl}
use mathlib.Core.Logic.{◌⊎◌, inl, inr}
use mathlib.Core.Bool.{Bool, true, false}
use mathlib.Core.List.{List, [], ◌∷◌, ◌++◌}
use Prim.Native.Nat.{ℕ, ◌+◌, ◌/◌, ◌≤◌, ◌<◌}
use borrow.Author.Tests.{ltb-true, ltb-false}
use lib.Dec.{ltb}
use native.Mathlib.Omega.{arith}
use lib.ListN.{length}
use Rattle.slices.specs.Slices.{put}
use Rattle.runs.specs.declared.Outcome.TheVariants.{Done}
use Rattle.runs.specs.Record.{Rec, whole, cut, recs_of, record_of}
use Rattle.runs.specs.Run.{Did, lines_after, end_after, replies_of, codes_of}
use Rattle.runs.proofs.Ends.{within_done}
use Rattle.demands.specs.Call.{Call, Within, first_of, Stopped, WithinOrOver, RunsExist}
use Rattle.demands.proofs.Moments.{first_length}

-- the bytes of records
abbrev pub packed : List Rec → List ℕ
packed [] = []
packed (whole kind p ∷ rs) = record_of kind p ++ packed rs
packed (cut ∷ rs) = []

module _ {S : Type 0} (did : S → ℕ → Rec → Did S) (start : S) where
  -- what the contract of a run says of any session that it runs
  abbrev pub called : List ℕ → List ℕ → List ℕ → Call S
  called s room answers = record {
    bytes = s;
    room = room;
    answers = answers;
    ran = record {
      outcome = Done;
      state = end_after did start (length room) (recs_of s);
      lines = length (lines_after did start (length room) (recs_of s));
      replied = length (replies_of (lines_after did start (length room) (recs_of s)));
    };
    replies = put room 0 (replies_of (lines_after did start (length room) (recs_of s)));
    told = put answers 0 (codes_of (lines_after did start (length room) (recs_of s)));
  }

  pub called_within : (s room answers : List ℕ) → length s ≤ 32768 → (length s + 3) / 4 ≤ length answers → Within did start (called s room answers)
  called_within s room answers short lent = record {
    allowed =
        rw (within_done (length s) short)
        (record { number = refl; outcome = refl; state = refl; lines = refl; replied = refl; replies = refl; answered = refl });
    short = short;
    lent = lent;
  }

  pub called_stopped : (n : ℕ) (c : Call S) → Within did start c → Stopped did start n c (called (first_of n c.bytes) c.room c.answers)
  called_stopped n c w =
      let e = first_length n c.bytes in
      record {
        allowed = (called_within (first_of n c.bytes) c.room c.answers (omega (arith, w.short)) (omega (arith, w.lent))).allowed;
        bytes = refl;
        room = refl;
        answers = refl;
      }

  -- each call that the contract allows is within, or over
  pub within_or_over : WithinOrOver did start
  within_or_over c allowed lent = by (ltb 32768 (length c.bytes)) refl
    where
      by : (over : Bool) → ltb 32768 (length c.bytes) ≡ over → Within did start c ⊎ (32768 < length c.bytes)
      by true e = inr (ltb-true 32768 (length c.bytes) e)
      by false e =
          let short = ltb-false 32768 (length c.bytes) e in
          inl (record { allowed = allowed; short = short; lent = omega (arith, short, lent) })

  pub runs_exist : RunsExist did start
  runs_exist = record {
    sessions = λ s room answers short lent.
        record { run = called s room answers; within = called_within s room answers short lent; bytes = refl; room' = refl; answers' = refl };
    moments = λ n c w. record { run = called (first_of n c.bytes) c.room c.answers; stopped = called_stopped n c w };
  }
