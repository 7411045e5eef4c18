-- What `report` writes of what a run hands back is the text of its lines.
use mathlib.Core.Path.{◌≡◌, refl, sym, ap, ◌∙◌}
use mathlib.Core.Bool.{Bool}
use mathlib.Core.List.{List, [], ◌∷◌, ◌++◌, append-nil}
use Prim.Native.Nat.{ℕ, suc, ◌+◌, ◌/◌, ◌≤◌, ◌<◌}
use native.Mathlib.Omega.{arith}
use borrow.Author.Tests.{le-leb}
use lib.ListN.{length, take, length-take}
use Rattle.slices.specs.Slices.{put}
use Rattle.slices.proofs.Laws.{put_length, put_read}
use Rattle.streams.specs.Streams.{Speech, output}
use Rattle.streams.specs.Work.{AlikeFrom}
use Rattle.gauge.specs.declared.Gauge.{Gauge}
use Rattle.runs.specs.declared.Outcome.{Outcome}
use Rattle.runs.specs.declared.Outcome.TheVariants.{Done, Over}
use Rattle.runs.specs.Record.{Rec, recs_of}
use Rattle.runs.specs.Run.{Did, Fits, Line, lines_after, codes_of, replies_of, Result, outcome_of, Running, RunsTo, Runs}
use Rattle.runs.proofs.Records.{Bytes}
use Rattle.runs.proofs.Lines.{lines_coded, lines_few, lines_fit}
use Rattle.runs.proofs.Ends.{done_within, over_over}
use Rattle.text.specs.Text.{header_text, over_text, coded_text, text_of, run_text, most_of, fits_of, report_of, Reporting, ran_speech, unrun_speech}
use Rattle.text.specs.Session.{session_lines, session_speech, out_speech}
use Rattle.text.proofs.Lines.{codes_lines}

-- as many numbers as lines
pub codes_length : (ls : List Line) → length (codes_of ls) ≡ length ls
codes_length [] = refl
codes_length (l ∷ ls) = ap suc (codes_length ls)

-- what was put at the front is taken out again
pub front : (l vs : List ℕ) (n : ℕ) → n ≡ length vs → length vs ≤ length l → take n (put l 0 vs) ≡ vs
front l vs n e h = rw e (put_read l 0 vs (omega arith))

module _ {S : Type 0} (did : S → ℕ → Rec → Did S) (start : S) (f : Fits did) (s room answers : List ℕ) (r : Result S) (after told : List ℕ) where
  abbrev lines : ℕ → List Line
  lines m = lines_after did start m (recs_of s)

  -- the lent answers and the lent room keep their lengths
  pub sized : (o : Outcome) → RunsTo did start o s room answers r after told → (length told ≡ length answers) × (length after ≡ length room)
  sized Done run =
      let ls = lines (length room) in
      (ap length run.answered ∙ put_length answers 0 (codes_of ls), ap length run.replies ∙ put_length room 0 (replies_of ls))
  sized Over idle = (ap length idle.answered, ap length idle.replies)

  module _ (bytes : Bytes s) where
    -- as many of the answers as there are lines
    pub codes_told : (length s + 3) / 4 ≤ length answers → Running did start s room answers r after told
        → take r.lines told ≡ codes_of (lines (length room))
    codes_told h run =
        let ls = lines (length room) in
        let few : length (codes_of ls) ≤ length answers = omega (arith, codes_length ls, lines_few did start (length room) s) in
        rw run.answered (front answers (codes_of ls) r.lines (run.lines ∙ sym (codes_length ls)) few)

    told_done : (length s + 3) / 4 ≤ length answers → Running did start s room answers r after told
        → coded_text r.outcome (take r.lines told) (take r.replied after) ≡ text_of Done (lines (length room))
    told_done h run =
        let ls = lines (length room) in
        let replies : take r.replied after
        ≡ replies_of ls = rw run.replies (front room (replies_of ls) r.replied run.replied (lines_fit did f start (length room) (recs_of s))) in
        rw (run.outcome, codes_told h run, replies, ← append-nil (replies_of ls))
        (ap (λ (t : List ℕ). header_text ++ t) (codes_lines 1 ls [] (lines_coded did f start (length room) s bytes)))

    told_text : (o : Outcome) → outcome_of (length s) ≡ o → 8192 ≡ length answers → RunsTo did start o s room answers r after told
        → coded_text r.outcome (take r.lines told) (take r.replied after) ≡ text_of o (lines (length room))
    told_text Done e lent run = told_done (omega (arith, done_within (length s) e)) run
    told_text Over e lent idle = rw idle.result

    reported_text : (n : ℕ) → 8192 ≡ length answers → Runs did start s room answers r after told → most_of (length answers) (length room) ≤ n
        → report_of r.outcome (take r.lines told) (take r.replied after) n ≡ text_of (outcome_of (length s)) (lines (length room))
    unfolding report_of fits_of
    reported_text n few runs fits =
        let lent = sized (outcome_of (length s)) runs in
        let codes : length (take r.lines told) ≤ length answers = omega (arith, length-take r.lines told, lent.0) in
        let replies : length (take r.replied after) ≤ length room = omega (arith, length-take r.replied after, lent.1) in
        let numbered : length (take r.lines told) ≤ 99999 = omega arith in
        let all : most_of (length (take r.lines told)) (length (take r.replied after)) ≤ n = omega arith in
        rw (le-leb _ _ numbered, le-leb _ _ all) (told_text (outcome_of (length s)) refl few runs)

    -- so what `report` writes of a run for which a program lent 8,192 answers and 65,536 bytes of reply room is the text of the session
    pub session_text_lem : {before out : List ℕ} {count : ℕ} → 8192 ≡ length answers → 65536 ≡ length room →
        Runs did start s room answers r after told
        → most_of 8192 65536 ≤ length before
        → Reporting (report_of r.outcome (take r.lines told) (take r.replied after) (length before)) before count out
        → Reporting (text_of (outcome_of (length s)) (lines 65536)) before count out
    session_text_lem {before} e f runs fits written =
        rw (f, ← reported_text (length before) e runs (omega arith)) written

-- the text of a session that is over 32,768 bytes does not depend on its bytes
pub over_alike : (lines : List ℕ → ℕ → List Line) (s : List ℕ) → 32768 < length s → run_text lines s ≡ header_text ++ over_text
unfolding run_text
over_alike lines s h = rw (over_over (length s) h)

pub session_alike : {S : Type 0} (did : S → ℕ → Rec → Did S) (start : S) → AlikeFrom 32769 (session_speech did start)
session_alike did start s s' long long' =
    ap output (over_alike (session_lines did start) s long ∙ sym (over_alike (session_lines did start) s' long'))

-- nor does what is said of it
over_said : (s : List ℕ) (said : Speech) → 32768 < length s → ran_speech (outcome_of (length s)) said ≡ unrun_speech Over
over_said s said h = rw (over_over (length s) h) refl

pub out_alike : {S : Type 0} (did : S → ℕ → Rec → Did S) (start : S) (held : S → Bool) (gauge : S → Gauge) (words : List ℕ)
    → AlikeFrom 32769 (out_speech did start held gauge words)
out_alike did start held gauge words s s' long long' = over_said s _ long ∙ sym (over_said s' _ long')
