-- What is printed turn by turn is the text of one run; and a turn's text, from what a run over its records hands back.
use mathlib.Core.Path.{◌≡◌, refl, sym, ap, subst, ◌∙◌}
use mathlib.Core.Bool.{Bool, true, false}
use mathlib.Core.List.{List, [], ◌∷◌, ◌++◌, append_assoc, append-nil}
use Prim.Native.Nat.{ℕ, zero, suc, ◌+◌, ◌*◌, ◌≤◌, ◌<◌, min}
use native.Mathlib.Nat.{add-zero, zero-add}
use native.Mathlib.Omega.{arith}
use borrow.Author.Tests.{ltb-true, ltb-false}
use lib.Dec.{ltb}
use lib.ListN.{length, get_or, take, drop, length-take, drop_of_length-le, get_or-eq_default}
use lib.Seq.{get_or-take}
use Rattle.numbers.proofs.Bounds.{times}
use Rattle.slices.specs.Slices.{put}
use Rattle.slices.proofs.Laws.{put_length}
use Rattle.digits.specs.Digits.{Writing}
use Rattle.streams.specs.declared.Stream.TheVariants.{Output}
use Rattle.runs.specs.Record.{Rec, cut, whole_of, size_of, recs_of}
use Rattle.runs.specs.Run.{Did, Fits, silently, Line, line_of, lines_after, end_after, codes_of, replies_of, Result, Running}
use Rattle.runs.specs.Divided.{wholes_in, left_over, wholes_span, input_of}
use Rattle.runs.proofs.Records.{Bytes, recs_cons, rec_cut, size_cut}
use Rattle.runs.proofs.Lines.{AllCoded, lines_length, lines_coded, lines_fit}
use Rattle.runs.proofs.Steps.{roomy_lines, roomy_end}
use Rattle.runs.proofs.Divided.{taken_first, divided, carried_on}
use Rattle.runs.proofs.Wholes.{span_within, span_records, wholes_few}
use Rattle.text.specs.Line.{line_text}
use Rattle.text.specs.Text.{header_text, lines_text, codes_text}
use Rattle.text.specs.Live.{left_text, live_lines, live_end, Turning, printed_in, end_in, ReadsWithin, ReadByRead, Resumed}
use Rattle.text.proofs.Lines.{codes_lines}
use Rattle.text.proofs.Printed.{codes_length, front}

-- lines behind lines
lines_append : (n : ℕ) (ls ms : List Line) → lines_text n (ls ++ ms) ≡ lines_text n ls ++ lines_text (n + length ls) ms
lines_append n [] ms = ap (λ (k : ℕ). lines_text k ms) (sym (add-zero n))
lines_append n (l ∷ ls) ms =
    let line = line_text n l.kind l.answer l.reply in
    let number : n + 1 + length ls ≡ n + suc (length ls) = omega arith in
    ap (λ (t : List ℕ). line ++ t) (lines_append (n + 1) ls ms ∙ ap (λ (k : ℕ). lines_text (n + 1) ls ++ lines_text k ms) number)
    ∙ sym (append_assoc line (lines_text (n + 1) ls) (lines_text (n + suc (length ls)) ms))

-- what is left where no whole record stands: nothing, or one that is cut
left_records : (x : ℕ) (xs : List ℕ) → whole_of (x ∷ xs) ≡ false → recs_of (x ∷ xs) ≡ cut ∷ []
left_records x xs w =
    let l = x ∷ xs in
    let none : drop (size_of l) l ≡ [] = drop_of_length-le l {i = size_of l} (omega (arith, size_cut l w)) in
    recs_cons l (omega arith) ∙ (λ i. rec_cut l w i ∷ recs_of (none i))

module _ {S : Type 0} (did : S → ℕ → Rec → Did S) (idle : (σ : S) (room : ℕ) → did σ room cut ≡ silently σ 2) where
  -- it is answered 2, and leaves the state
  cut_told : (σ : S) (number : ℕ) (left : List ℕ) → whole_of left ≡ false → left_text number (length left) ≡ lines_text number (live_lines did σ (recs_of left))
  cut_told σ number [] w = refl
  cut_told σ number (x ∷ xs) w =
      sym (
      ap (λ (rs : List Rec). lines_text number (live_lines did σ rs)) (left_records x xs w)
      ∙ ap (λ (d : Did S). lines_text number (line_of cut d ∷ [])) (idle σ 256)
      ∙ append-nil (line_text number 0 2 [])
      )

  cut_left : (σ : S) (left : List ℕ) → whole_of left ≡ false → σ ≡ live_end did σ (recs_of left)
  cut_left σ [] w = refl
  cut_left σ (x ∷ xs) w = sym (ap (live_end did σ) (left_records x xs w) ∙ ap (λ (d : Did S). d.state) (idle σ 256))

  text_on : (most : ℕ) (σ : S) (number : ℕ) (left : List ℕ) (reads : List (List ℕ)) → whole_of left ≡ false → ReadsWithin did most reads
      → printed_in did most σ number left reads ≡ lines_text number (live_lines did σ (recs_of (left ++ input_of reads)))
  text_on most σ number left [] w h = rw (append-nil left) (cut_told σ number left w)
  text_on most σ number left (read ∷ reads) w h =
      let rs = wholes_in most (left ++ read) in
      let behind = left_over most (left ++ read) in
      let on = text_on most (live_end did σ rs) (number + length rs) behind reads (divided.completed most left read w h.0) h.1 in
      let ts = recs_of (behind ++ input_of reads) in
      let count = lines_length (λ (τ : S) (left : ℕ) (r : Rec). did τ 256 r) σ 256 rs in
      ap (λ (t : List ℕ). lines_text number (live_lines did σ rs) ++ t)
      (on ∙ ap (λ (k : ℕ). lines_text (number + k) (live_lines did (live_end did σ rs) ts)) (sym count))
      ∙ sym (lines_append number (live_lines did σ rs) (live_lines did (live_end did σ rs) ts))
      ∙ ap (lines_text number) (sym ((carried_on did 256).lines σ rs ts))
      ∙ ap (λ (us : List Rec). lines_text number (live_lines did σ us)) (sym (taken_first most (left ++ read) (input_of reads)))
      ∙ ap (λ (s : List ℕ). lines_text number (live_lines did σ (recs_of s))) (append_assoc left read (input_of reads))

  end_on : (most : ℕ) (σ : S) (left : List ℕ) (reads : List (List ℕ)) → whole_of left ≡ false → ReadsWithin did most reads
      → end_in did most σ left reads ≡ live_end did σ (recs_of (left ++ input_of reads))
  end_on most σ left [] w h = rw (append-nil left) (cut_left σ left w)
  end_on most σ left (read ∷ reads) w h =
      let rs = wholes_in most (left ++ read) in
      let behind = left_over most (left ++ read) in
      end_on most (live_end did σ rs) behind reads (divided.completed most left read w h.0) h.1
      ∙ sym ((carried_on did 256).end σ rs (recs_of (behind ++ input_of reads)))
      ∙ ap (live_end did σ) (sym (taken_first most (left ++ read) (input_of reads)))
      ∙ ap (λ (s : List ℕ). live_end did σ (recs_of s)) (append_assoc left read (input_of reads))

  nothing_whole : whole_of [] ≡ false
  unfolding whole_of
  nothing_whole = refl

  pub read_by_read : ReadByRead did
  read_by_read = record {
    text = λ most σ reads h. ap (λ (t : List ℕ). header_text ++ t) (text_on most σ 1 [] reads nothing_whole h);
    end = λ most σ reads h. end_on most σ [] reads nothing_whole h;
  }

pub resumed : {S : Type 0} (did : S → ℕ → Rec → Did S) → Resumed did
resumed did = record { lines = (carried_on did 256).lines; end = (carried_on did 256).end }

-- ---- a turn

bytes_first : (n : ℕ) (l : List ℕ) → Bytes l → Bytes (take n l)
bytes_first n l h i = by (ltb i n) refl
  where
    by : (b : Bool) → ltb i n ≡ b → get_or (take n l) i 0 < 256
    by true e = omega (arith, get_or-take n l i 0 (ltb-true i n e), h i)
    by false e =
        let none = get_or-eq_default (take n l) 0 {n = i} (omega (arith, length-take n l, ltb-false i n e)) in
        omega (arith, none)

-- the bytes of the records of a turn
module _ (most : ℕ) (bytes : List ℕ) {used : ℕ} (span : used ≡ wholes_span most bytes) where
  pub span_short : used ≤ length bytes
  span_short = subst (λ (k : ℕ). k ≤ length bytes) (sym span) (span_within most bytes)

  pub span_few : length (recs_of (take used bytes)) ≤ most
  span_few = subst (λ (k : ℕ). length (recs_of (take k bytes)) ≤ most) (sym span) (omega (arith, ap length (span_records most bytes), wholes_few most bytes))

module _ {S : Type 0} (did : S → ℕ → Rec → Did S) (f : Fits did) (same : (σ : S) (room : ℕ) (r : Rec) → 256 ≤ room → did σ room r ≡ did σ 256 r)
    (most : ℕ) {σ : S} (bytes : List ℕ) {room answers : List ℕ} {used : ℕ} {r : Result S} {after told : List ℕ} (span : used ≡ wholes_span most bytes)
    (run : Running did σ (take used bytes) room answers r after told) (roomy : 256 * most ≤ length room) (enough : most ≤ length answers) where
  records : recs_of (take used bytes) ≡ (wholes_in most bytes)
  records = ap (λ (k : ℕ). recs_of (take k bytes)) span ∙ span_records most bytes

  room_for : 256 * length (wholes_in most bytes) ≤ length room
  room_for = omega (arith, times 256 (length (wholes_in most bytes)) 256 most (omega arith) (wholes_few most bytes))

  lines_same : lines_after did σ (length room) (recs_of (take used bytes)) ≡ live_lines did σ (wholes_in most bytes)
  lines_same =
      ap (lines_after did σ (length room)) records ∙ roomy_lines did 256 same (λ τ x. f.reply τ 256 x) σ (length room) 256 (wholes_in most bytes) room_for

  pub lines_told : r.lines ≡ length (wholes_in most bytes)
  lines_told = run.lines ∙ ap length lines_same ∙ lines_length (λ (τ : S) (left : ℕ) (x : Rec). did τ 256 x) σ 256 (wholes_in most bytes)

  pub lines_within : r.lines ≤ length answers
  lines_within = omega (arith, lines_told, wholes_few most bytes)

  -- the lent rooms keep their lengths, and hold what is told
  pub told_within : r.lines ≤ length told
  told_within =
      let ls = lines_after did σ (length room) (recs_of (take used bytes)) in
      omega (arith, lines_within, ap length run.answered ∙ put_length answers 0 (codes_of ls))

  codes_told : take r.lines told ≡ codes_of (live_lines did σ (wholes_in most bytes))
  codes_told =
      let codes = codes_of (live_lines did σ (wholes_in most bytes)) in
      let Told-here = run.answered ∙ ap (λ (ls : List Line). put answers 0 (codes_of ls)) lines_same in
      let size = codes_length (live_lines did σ (wholes_in most bytes)) in
      let count : r.lines ≡ length codes = run.lines ∙ ap length lines_same ∙ sym size in
      rw Told-here (front answers codes r.lines count (omega (arith, count, lines_within)))

  pub replied_within : r.replied ≤ length room
  replied_within = omega (arith, run.replied, lines_fit did f σ (length room) (recs_of (take used bytes)))

  pub after_within : r.replied ≤ length after
  after_within =
      let ls = lines_after did σ (length room) (recs_of (take used bytes)) in
      omega (arith, replied_within, ap length run.replies ∙ put_length room 0 (replies_of ls))

  replies_told : take r.replied after ≡ replies_of (live_lines did σ (wholes_in most bytes))
  replies_told =
      let replies = replies_of (live_lines did σ (wholes_in most bytes)) in
      let here = run.replies ∙ ap (λ (ls : List Line). put room 0 (replies_of ls)) lines_same in
      let count : r.replied ≡ length replies = run.replied ∙ ap (λ (ls : List Line). length (replies_of ls)) lines_same in
      rw here (front room replies r.replied count (omega (arith, count, replied_within)))

  module _ (valid : Bytes bytes) (number : ℕ) {most-text count : ℕ} {out text : List ℕ}
      (put-text : Writing most-text (codes_text number (take r.lines told) (take r.replied after)) out 0 count text) where
    coded : AllCoded (live_lines did σ (wholes_in most bytes))
    coded = subst AllCoded lines_same (lines_coded did f σ (length room) (take used bytes) (bytes_first used bytes valid))

    text_told : codes_text number (take r.lines told) (take r.replied after) ≡ lines_text number (live_lines did σ (wholes_in most bytes))
    text_told =
        let ls = live_lines did σ (wholes_in most bytes) in
        rw (codes_told, replies_told, ← append-nil (replies_of ls)) (codes_lines number ls [] coded)

    pub turned : Turning did most σ number bytes room answers out r.state r.lines used (record { stream = Output; count = count }) after told text
    turned =
        let w = rw text_told at put-text in
        record {
          state = run.state ∙ ap (end_after did σ (length room)) records
              ∙ roomy_end did 256 same (λ τ x. f.reply τ 256 x) σ (length room) 256 (wholes_in most bytes) room_for;
          counted = lines_told;
          used = span;
          saying = record { stream = refl; counted = w.onward ∙ zero-add _; written = w.written };
          replies = run.replies ∙ ap (λ (ls : List Line). put room 0 (replies_of ls)) lines_same;
          answered = run.answered ∙ ap (λ (ls : List Line). put answers 0 (codes_of ls)) lines_same;
        }

-- ---- what is left at the end of the input

-- the code 131072 is that of the kind 0 and the answer 2
pub cut_coded : (number left few : ℕ) → few ≡ min left 1 → codes_text number (take few (131072 ∷ [])) [] ≡ left_text number left
cut_coded number zero few e =
    let none : few ≡ 0 = omega arith in
    rw none refl
cut_coded number (suc left) few e =
    let one : few ≡ 1 = omega arith in
    rw one (append-nil (line_text number 0 2 []))
