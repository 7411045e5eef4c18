-- What is printed of records that come read by read, of any state and of any `did`: each record with a reply room of its own, the lines of each read at
-- once, numbered on from read to read.
use Rattle.std.specs.Prelude.{◌≡◌, List, [], ◌∷◌, ◌++◌, ℕ, zero, suc, ◌+◌, ◌*◌, ◌≤◌, length}
use Rattle.slices.specs.Slices.{put}
use Rattle.streams.specs.declared.Said.{Said}
use Rattle.streams.specs.Streams.{Saying, output}
use Rattle.runs.specs.declared.Outcome.TheVariants.{Done}
use Rattle.runs.specs.Record.{Rec, recs_of}
use Rattle.runs.specs.Run.{Did, Line, lines_after, end_after, replies_of, codes_of}
use Rattle.runs.specs.Step.{own_room}
use Rattle.runs.specs.Divided.{wholes_in, left_over, wholes_span, input_of}
use Rattle.text.specs.Line.{line_text}
use Rattle.text.specs.Text.{header_text, lines_text, text_of}

-- of so many bytes that are left at the end of the input: they are of a record that is cut, which is answered 2
abbrev pub left_text : ℕ → ℕ → List ℕ
left_text number zero = []
left_text number (suc left) = line_text number 0 2 []

module _ {S : Type 0} (did : S → ℕ → Rec → Did S) where
  -- the lines of records from a state on, each with 256 bytes of reply room; and the state behind them
  abbrev pub live_lines : S → List Rec → List Line
  live_lines σ rs = lines_after (own_room 256 did) σ 256 rs

  abbrev pub live_end : S → List Rec → S
  live_end σ rs = end_after (own_room 256 did) σ 256 rs

  -- what a turn of at most so many records makes of some bytes: the lines of the whole records at their front. What the lent rooms hold then is said too
  pub record Turning (most : ℕ) (σ : S) (number : ℕ) (bytes room answers out : List ℕ) (after : S) (lines spent : ℕ) (said : Said)
      (replied told text : List ℕ) : Type 0 where
    pub state : after ≡ live_end σ (wholes_in most bytes)
    pub counted : lines ≡ length (wholes_in most bytes)
    pub used : spent ≡ wholes_span most bytes
    pub saying : Saying (output (lines_text number (live_lines σ (wholes_in most bytes)))) out said text
    pub replies : replied ≡ put room 0 (replies_of (live_lines σ (wholes_in most bytes)))
    pub answered : told ≡ put answers 0 (codes_of (live_lines σ (wholes_in most bytes)))

  -- what is printed turn by turn, and the state at the end: each read joins what was left before it
  abbrev pub printed_in : ℕ → S → ℕ → List ℕ → List (List ℕ) → List ℕ
  printed_in most σ number left [] = left_text number (length left)
  printed_in most σ number left (read ∷ reads) =
      lines_text number (live_lines σ (wholes_in most (left ++ read)))
      ++ printed_in most (live_end σ (wholes_in most (left ++ read))) (number + length (wholes_in most (left ++ read))) (left_over most (left ++ read)) reads

  abbrev pub end_in : ℕ → S → List ℕ → List (List ℕ) → S
  end_in most σ left [] = σ
  end_in most σ left (read ∷ reads) = end_in most (live_end σ (wholes_in most (left ++ read))) (left_over most (left ++ read)) reads

  -- no read brings more than four bytes for each record that a turn may answer
  abbrev pub ReadsWithin : ℕ → List (List ℕ) → Type 0
  ReadsWithin most [] = Unit
  ReadsWithin most (read ∷ reads) = (length read ≤ 4 * most) × ReadsWithin most reads

  -- however the input is divided into such reads, what is printed behind the header is the text of one run over the whole input, and the state at the
  -- end is that of this run
  pub record ReadByRead : Type 0 where
    pub text : (most : ℕ) (σ : S) (reads : List (List ℕ)) → ReadsWithin most reads →
        header_text ++ printed_in most σ 1 [] reads ≡ text_of Done (live_lines σ (recs_of (input_of reads)))
    pub end : (most : ℕ) (σ : S) (reads : List (List ℕ)) → ReadsWithin most reads → end_in most σ [] reads ≡ live_end σ (recs_of (input_of reads))

  -- cut anywhere and resumed, records have the lines of one run, numbered anew behind the cut, and its state at the end
  pub record Resumed : Type 0 where
    pub lines : (σ : S) (rs ts : List Rec) → live_lines σ (rs ++ ts) ≡ live_lines σ rs ++ live_lines (live_end σ rs) ts
    pub end : (σ : S) (rs ts : List Rec) → live_end σ (rs ++ ts) ≡ live_end (live_end σ rs) ts
