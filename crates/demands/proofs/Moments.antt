-- Laws of a session and of its moments, of every run.
use mathlib.Core.Path.{◌≡◌, refl, sym, ap, ◌∙◌}
use mathlib.Core.Bool.{Bool, true, false}
use mathlib.Core.List.{List, [], ◌∷◌, ◌++◌, append_assoc, append-nil, map, zip, zip_with}
use Prim.Native.Nat.{ℕ, zero, suc, ◌-◌, ◌≤◌, ◌<◌, zero-le}
use native.Mathlib.Omega.{arith}
use lib.ListN.{length, take, drop, length-append, length-take, length-drop, drop_of_length-le}
use lib.Seq.{take-nil, drop-nil, take-length}
use Rattle.runs.specs.Record.{Rec, whole_of, rec_of, size_of, recs_of}
use Rattle.runs.specs.Run.{Did, Line, line_of, lines_after, end_after, replies_of, codes_of, code_of, Running}
use Rattle.runs.proofs.Records.{recs_cons, recs_whole, size_cut}
use Rattle.runs.proofs.Ends.{within_done}
use Rattle.demands.specs.Call.{Call, Within, Told, first_of, Stopped}
use Rattle.demands.proofs.Choice.{contrary}

-- Replies and answers of some lines first, then others

pub replies_append : (ls ms : List Line) → replies_of (ls ++ ms) ≡ replies_of ls ++ replies_of ms
replies_append [] ms = refl
replies_append (l ∷ ls) ms =
    ap (λ (x : List ℕ). l.reply ++ x) (replies_append ls ms) ∙ sym (append_assoc l.reply (replies_of ls) (replies_of ms))

pub codes_append : (ls ms : List Line) → codes_of (ls ++ ms) ≡ codes_of ls ++ codes_of ms
codes_append [] ms = refl
codes_append (l ∷ ls) ms = ap (λ (x : List ℕ). code_of l.kind l.answer (length l.reply) ∷ x) (codes_append ls ms)

pub codes_length : (ls : List Line) → length (codes_of ls) ≡ length ls
codes_length [] = refl
codes_length (l ∷ ls) = ap suc (codes_length ls)

-- The bytes of the first records

first_nil : (n : ℕ) → first_of n [] ≡ []
first_nil zero = refl
first_nil (suc n) = rw (take-nil (size_of []), drop-nil (size_of [])) (first_nil n)

module _ (n : ℕ) (s : List ℕ) (some : 0 < length s) where
  unroll : take (suc n) (recs_of s) ≡ rec_of s ∷ take n (recs_of (drop (size_of s) s))
  unroll = ap (take (suc n)) (recs_cons s some)

  recs_more : recs_of (first_of n (drop (size_of s) s)) ≡ take n (recs_of (drop (size_of s) s)) → (b : Bool) → whole_of s ≡ b
      → recs_of (first_of (suc n) s) ≡ take (suc n) (recs_of s)
  recs_more h true w = recs_whole s (first_of n (drop (size_of s) s)) w ∙ ap (λ (l : List Rec). rec_of s ∷ l) h ∙ sym unroll
  recs_more h false w =
      let size : size_of s ≡ length s = size_cut s w in
      let rest : drop (size_of s) s ≡ [] = drop_of_length-le s {i = size_of s} (omega arith) in
      let same : first_of (suc n) s ≡ s = rw (rest, first_nil n, append-nil, size) (take-length s) in
      let last : recs_of (drop (size_of s) s) ≡ take n (recs_of (drop (size_of s) s)) = rw (rest, take-nil n) refl in
      ap recs_of same ∙ recs_cons s some ∙ ap (λ (l : List Rec). rec_of s ∷ l) last ∙ sym unroll

pub recs_first : (n : ℕ) (s : List ℕ) → recs_of (first_of n s) ≡ take n (recs_of s)
recs_first zero s = refl
recs_first (suc n) [] = ap recs_of (first_nil (suc n))
recs_first (suc n) (x ∷ xs) =
    recs_more n (x ∷ xs) (omega arith) (recs_first n (drop (size_of (x ∷ xs)) (x ∷ xs))) (whole_of (x ∷ xs)) refl

pub first_length : (n : ℕ) (s : List ℕ) → length (first_of n s) ≤ length s
first_length zero s = zero-le
first_length (suc n) s =
    let k = size_of s in
    omega (arith, length-append (take k s) (first_of n (drop k s)), length-take k s, first_length n (drop k s), length-drop k s)

-- the pairs of records and lines leave out no record and no line
record Zipped (rs : List Rec) (ls : List Line) : Type 0 where
  records : map (λ e. e.0) (zip rs ls) ≡ rs
  lines : map (λ e. e.1) (zip rs ls) ≡ ls

module _ {S : Type 0} (did : S → ℕ → Rec → Did S) where
  -- The room that records leave

  abbrev pub left_of : S → ℕ → List Rec → ℕ
  left_of σ room rs = room - length (replies_of (lines_after did σ room rs))

  pub left_cons : (σ : S) (room : ℕ) (r : Rec) (rs : List Rec)
      → left_of (did σ room r).state (room - length (did σ room r).reply) rs ≡ left_of σ room (r ∷ rs)
  left_cons σ room r rs =
      let d = did σ room r in
      omega (arith, length-append d.reply (replies_of (lines_after did d.state (room - length d.reply) rs)))

  -- Some records first, then others

  pub lines_append : (σ : S) (room : ℕ) (rs qs : List Rec)
      → lines_after did σ room (rs ++ qs) ≡ lines_after did σ room rs ++ lines_after did (end_after did σ room rs) (left_of σ room rs) qs
  lines_append σ room [] qs =
      let e : room ≡ room - 0 = omega arith in
      ap (λ (n : ℕ). lines_after did σ n qs) e
  lines_append σ room (r ∷ rs) qs =
      let d = did σ room r in
      ap (λ (ls : List Line). line_of r d ∷ ls)
      (lines_append d.state (room - length d.reply) rs qs
      ∙ ap (λ (n : ℕ). lines_after did d.state (room - length d.reply) rs ++ lines_after did (end_after did σ room (r ∷ rs)) n qs)
      (left_cons σ room r rs))

  pub end_append : (σ : S) (room : ℕ) (rs qs : List Rec)
      → end_after did σ room (rs ++ qs) ≡ end_after did (end_after did σ room rs) (left_of σ room rs) qs
  end_append σ room [] qs =
      let e : room ≡ room - 0 = omega arith in
      ap (λ (n : ℕ). end_after did σ n qs) e
  end_append σ room (r ∷ rs) qs =
      let d = did σ room r in
      end_append d.state (room - length d.reply) rs qs
      ∙ ap (λ (n : ℕ). end_after did (end_after did σ room (r ∷ rs)) n qs) (left_cons σ room r rs)

  -- The first records

  -- each record with its line
  abbrev pub got : S → ℕ → List Rec → List (Rec × Line)
  got σ room rs = zip rs (lines_after did σ room rs)

  pub got_take : (n : ℕ) (σ : S) (room : ℕ) (rs : List Rec) → got σ room (take n rs) ≡ take n (got σ room rs)
  unfolding zip zip_with
  got_take zero σ room rs = refl
  got_take (suc n) σ room [] = refl
  got_take (suc n) σ room (r ∷ rs) =
      let d = did σ room r in
      ap (λ (l : List (Rec × Line)). (r, line_of r d) ∷ l) (got_take n d.state (room - length d.reply) rs)

  pub got_drop : (n : ℕ) (σ : S) (room : ℕ) (rs : List Rec)
      → drop n (got σ room rs) ≡ got (end_after did σ room (take n rs)) (left_of σ room (take n rs)) (drop n rs)
  unfolding zip zip_with
  got_drop zero σ room rs =
      let e : room ≡ room - 0 = omega arith in
      ap (λ (k : ℕ). got σ k rs) e
  got_drop (suc n) σ room [] = refl
  got_drop (suc n) σ room (r ∷ rs) =
      let d = did σ room r in
      got_drop n d.state (room - length d.reply) rs
      ∙ ap (λ (k : ℕ). got (end_after did σ room (r ∷ take n rs)) k (drop n rs)) (left_cons σ room r (take n rs))

  -- the record after the first n
  pub record Next (n : ℕ) (σ : S) (room : ℕ) (rs : List Rec) (r : Rec) (l : Line) : Type 0 where
    pub records : take (suc n) rs ≡ take n rs ++ (r ∷ [])
    pub line : l ≡ line_of r (did (end_after did σ room (take n rs)) (left_of σ room (take n rs)) r)

  pub got_next : (n : ℕ) (σ : S) (room : ℕ) (rs : List Rec) (r : Rec) (l : Line) (later : List (Rec × Line))
      → drop n (got σ room rs) ≡ (r, l) ∷ later → Next n σ room rs r l
  unfolding zip zip_with
  got_next zero σ room [] r l later e = contrary cc
  got_next zero σ room (q ∷ rs) r l later e =
      let z : room - 0 ≡ room = omega arith in
      let f : ◌≡◌ {A = Rec × Line} (r, l) (q, line_of q (did σ room q)) = cc in
      let g : r ≡ q = ap (λ (x : Rec × Line). x.0) f in
      record { records = rw g refl; line = rw (z, g) (ap (λ (x : Rec × Line). x.1) f) }
  got_next (suc n) σ room [] r l later e = contrary cc
  got_next (suc n) σ room (q ∷ rs) r l later e =
      let d = did σ room q in
      let h = got_next n d.state (room - length d.reply) rs r l later e in
      record {
        records = ap (λ (x : List Rec). q ∷ x) h.records;
        line = h.line ∙ ap (λ (k : ℕ). line_of r (did (end_after did σ room (q ∷ take n rs)) k r)) (left_cons σ room q (take n rs));
      }

  -- A call of a run

  zipped : (σ : S) (room : ℕ) (rs : List Rec) → Zipped rs (lines_after did σ room rs)
  unfolding zip zip_with
  zipped σ room [] = record { records = refl; lines = refl }
  zipped σ room (r ∷ rs) =
      let h = zipped (did σ room r).state (room - length (did σ room r).reply) rs in
      record {
        records = ap (λ (l : List Rec). r ∷ l) h.records;
        lines = ap (λ (l : List Line). line_of r (did σ room r) ∷ l) h.lines;
      }

  module _ (start : S) {c : Call S} (w : Within did start c) where
    pub running : Running did start c.bytes c.room c.answers c.ran c.replies c.told
    running = rw (within_done (length c.bytes) w.short) at w.allowed

    pub tells : Told did start c
    tells =
        let h = zipped start (length c.room) (recs_of c.bytes) in
        record {
          done = running.outcome;
          records = h.records;
          lines = h.lines;
          answered = running.answered;
          replied = running.replies;
        }

    -- and one that is stopped
    module _ {n : ℕ} {d : Call S} (s : Stopped did start n c d) where
      pub stopped_within : Within did start d
      stopped_within =
          let e : length d.bytes ≤ length c.bytes = rw s.bytes (first_length n c.bytes) in
          let f : length d.answers ≡ length c.answers = ap length s.answers in
          record { allowed = s.allowed; short = omega (arith, w.short); lent = omega (arith, w.lent) }

      pub stopped_recs : recs_of d.bytes ≡ take n (recs_of c.bytes)
      stopped_recs = ap recs_of s.bytes ∙ recs_first n c.bytes
