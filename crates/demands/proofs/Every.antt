-- What the demands say of every run: each moment, each record, and one line for each header.
use mathlib.Core.Path.{◌≡◌, refl, sym, ap, subst, ◌∙◌}
use mathlib.Core.Bool.{Bool, true, false}
use mathlib.Core.List.{List, [], ◌∷◌, ◌++◌, append-nil}
use Prim.Native.Nat.{ℕ, zero, suc, ◌+◌, ◌-◌, ◌*◌}
use native.Mathlib.Nat.{zero-add}
use native.Mathlib.Omega.{arith}
use lib.Dec.{leb}
use lib.ListN.{length, take, length-append}
use Rattle.slices.specs.Slices.{put}
use Rattle.slices.proofs.Laws.{put_append}
use Rattle.runs.specs.Record.{Rec, whole, cut, whole_of, rec_of, size_of, recs_from, recs_of}
use Rattle.runs.specs.Run.{Did, silently, Line, line_of, lines_after, end_after, replies_of, codes_of}
use Rattle.runs.proofs.Ends.{over_over}
use Rattle.demands.specs.Call.{Call, Within, Stopped, Taking}
use Rattle.demands.specs.Demand1 as demand
use Rattle.demands.specs.Demand1.{Header, headers_from, headers_of, Numbered, Answered, none, stops, next, Demand1}
use Rattle.demands.specs.Demand2.{Moment, did_after, Exact, AfterEach}
use Rattle.demands.proofs.Headers.{recs_kind, recs_cut}
use Rattle.demands.proofs.Moments.{left_of, lines_append, end_append, replies_append, codes_append, codes_length}
use Rattle.demands.proofs.Moments.{got_take, got_next, running, tells, stopped_within, stopped_recs}

-- Where a run stands that is stopped

record Stands {S : Type 0} (did : S → ℕ → Rec → Did S) (start : S) (room answers : List ℕ) (rs : List Rec) (d : Call S) : Type 0 where
  state : d.ran.state ≡ end_after did start (length room) rs
  count : d.ran.lines ≡ length (lines_after did start (length room) rs)
  replied : d.ran.replied ≡ length (replies_of (lines_after did start (length room) rs))
  replies : d.replies ≡ put room 0 (replies_of (lines_after did start (length room) rs))
  told : d.told ≡ put answers 0 (codes_of (lines_after did start (length room) rs))

-- what is asked of each record: it is numbered, one that is cut is answered 2, and where it is refused the state stays, and there is no reply
pub record Lawful (most : ℕ) {S : Type 0} (did : S → ℕ → Rec → Did S) : Type 0 where
  pub numbered : (σ : S) (room kind : ℕ) (p : List ℕ) → Numbered most (did σ room (whole kind p)).answer
  pub cuts : (σ : S) (room : ℕ) → did σ room cut ≡ silently σ 2
  pub still : (σ : S) (room : ℕ) (r : Rec) → ((did σ room r).answer ≡ 0 → ⊥) → ((did σ room r).state ≡ σ) × ((did σ room r).reply ≡ [])

answered_length : {most : ℕ} (hs : List Header) (ls : List Line) → Answered most hs ls → length ls ≡ length hs
answered_length hs ls none = refl
answered_length hs ls (stops e) = refl
answered_length hs ls (next k n r) = ap suc (answered_length _ _ r)

module _ {S : Type 0} (did : S → ℕ → Rec → Did S) (start : S) where
  module _ {n : ℕ} {c d : Call S} (w : Within did start c) (s : Stopped did start n c d) where
    stands : Stands did start c.room c.answers (take n (recs_of c.bytes)) d
    stands =
        let r = running did start (stopped_within did start w s) in
        rw (← (stopped_recs did start w s), ← s.room, ← s.answers)
        (record { state = r.state; count = r.lines; replied = r.replied; replies = r.replies; told = r.answered })

    moment : Moment did start n c d
    moment = record {
      state = stands.state;
      got = rw (stopped_recs did start w s, s.room) (got_take did n start (length c.room) (recs_of c.bytes));
      told = tells did start (stopped_within did start w s);
    }

  -- One record more

  module _ {c : Call S} (w : Within did start c) {r : Rec} {l : Line} {a b : Call S} (t : Taking did start c r l a b) where
    abbrev rs : List Rec
    rs = take t.earlier (recs_of c.bytes)

    abbrev ls : List Line
    ls = lines_after did start (length c.room) rs

    abbrev does : Did S
    does = did (end_after did start (length c.room) rs) (left_of did start (length c.room) rs) r

    pub exact : Exact did start r l a b
    exact =
        let h = got_next did t.earlier start (length c.room) (recs_of c.bytes) r l t.later t.here in
        let one = stands w t.before in
        let two = rw h.records at (stands w t.after) in
        let same : did_after did start a r ≡ does = cc (one.state, t.before.room, one.replied) in
        let more : lines_after did start (length c.room) (rs ++ (r ∷ [])) ≡ ls ++ (l ∷ []) =
        lines_append did start (length c.room) rs (r ∷ []) ∙ ap (λ (x : Line). ls ++ (x ∷ [])) (sym h.line) in
        let reply : replies_of (ls ++ (l ∷ [])) ≡ replies_of ls ++ does.reply =
        replies_append ls (l ∷ []) ∙ ap (λ (x : List ℕ). replies_of ls ++ x) (append-nil l.reply ∙ ap (λ (x : Line). x.reply) h.line) in
        record {
          state = two.state ∙ end_append did start (length c.room) rs (r ∷ []) ∙ ap (λ (d : Did S). d.state) (sym same);
          line = h.line ∙ ap (line_of r) (sym same);
          replies =
              two.replies
              ∙ ap (λ (ms : List Line). put c.room 0 (replies_of ms)) more
              ∙ ap (put c.room 0) reply
              ∙ put_append c.room 0 (replies_of ls) does.reply
              ∙ ap (λ (x : List ℕ). put x (0 + length (replies_of ls)) does.reply) (sym one.replies)
              ∙ ap (λ (n : ℕ). put a.replies n does.reply) (zero-add (length (replies_of ls)) ∙ sym one.replied)
              ∙ ap (λ (d : Did S). put a.replies a.ran.replied d.reply) (sym same);
          replied =
              two.replied
              ∙ ap (λ (ms : List Line). length (replies_of ms)) more
              ∙ ap length reply
              ∙ length-append (replies_of ls) does.reply
              ∙ ap (λ (n : ℕ). n + length does.reply) (sym one.replied)
              ∙ ap (λ (d : Did S). a.ran.replied + length d.reply) (sym same);
          answered =
              two.told
              ∙ ap (λ (ms : List Line). put c.answers 0 (codes_of ms)) more
              ∙ ap (put c.answers 0) (codes_append ls (l ∷ []))
              ∙ put_append c.answers 0 (codes_of ls) (codes_of (l ∷ []))
              ∙ rw (one.told, one.count, zero-add, codes_length ls) refl;
          lines = two.count ∙ ap length more ∙ length-append ls (l ∷ []) ∙ rw one.count refl;
        }

  pub run_exact : AfterEach did start
  run_exact = record { moments = λ n c d w s. moment w s; events = λ c w r l a b t. exact w t }

  module _ (most : ℕ) (law : Lawful most did) where
    -- One line for each header

    cut_answered : (σ : S) (room : ℕ) → Answered most (demand.cut ∷ []) (lines_after did σ room (cut ∷ []))
    cut_answered σ room = stops (ap (λ (d : Did S). d.answer) (law.cuts σ room))

    -- the line of a record whose header stands there, and those of the rest
    four : (σ : S) (room n m i j : ℕ) (s : List ℕ)
        → ((τ : S) (left : ℕ) → Answered most (headers_from (n + 256 * m) s) (lines_after did τ left (recs_from (n + 256 * m) s)))
        → (b : Bool) → leb (n + 256 * m) (length s) ≡ b
        → Answered most (headers_of (n ∷ m ∷ i ∷ j ∷ s)) (lines_after did σ room (recs_of (n ∷ m ∷ i ∷ j ∷ s)))
    four σ room n m i j s rest true e =
        rw e
        (subst (λ (rs : List Rec). Answered most (demand.kind (i + 256 * j) ∷ headers_from (n + 256 * m) s) (lines_after did σ room rs))
        (sym (recs_kind n m i j s e))
        (next refl (law.numbered σ room (i + 256 * j) _) (rest _ _)))
    four σ room n m i j s rest false e =
        rw e (subst (λ (rs : List Rec). Answered most (demand.cut ∷ []) (lines_after did σ room rs)) (sym (recs_cut n m i j s e)) (cut_answered σ room))

    answered : (σ : S) (room k : ℕ) (s : List ℕ) → Answered most (headers_from k s) (lines_after did σ room (recs_from k s))
    unfolding rec_of size_of whole_of
    answered σ room zero [] = none
    answered σ room (suc k) [] = none
    answered σ room (suc k) (x ∷ s) = answered σ room k s
    answered σ room zero (n ∷ []) = cut_answered σ room
    answered σ room zero (n ∷ m ∷ []) = cut_answered σ room
    answered σ room zero (n ∷ m ∷ i ∷ []) = cut_answered σ room
    answered σ room zero (n ∷ m ∷ i ∷ j ∷ s) =
        four σ room n m i j s (λ τ left. answered τ left (n + 256 * m) s) (leb (n + 256 * m) (length s)) refl

    pub run_sound : Demand1 most did start
    run_sound = record {
      answers = λ c w.
          let h : Answered most (headers_of c.bytes) (lines_after did start (length c.room) (recs_of c.bytes)) =
          answered start (length c.room) 0 c.bytes in
          record { told = tells did start w; count = (running did start w).lines ∙ answered_length _ _ h; answered = h };
      refusals = λ c w r l a b t other.
          let e = exact w t in
          let h = law.still a.ran.state (length a.room - a.ran.replied) r (λ z. other (ap (λ (x : Line). x.answer) e.line ∙ z)) in
          record {
            state = e.state ∙ h.0;
            room = e.replies ∙ ap (put a.replies a.ran.replied) h.1;
            next = e.replied ∙ rw h.1 (omega arith);
          };
      over = λ c h long. let k = rw (over_over (length c.bytes) long) at h in (k.number, k);
    }
