-- Where a run stands: what is still to come, from there, is the rest of the whole.
use mathlib.Core.Path.{◌≡◌, refl, sym, ap, ◌∙◌}
use mathlib.Core.List.{List, [], ◌∷◌}
use Prim.Native.Nat.{ℕ, ◌+◌, ◌-◌, ◌*◌, ◌/◌, ◌≤◌, ◌<◌, zero-le}
use native.Mathlib.Nat.{zero-add}
use native.Mathlib.Numerals.{add-one}
use native.Mathlib.Omega.{arith}
use lib.ListN.{length, drop, set, length-drop, length-append, length-set, drop_of_length-le}
use lib.Seq.{drop-drop}
use Rattle.slices.specs.Slices.{put}
use Rattle.slices.proofs.Laws.{put_next, put_length}
use Rattle.runs.specs.declared.Outcome.TheVariants.{Done}
use Rattle.runs.specs.Record.{Rec, rec_of, size_of, recs_of, kind_in}
use Rattle.runs.specs.Run.{Did, Fits, Line, line_of, lines_after, end_after, replies_of, code_of, codes_of, Running}
use Rattle.runs.proofs.Records.{recs_cons, sizes}
use Rattle.runs.proofs.Lines.{lines_length}

-- what one record leaves: the state and the room after the record r, where the replies before it took so many bytes, and its line's number
pub record Turned {S : Type 0} (did : S → ℕ → Rec → Did S) (σ : S) (room : List ℕ) (used : ℕ) (r : Rec) (τ : S) (after : List ℕ)
    (next line : ℕ)
    : Type 0 where
  pub state : τ ≡ (did σ (length room - used) r).state
  pub rest : after ≡ put room used (did σ (length room - used) r).reply
  pub moved : next ≡ used + length (did σ (length room - used) r).reply
  pub told : line ≡ code_of (kind_in r) (did σ (length room - used) r).answer (length (did σ (length room - used) r).reply)

module _ {S : Type 0} (did : S → ℕ → Rec → Did S) (start : S) where
  pub record Going (s room₀ answers₀ : List ℕ) (σ : S) (at used lines : ℕ) (room answers : List ℕ) : Type 0 where
    pub at_fits : at ≤ length s
    pub used_fits : used ≤ length room₀
    pub same_room : length room ≡ length room₀
    pub same_answers : length answers ≡ length answers₀
    pub slots : at < length s → 4 * lines ≤ at
    pub ends : end_after did σ (length room₀ - used) (recs_of (drop at s)) ≡ end_after did start (length room₀) (recs_of s)
    pub counts : lines + length (lines_after did σ (length room₀ - used) (recs_of (drop at s))) ≡ length (lines_after did start (length room₀) (recs_of s))
    pub sums : used + length (replies_of (lines_after did σ (length room₀ - used) (recs_of (drop at s))))
        ≡ length (replies_of (lines_after did start (length room₀) (recs_of s)))
    pub replies : put room used (replies_of (lines_after did σ (length room₀ - used) (recs_of (drop at s))))
        ≡ put room₀ 0 (replies_of (lines_after did start (length room₀) (recs_of s)))
    pub answered : put answers lines (codes_of (lines_after did σ (length room₀ - used) (recs_of (drop at s))))
        ≡ put answers₀ 0 (codes_of (lines_after did start (length room₀) (recs_of s)))

  pub going_start : (s room answers : List ℕ) → Going s room answers start 0 0 0 room answers
  going_start s room answers =
      let e : length room - 0 ≡ length room = omega arith in
      record {
        at_fits = zero-le;
        used_fits = zero-le;
        same_room = refl;
        same_answers = refl;
        slots = λ h. omega arith;
        ends = rw e refl;
        counts = rw e (zero-add _);
        sums = rw e (zero-add _);
        replies = rw e refl;
        answered = rw e refl;
      }

  -- at the end
  pub going_end : {s room₀ answers₀ : List ℕ} {σ : S} {at used lines : ℕ} {room answers : List ℕ} →
      Going s room₀ answers₀ σ at used lines room answers → length s ≤ at
      → Running did start s room₀ answers₀ (record { outcome = Done; state = σ; lines = lines; replied = used }) room answers
  going_end {s} {room₀} {answers₀} {σ} {at} {used} {lines} {room} {answers} g h =
      let e : recs_of (drop at s) ≡ [] = ap recs_of (drop_of_length-le s h) in
      let ls : lines_after did σ (length room₀ - used) (recs_of (drop at s)) ≡ [] = ap (lines_after did σ (length room₀ - used)) e in
      record {
        number = refl;
        outcome = refl;
        state = sym (ap (end_after did σ (length room₀ - used)) e) ∙ g.ends;
        lines = omega (arith, ap length ls, g.counts);
        replied = omega (arith, ap (λ (x : List Line). length (replies_of x)) ls, g.sums);
        replies = sym (ap (λ (x : List Line). put room used (replies_of x)) ls) ∙ g.replies;
        answered = sym (ap (λ (x : List Line). put answers lines (codes_of x)) ls) ∙ g.answered;
      }

  module _ {s room₀ answers₀ : List ℕ} {σ : S} {at used lines : ℕ} {room answers : List ℕ}
      (g : Going s room₀ answers₀ σ at used lines room answers) (more : at < length s) where
    -- there is a slot for the next line
    pub going_slot : (length s + 3) / 4 ≤ length answers₀ → lines < length answers
    going_slot h = omega (arith, g.slots more, g.same_answers)

    left_some : 0 < length (drop at s)
    left_some = omega (arith, length-drop at s)

    -- and so there is where no more answers were lent than there are records
    pub going_held : length (recs_of s) ≤ length answers₀ → lines < length answers
    going_held h =
        omega (
          arith,
          g.counts,
          g.same_answers,
          lines_length did σ (length room₀ - used) (recs_of (drop at s)),
          lines_length did start (length room₀) (recs_of s),
          ap length (recs_cons (drop at s) left_some),
        )

    -- the next record takes some of the bytes that are left
    pub going_size : (size_of (drop at s) ≤ length s - at) × (0 < size_of (drop at s))
    going_size =
        let z = sizes (drop at s) left_some in
        (omega (arith, z.fits, length-drop at s), z.some)

    -- one record more
    module _ (f : Fits did) where
      abbrev left : List ℕ
      left = drop at s

      abbrev d : Did S
      d = did σ (length room₀ - used) (rec_of left)

      abbrev rest : List Line
      rest = lines_after did d.state (length room₀ - (used + length d.reply)) (recs_of (drop (at + size_of left) s))

      abbrev code : ℕ
      code = code_of (kind_in (rec_of left)) d.answer (length d.reply)

      unroll : recs_of left ≡ rec_of left ∷ recs_of (drop (at + size_of left) s)
      unroll = recs_cons left left_some ∙ ap (λ (l : List ℕ). rec_of left ∷ recs_of l) (drop-drop (size_of left) at s)

      less : length room₀ - used - length d.reply ≡ length room₀ - (used + length d.reply)
      less = omega arith

      lines_more : lines_after did σ (length room₀ - used) (recs_of left) ≡ line_of (rec_of left) d ∷ rest
      lines_more =
          ap (lines_after did σ (length room₀ - used)) unroll
          ∙ ap (λ (n : ℕ). line_of (rec_of left) d ∷ lines_after did d.state n (recs_of (drop (at + size_of left) s))) less

      stepped : Going s room₀ answers₀ d.state (at + size_of left) (used + length d.reply) (lines + 1) (put room used d.reply)
          (set answers lines code)
      stepped = record {
        at_fits = omega (arith, (sizes left left_some).fits, length-drop at s);
        used_fits = omega (arith, f.reply σ (length room₀ - used) (rec_of left), g.used_fits);
        same_room = put_length room used d.reply ∙ g.same_room;
        same_answers = length-set answers lines code ∙ g.same_answers;
        slots = λ h. omega (arith, g.slots more, (sizes left left_some).four, length-drop at s);
        ends =
            sym (ap (end_after did σ (length room₀ - used)) unroll
            ∙ ap (λ (m : ℕ). end_after did d.state m (recs_of (drop (at + size_of left) s))) less) ∙ g.ends;
        counts = omega (arith, g.counts, ap length lines_more);
        sums = omega (arith, g.sums, ap (λ (ls : List Line). length (replies_of ls)) lines_more, length-append d.reply (replies_of rest));
        replies =
            put_next room used (used + length d.reply) d.reply (replies_of rest) refl
            ∙ sym (ap (λ (ls : List Line). put room used (replies_of ls)) lines_more) ∙ g.replies;
        answered = rw (add-one lines) (sym (ap (λ (ls : List Line). put answers lines (codes_of ls)) lines_more) ∙ g.answered);
      }

      -- where the record at the front was read from the part l that was lent, and the turn left what it does
      pub going_more : {l : List ℕ} {size next line : ℕ} {τ : S} {after : List ℕ} → l ≡ left → size ≡ size_of l →
          Turned did σ room used (rec_of l) τ after next line
          → Going s room₀ answers₀ τ (at + size) next (lines + 1) after (set answers lines line)
      going_more {l} {line = line} el es t =
          let e : did σ (length room - used) (rec_of l) ≡ d = rw (g.same_room, el) refl in
          let c : line ≡ code = t.told ∙ ap (λ (x : Did S). code_of (kind_in (rec_of l)) x.answer (length x.reply)) e
          ∙ ap (λ (x : List ℕ). code_of (kind_in (rec_of x)) d.answer (length d.reply)) el in
          rw (
            t.state ∙ ap (λ (x : Did S). x.state) e,
            es ∙ ap size_of el,
            t.moved ∙ ap (λ (x : Did S). used + length x.reply) e,
            t.rest ∙ ap (λ (x : Did S). put room used x.reply) e,
            c,
          )
          stepped
