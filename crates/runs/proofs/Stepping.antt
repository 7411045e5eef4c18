-- A step is a run over one record, of any state.
use mathlib.Core.Path.{◌≡◌, refl, sym, ap, ◌∙◌}
use mathlib.Core.Bool.{true, false}
use mathlib.Core.List.{List, [], ◌∷◌, append-nil}
use Prim.Native.Nat.{ℕ, ◌+◌, ◌*◌, ◌/◌, ◌%◌, ◌≤◌}
use native.Mathlib.Omega.{arith}
use lib.ListN.{length, get_or, take}
use Rattle.slices.specs.Slices.{put, pair_at}
use Rattle.runs.specs.Record.{Rec, cut, whole_of, rec_of, size_of, recs_of, kind_in}
use Rattle.runs.specs.Run.{Did, Fits, silently, Result, Running}
use Rattle.runs.specs.Step.{StepDone}
use Rattle.runs.proofs.Records.{Bytes, rec_narrow, recs_whole, size_whole, rec_cut}

-- the bytes of the record at the front are one record
module _ (l : List ℕ) (n : ℕ) (w : whole_of l ≡ true) (e : n ≡ 4 + pair_at l 0) where
  pub one_record : recs_of (take n l) ≡ rec_of l ∷ []
  one_record =
      let size : n ≡ size_of l = e ∙ sym (size_whole l (pair_at l 0) (pair_at l 2) w refl refl) in
      ap (λ (k : ℕ). recs_of (take k l)) size ∙ ap recs_of (sym (append-nil (take (size_of l) l))) ∙ recs_whole l [] w

  pub one_line : length (recs_of (take n l)) ≤ 1
  one_line = omega (arith, ap length one_record)

module _ {S : Type 0} (did : S → ℕ → Rec → Did S) (f : Fits did) {σ : S} {l room : List ℕ} where
  pub stepped_whole : {n : ℕ} {r : Result S} {after told : List ℕ} → whole_of l ≡ true → n ≡ 4 + pair_at l 0 → Bytes l
      → Running did σ (take n l) room (0 ∷ []) r after told
      → StepDone did σ l room r.state (get_or told 0 0 / 65536 % 256) r.replied after
  stepped_whole {n} {r} {after} {told} w e bytes ran =
      let d = did σ (length room) (rec_of l) in
      let one = one_record l n w e in
      let reply = append-nil d.reply in
      let code : get_or told 0 0 ≡ kind_in (rec_of l) + 65536 * d.answer + 16777216 * length d.reply =
      ap (λ (x : List ℕ). get_or x 0 0) (rw one at ran.answered) in
      record {
        state = rw one at ran.state;
        answered = ap (λ (x : ℕ). x / 65536 % 256) code ∙ omega (arith, rec_narrow l bytes, f.answer σ (length room) (rec_of l));
        counted = (rw one at ran.replied) ∙ ap length reply;
        written = (rw one at ran.replies) ∙ ap (put room 0) reply;
      }

  -- a record that is cut changes nothing
  pub stepped_cut : did σ (length room) cut ≡ silently σ 2 → whole_of l ≡ false → StepDone did σ l room σ 2 0 room
  stepped_cut idle w =
      let e : silently σ 2 ≡ did σ (length room) (rec_of l) = sym (ap (did σ (length room)) (rec_cut l w) ∙ idle) in
      record {
        state = ap (λ (d : Did S). d.state) e;
        answered = ap (λ (d : Did S). d.answer) e;
        counted = ap (λ (d : Did S). length d.reply) e;
        written = ap (λ (d : Did S). put room 0 d.reply) e;
      }
