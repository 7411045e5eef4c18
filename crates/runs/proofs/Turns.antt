-- What the arms of the match in a run's loop leave: the state and the room after the record at the front of l. Of any state, of which something
-- holds that every record keeps.
use mathlib.Core.Path.{◌≡◌, refl, sym, ap, ◌∙◌}
use mathlib.Core.Logic.{◌⊎◌}
use mathlib.Core.Bool.{true, false}
use mathlib.Core.List.{List, [], ◌∷◌, ◌++◌}
use Prim.Native.Nat.{ℕ, zero, suc, ◌+◌, ◌-◌, ◌≤◌, ◌<◌}
use native.Mathlib.Omega.{arith}
use lib.ListN.{length, take, drop, set, length-drop, length-take}
use lib.Seq.{take-nil, drop-drop}
use Rattle.std.specs.Prelude.{None}
use Rattle.slices.specs.Slices.{part, put}
use Rattle.slices.proofs.Laws.{part_rest, put_part}
use Rattle.bus.specs.declared.Transaction.{Transaction}
use Rattle.record.specs.declared.Event.{Event}
use Rattle.record.specs.declared.Event.TheVariants.{Transact}
use Rattle.record.specs.Record.{Mastered}
use Rattle.runs.specs.declared.Outcome.TheVariants.{Done}
use Rattle.runs.specs.Record.{Rec, rec_of, size_of, whole_of}
use Rattle.runs.specs.Run.{Did, Fits, silently, code_of, Running}
use Rattle.runs.proofs.Records.{whole_head, size_cut}
use Rattle.runs.proofs.Going.{Turned, Going, going_size, going_end, going_more}
use Rattle.runs.specs.declared.Record.{Record}
use Rattle.runs.specs.AnyRecord.{Steps, record_by}
use Rattle.runs.proofs.AnyRecord.{Replying, read_cut}
use Rattle.runs.proofs.Fronts.{payload_of, Ran, Front, front, idle}

-- ---- the ways to the place where the arms of a match meet: the first, and those behind it

abbrev pub First : {A B : Type 0} → A ⊎ B → Type 0
First {A} x = A

abbrev pub Later : {A B : Type 0} → A ⊎ B → Type 0
Later {B = B} x = B

-- ---- the master bytes of a transaction, as a part of the record

drop_take : (k n : ℕ) (l : List ℕ) → drop k (take n l) ≡ take (n - k) (drop k l)
drop_take zero n l =
    let e : n ≡ n - 0 = omega arith in
    ap (λ (m : ℕ). take m l) e
drop_take (suc k) zero l =
    let e : 0 ≡ 0 - suc k = omega arith in
    ap (λ (m : ℕ). take m (drop (suc k) l)) e
drop_take (suc k) (suc n) [] = sym (take-nil (suc n - suc k))
drop_take (suc k) (suc n) (x ∷ xs) =
    let e : n - k ≡ suc n - suc k = omega arith in
    drop_take k n xs ∙ ap (λ (m : ℕ). take m (drop k xs)) e

pub master_part : (end start : ℕ) (l : List ℕ) → drop start (payload_of end l) ≡ part (end - (4 + start)) l (4 + start)
master_part end start l =
    let e : end - 4 - start ≡ end - (4 + start) = omega arith in
    drop_take start (end - 4) (drop 4 l) ∙ ap (take (end - 4 - start)) (drop-drop start 4 l) ∙ ap (λ (m : ℕ). take m (drop (4 + start) l)) e

-- they start within it
pub master_starts : {S : Type 0} (k : Steps S) {σ : S} {room : ℕ} {l : List ℕ} {end : ℕ} {t : Transaction} → Ran k σ room l end (Transact t)
    → Mastered t (payload_of end l) → 4 + t.start ≤ end
master_starts k {l = l} {end} x m = omega (arith, x.head, m.starts, length-take (end - 4) (drop 4 l))

-- a loop that goes on while a record is whole has bytes left
pub whole_more : (s : List ℕ) (at : ℕ) → whole_of (part (length s - at) s at) ≡ true → at < length s
whole_more s at w = omega (arith, whole_head (part (length s - at) s at) w, ap length (part_rest s at), length-drop at s)

-- the room that is left
pub room_left : (room : List ℕ) (used : ℕ) → length (part (length room - used) room used) ≡ length room - used
room_left room used = ap length (part_rest room used) ∙ length-drop used room

module _ {S : Type 0} (k : Steps S) (did : S → ℕ → Rec → Did S) (same : (σ : S) (room : ℕ) (r : Rec) → did σ room r ≡ record_by k σ room r)
    (Good : S → Type 0) where
  -- ---- what each arm leaves

  pub record Turn (σ : S) (room : List ℕ) (used : ℕ) (l : List ℕ) (τ : S) (after : List ℕ) (next line : ℕ) : Type 0 where
    pub left : Turned did σ room used (rec_of l) τ after next line
    pub kept : Good τ

  module _ {σ τ : S} {room : List ℕ} {used : ℕ} {l : List ℕ} {r : Record} {after : List ℕ} {next line : ℕ}
      (f : Front k σ (length room - used) l r) (good : Good τ) where
    turned : {d : Did S} → record_by k σ (length room - used) (rec_of l) ≡ d → τ ≡ d.state
        → after ≡ put room used d.reply → next ≡ used + length d.reply → line ≡ code_of r.kind r.answer (length d.reply)
        → Turn σ room used l τ after next line
    turned e eτ er eu en =
        let h = same σ (length room - used) (rec_of l) ∙ e in
        record {
          left = record {
            state = eτ ∙ ap (λ (x : Did S). x.state) (sym h);
            rest = er ∙ ap (λ (x : Did S). put room used x.reply) (sym h);
            moved = eu ∙ ap (λ (x : Did S). used + length x.reply) (sym h);
            told =
                en ∙ ap (λ (x : Did S). code_of r.kind r.answer (length x.reply)) (sym h)
                ∙ rw (f.kind, f.answer ∙ ap (λ (x : Did S). x.answer) (sym (same σ (length room - used) (rec_of l)))) refl;
          };
          kept = good;
        }

    -- nothing is asked
    pub turn_idle : r.event ≡ None → τ ≡ σ → after ≡ room → next ≡ used → line ≡ code_of r.kind r.answer 0
        → Turn σ room used l τ after next line
    turn_idle a eτ er eu en = turned (idle k f a) eτ er (omega (arith, eu)) en

    -- an event with no reply
    pub turn_silent : {e : Event} → Ran k σ (length room - used) l r.used e → k.event σ (payload_of r.used l) e ≡ silently τ 0
        → after ≡ room → next ≡ used → line ≡ code_of r.kind r.answer 0 → Turn σ room used l τ after next line
    turn_silent x d er eu en = turned (x.did ∙ d) refl er (omega (arith, eu)) en

    -- a transaction: the room that is left was lent, and has its reply at the front
    pub turn_reply : {t : Transaction} {back : List ℕ} → Replying k → Ran k σ (length room - used) l r.used (Transact t) → used ≤ length room
        → τ ≡ (k.event σ (payload_of r.used l) (Transact t)).state
        → back ≡ (k.event σ (payload_of r.used l) (Transact t)).reply ++ drop t.count (part (length room - used) room used)
        → after ≡ take used room ++ (back ++ drop (length room - used) (drop used room))
        → next ≡ used + t.count → line ≡ code_of r.kind r.answer t.count → Turn σ room used l τ after next line
    turn_reply {t} {back} h x fits eτ ea er eu en =
        let reply = (k.event σ (payload_of r.used l) (Transact t)).reply in
        let n : length reply ≡ t.count = h.reply σ (payload_of r.used l) (Transact t) in
        let b : back ≡ reply ++ drop (length reply) (drop used room) = rw (← part_rest room used, n) ea in
        turned x.did eτ
        (er ∙ ap (λ (y : List ℕ). take used room ++ (y ++ drop (length room - used) (drop used room))) b
        ∙ put_part room used (length room - used) reply (omega (arith, n, x.held)) refl)
        (rw n eu) (rw n en)

  -- ---- where the loop stands

  pub record Stands (start : S) (s room₀ answers₀ : List ℕ) (σ : S) (at used lines : ℕ) (room answers : List ℕ) : Type 0 where
    pub going : Going did start s room₀ answers₀ σ at used lines room answers
    pub wf : Good σ

  module _ {start : S} {s room₀ answers₀ : List ℕ} {σ : S} {at used lines : ℕ} {room answers : List ℕ} {r : Record}
      (g : Stands start s room₀ answers₀ σ at used lines room answers) (more : at < length s)
      (f : Front k σ (length room - used) (part (length s - at) s at) r) where
    size_left : r.used ≡ size_of (drop at s)
    size_left = f.used ∙ ap size_of (part_rest s at)

    -- the record takes some of the bytes that are left
    pub front_within : (r.used ≤ length s - at) × (0 < r.used)
    front_within =
        let z = going_size did start g.going more in
        (omega (arith, size_left, z.0), omega (arith, size_left, z.1))

    pub front_fits : r.used ≤ length (part (length s - at) s at)
    front_fits = omega (arith, front_within.0, ap length (part_rest s at), length-drop at s)

  -- it ends before a record that is cut, which is told behind it
  pub ended_cut : {start : S} {s room₀ answers₀ : List ℕ} {σ : S} {at used lines line : ℕ} {room answers : List ℕ}
      → Fits did → Replying k → Stands start s room₀ answers₀ σ at used lines room answers → at < length s →
      whole_of (part (length s - at) s at) ≡ false → line ≡ code_of 0 2 0
      → Running did start s room₀ answers₀ (record { outcome = Done; state = σ; lines = lines + 1; replied = used }) room (set answers lines line)
  ended_cut {start} {s} {σ = σ} {at} {used} {room = room} fits replying g more w e =
      let l = part (length s - at) s at in
      let f = front k replying σ (length room - used) l (read_cut (k.told σ) (length room - used) l w) in
      let t = turn_idle f g.wf refl refl refl refl e in
      going_end did start (going_more did start g.going more fits (part_rest s at) (sym (size_cut l w)) t.left)
      (omega (arith, ap length (part_rest s at), length-drop at s))
