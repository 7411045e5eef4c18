-- What the code reads off the record at the front, said of what the record does, of any state.
use mathlib.Core.Path.{◌≡◌, refl, sym, ap, subst, ◌∙◌}
use mathlib.Core.Bool.{Bool, true, false}
use mathlib.Core.List.{List}
use Prim.Native.Nat.{ℕ, ◌+◌, ◌-◌, ◌≤◌}
use native.Mathlib.Omega.{arith}
use borrow.Author.Tests.{ltb-false}
use lib.Dec.{ltb}
use lib.ListN.{length}
use Rattle.std.specs.Prelude.{Ok, Err, Some, None, Option}
use Rattle.slices.specs.Slices.{part, pair_at}
use Rattle.record.specs.declared.Event.{Event}
use Rattle.record.specs.declared.Refusal.TheVariants.{Room}
use Rattle.record.specs.Record.{asks_of, fitted_of, Taken}
use Rattle.runs.specs.Record.{whole_of, rec_of, size_of, kind_in}
use Rattle.runs.specs.Run.{Did, silently}
use Rattle.runs.proofs.Records.{rec_whole, size_whole, rec_cut, size_cut}
use Rattle.runs.specs.declared.Record.{Record}
use Rattle.runs.specs.AnyRecord.{Steps, answered_by, record_by, refused_of, taken_read, front_by}
use Rattle.runs.proofs.AnyRecord.{Replying, read_whole, read_cut}

-- the payload of a record that takes so many bytes
abbrev pub payload_of : ℕ → List ℕ → List ℕ
payload_of used l = part (used - 4) l 4

module _ {S : Type 0} (k : Steps S) where
  -- an event that the record asks: its reply fits the room
  pub record Ran (σ : S) (room : ℕ) (l : List ℕ) (used : ℕ) (e : Event) : Type 0 where
    pub head : 4 ≤ used
    pub held : asks_of e ≤ room
    pub told : k.told σ (pair_at l 2) (payload_of used l) ≡ Ok e
    pub did : record_by k σ room (rec_of l) ≡ k.event σ (payload_of used l) e

  abbrev pub Does : S → ℕ → List ℕ → Record → (Option Event) → Type 0
  Does σ room l r None = record_by k σ room (rec_of l) ≡ silently σ r.answer
  Does σ room l r (Some e) = Ran σ room l r.used e

  pub record Front (σ : S) (room : ℕ) (l : List ℕ) (r : Record) : Type 0 where
    pub kind : r.kind ≡ kind_in (rec_of l)
    pub used : r.used ≡ size_of l
    pub answer : r.answer ≡ (record_by k σ room (rec_of l)).answer
    pub does : Does σ room l r r.event

  -- the event that was read
  pub ran : {σ : S} {room : ℕ} {l : List ℕ} {r : Record} {e : Event} → Front σ room l r → r.event ≡ Some e → Ran σ room l r.used e
  ran {σ} {room} {l} {r} f t = subst (Does σ room l r) t f.does

  pub idle : {σ : S} {room : ℕ} {l : List ℕ} {r : Record} → Front σ room l r → r.event ≡ None →
      record_by k σ room (rec_of l) ≡ silently σ r.answer
  idle {σ} {room} {l} {r} f t = subst (Does σ room l r) t f.does

  module _ (h : Replying k) (σ : S) (room : ℕ) (l : List ℕ) where
    front_refused : (kind m used : ℕ) → kind ≡ kind_in (rec_of l) → used ≡ size_of l → record_by k σ room (rec_of l) ≡ silently σ m
        → Front σ room l (refused_of kind m used)
    front_refused kind m used ek eu f =
        record { kind = ek; used = eu; answer = sym (ap (λ (x : Did S). x.answer) f); does = f }

    module _ (w : whole_of l ≡ true) where
      abbrev n : ℕ
      n = pair_at l 0

      abbrev kind : ℕ
      kind = pair_at l 2

      abbrev p : List ℕ
      p = payload_of (4 + n) l

      kinds : kind ≡ kind_in (rec_of l)
      kinds = sym (ap kind_in (rec_whole l n kind w refl refl))

      takes : 4 + n ≡ size_of l
      takes = sym (size_whole l n kind w refl refl)

      does : record_by k σ room (rec_of l) ≡ answered_by k σ p (fitted_of room (k.told σ kind p))
      does = rw (rec_whole l n kind w refl refl) refl

      front_event : (e : Event) → k.told σ kind p ≡ Ok e → (b : Bool) → ltb room (asks_of e) ≡ b
          → Front σ room l (taken_read kind (4 + n) (fitted_of room (Ok e)))
      front_event e t true full =
          let g : fitted_of room (k.told σ kind p) ≡ Err Room = rw (t, full) refl in
          rw full (front_refused kind 9 (4 + n) kinds takes (does ∙ ap (answered_by k σ p) g))
      front_event e t false fits =
          let g : fitted_of room (k.told σ kind p) ≡ Ok e = rw (t, fits) refl in
          let f : record_by k σ room (rec_of l) ≡ k.event σ p e = does ∙ ap (answered_by k σ p) g in
          rw fits
          (record {
            kind = kinds;
            used = takes;
            answer = sym (h.answer σ p e) ∙ sym (ap (λ (x : Did S). x.answer) f);
            does = record { head = omega arith; held = ltb-false room (asks_of e) fits; told = t; did = f };
          })

      front_taken : (t : Taken) → k.told σ kind p ≡ t → Front σ room l (taken_read kind (4 + n) (fitted_of room t))
      front_taken (Ok e) t = front_event e t (ltb room (asks_of e)) refl
      front_taken (Err x) t =
          let g : fitted_of room (k.told σ kind p) ≡ Err x = rw t refl in
          front_refused kind _ (4 + n) kinds takes (does ∙ ap (answered_by k σ p) g)

      front_whole : Front σ room l (front_by (k.told σ) room l)
      front_whole = subst (Front σ room l) (read_whole (k.told σ) room l n kind w refl refl refl) (front_taken (k.told σ kind p) refl)

    front_cut : whole_of l ≡ false → Front σ room l (front_by (k.told σ) room l)
    front_cut w =
        subst (Front σ room l) (read_cut (k.told σ) room l w)
        (front_refused 0 2 (length l) (sym (ap kind_in (rec_cut l w))) (sym (size_cut l w)) (rw (rec_cut l w) refl))

    front_cases_lem : (b : Bool) → whole_of l ≡ b → Front σ room l (front_by (k.told σ) room l)
    front_cases_lem true w = front_whole w
    front_cases_lem false w = front_cut w

    pub front : {r : Record} → r ≡ front_by (k.told σ) room l → Front σ room l r
    front e = rw e (front_cases_lem (whole_of l) refl)
