-- Laws of one record, of any state: what is read off it, and how large its answer and its reply are.
use mathlib.Core.Path.{◌≡◌, refl, ap}
use mathlib.Core.Bool.{true, false}
use mathlib.Core.List.{List}
use Prim.Native.Nat.{ℕ, ◌+◌, ◌-◌, ◌≤◌, ◌<◌, zero-le}
use native.Mathlib.Omega.{arith}
use borrow.Author.Tests.{ltb-false}
use lib.Dec.{ltb}
use lib.ListN.{length}
use Rattle.std.specs.Prelude.{Ok, Err}
use Rattle.numbers.proofs.Bounds.{picked}
use Rattle.slices.specs.Slices.{part, pair_at}
use Rattle.record.specs.declared.Event.{Event}
use Rattle.record.specs.declared.Event.TheVariants.{Image, Change, Transact}
use Rattle.record.specs.Record.{master_of, asks_of, fitted_of, Taken}
use Rattle.record.proofs.Fits.{refusal_range}
use Rattle.gauge.proofs.Acting.{reply_length}
use Rattle.runs.specs.Record.{Rec, whole, cut, whole_of}
use Rattle.runs.specs.Run.{Did, Fits}
use Rattle.runs.proofs.Records.{rec_whole, size_whole, rec_cut, size_cut}
use Rattle.runs.specs.declared.Session.{Session}
use Rattle.runs.specs.AnyRecord.{Steps, answered_by, record_by, refused_of, taken_read, front_by}
use Rattle.runs.specs.SessionRecord.{event_did, of_session, did_of}

-- ---- what is read

module _ (told : ℕ → List ℕ → Taken) (room : ℕ) (l : List ℕ) where
  -- of a whole record, whose length says n, and of which t was taken
  pub read_whole : (n kind : ℕ) {t : Taken} → whole_of l ≡ true → n ≡ pair_at l 0 → kind ≡ pair_at l 2 →
      t ≡ fitted_of room (told kind (part (4 + n - 4) l 4))
      → taken_read kind (4 + n) t ≡ front_by told room l
  unfolding front_by
  read_whole n kind w en ek et = rw (rec_whole l n kind w en ek, size_whole l n kind w en ek) (ap (taken_read kind (4 + n)) et)

  -- of a cut one
  pub read_cut : whole_of l ≡ false → refused_of 0 2 (length l) ≡ front_by told room l
  unfolding front_by
  read_cut w = rw (rec_cut l w, size_cut l w) refl

-- ---- the answer is a byte, and the reply fits the room that is left

-- each event is answered 0, and its reply has the bytes that it asks
pub record Replying {S : Type 0} (k : Steps S) : Type 0 where
  pub answer : (σ : S) (p : List ℕ) (e : Event) → (k.event σ p e).answer ≡ 0
  pub reply : (σ : S) (p : List ℕ) (e : Event) → length (k.event σ p e).reply ≡ asks_of e

record Small {S : Type 0} (room : ℕ) (d : Did S) : Type 0 where
  answer : d.answer < 256
  reply : length d.reply ≤ room

module _ {S : Type 0} (k : Steps S) (h : Replying k) where
  taken_small : (σ : S) (room : ℕ) (p : List ℕ) (t : Taken) → Small room (answered_by k σ p (fitted_of room t))
  taken_small σ room p (Ok e) =
      picked (λ (t : Taken). Small room (answered_by k σ p t)) (ltb room (asks_of e)) _ _
      (λ full. record { answer = omega arith; reply = zero-le })
      (λ fits. record { answer = omega (arith, h.answer σ p e); reply = omega (arith, h.reply σ p e, ltb-false room (asks_of e) fits) })
  taken_small σ room p (Err r) = record { answer = omega (arith, (refusal_range r).1); reply = zero-le }

  small : (σ : S) (room : ℕ) (r : Rec) → Small room (record_by k σ room r)
  small σ room (whole kind p) = taken_small σ room p (k.told σ kind p)
  small σ room cut = record { answer = omega arith; reply = zero-le }

  pub record_fits : Fits (record_by k)
  record_fits = record { answer = λ σ room r. (small σ room r).answer; reply = λ σ room r. (small σ room r).reply }

-- ---- of sessions

pub session_replying : Replying of_session
session_replying = record { answer = answers; reply = replies }
  where
    answers : (σ : Session) (p : List ℕ) (e : Event) → (event_did σ p e).answer ≡ 0
    answers σ p (Image f) = refl
    answers σ p (Change c) = refl
    answers σ p (Transact t) = refl

    replies : (σ : Session) (p : List ℕ) (e : Event) → length (event_did σ p e).reply ≡ asks_of e
    replies σ p (Image f) = refl
    replies σ p (Change c) = refl
    replies σ p (Transact t) = reply_length σ.gauge t (master_of t p)

pub did_fits : Fits did_of
unfolding did_of
did_fits = record { answer = (record_fits of_session session_replying).answer; reply = (record_fits of_session session_replying).reply }
