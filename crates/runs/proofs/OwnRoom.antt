-- No record asks more than 256 bytes of reply, so that with as much of its own none is refused for the room.
use mathlib.Core.Path.{◌≡◌, refl, ap, subst}
use mathlib.Core.Bool.{false}
use mathlib.Core.List.{List}
use Prim.Native.Nat.{ℕ, ◌≤◌}
use native.Mathlib.Omega.{arith}
use borrow.Author.Tests.{le-ltb}
use Rattle.std.specs.Prelude.{Ok, Err}
use Rattle.record.specs.declared.Event.{Event}
use Rattle.record.specs.declared.Event.TheVariants.{Image, Change, Transact}
use Rattle.record.specs.Record.{asks_of, fitted_of, Taken}
use Rattle.record.proofs.Fits.{Taking, timed_taking}
use Rattle.runs.specs.Record.{Rec, whole, cut}
use Rattle.runs.specs.declared.Session.{Session}
use Rattle.runs.specs.AnyRecord.{Steps, answered_by, record_by}
use Rattle.runs.specs.SessionRecord.{last_tick, of_session, did_of}

-- what is asked is at most so much
abbrev pub Modest : {S : Type 0} → Steps S → ℕ → Type 0
Modest {S} k most = (σ : S) (kind : ℕ) (p : List ℕ) (e : Event) → k.told σ kind p ≡ Ok e → asks_of e ≤ most

module _ {S : Type 0} (k : Steps S) (most : ℕ) (modest : Modest k most) where
  fitted_same : (σ : S) (kind : ℕ) (p : List ℕ) (room : ℕ) → most ≤ room → (t : Taken) → k.told σ kind p ≡ t → fitted_of room t ≡ fitted_of most t
  fitted_same σ kind p room h (Ok e) told =
      let few = modest σ kind p e told in
      rw (le-ltb room (asks_of e) (omega arith), le-ltb most (asks_of e) few) refl
  fitted_same σ kind p room h (Err r) told = refl

  pub record_same : (σ : S) (room : ℕ) (r : Rec) → most ≤ room → record_by k σ room r ≡ record_by k σ most r
  record_same σ room (whole kind p) h = ap (answered_by k σ p) (fitted_same σ kind p room h (k.told σ kind p) refl)
  record_same σ room cut h = refl

-- ---- of sessions

session_modest : Modest of_session 256
session_modest σ kind p (Image f) told = omega arith
session_modest σ kind p (Change c) told = omega arith
session_modest σ kind p (Transact t) told =
    (subst (Taking false σ.loaded p) told (timed_taking σ.loaded p (last_tick σ) kind)).1.few

pub did_own : (σ : Session) (room : ℕ) (r : Rec) → 256 ≤ room → did_of σ room r ≡ did_of σ 256 r
unfolding did_of
did_own = record_same of_session 256 session_modest
