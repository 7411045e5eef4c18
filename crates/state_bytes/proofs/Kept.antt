-- What events keep of a gauge, a record of a session keeps.
use mathlib.Core.Path.{◌≡◌}
use mathlib.Core.Bool.{false}
use mathlib.Core.List.{List}
use Prim.Native.Nat.{ℕ}
use lib.Dec.{ltb}
use lib.ListN.{length}
use Rattle.std.specs.Prelude.{Ok, Err}
use Rattle.numbers.proofs.Bounds.{picked}
use Rattle.state.specs.declared.Profile.{Profile}
use Rattle.state.specs.State.{image_size_of}
use Rattle.record.specs.declared.Event.{Event}
use Rattle.record.specs.declared.Event.TheVariants.{Image, Change, Transact}
use Rattle.record.specs.Record.{master_of, asks_of, fitted_of, Taken}
use Rattle.record.proofs.Fits.{Taking, timed_taking}
use Rattle.gauge.specs.declared.Gauge.{Gauge}
use Rattle.gauge.specs.Gauge.{Sized, Uncounted}
use Rattle.gauge.specs.Image.{image_of}
use Rattle.gauge.specs.Kept.{Kept}
use Rattle.gauge.proofs.Kept.{sized_kept, uncounted_kept}
use Rattle.gauge.proofs.Reached.{image_sized, image_uncounted}
use Rattle.runs.specs.Record.{Rec, whole, cut}
use Rattle.runs.specs.AnyRecord.{answered_by}
use Rattle.runs.specs.declared.Session.{Session}
use Rattle.runs.specs.SessionRecord.{last_tick, told_of, event_did, of_session, did_of}

module _ (P : Gauge → Type 0) (k : Kept P) (image : (f : Profile) (p : List ℕ) → length p ≡ image_size_of f → P (image_of f p)) where
  did_keeps : (σ : Session) (room : ℕ) (r : Rec) → P σ.gauge → P (did_of σ room r).state.gauge
  unfolding did_of
  did_keeps σ room cut h = h
  did_keeps σ room (whole kind p) h = fitted (told_of σ.loaded (last_tick σ) kind p) (timed_taking σ.loaded p (last_tick σ) kind)
    where
      event : (e : Event) → Taking false σ.loaded p (Ok e) → P (event_did σ p e).state.gauge
      event (Image f) t = image f p t.2
      event (Change c) t = k.change σ.gauge c h
      event (Transact x) t = k.act σ.gauge x (master_of x p) h

      fitted : (t : Taken) → Taking false σ.loaded p t → P (answered_by of_session σ p (fitted_of room t)).state.gauge
      fitted (Ok e) taking =
          picked (λ (x : Taken). P (answered_by of_session σ p x).state.gauge) (ltb room (asks_of e)) _ _ (λ full. h) (λ fits. event e taking)
      fitted (Err r) taking = h

-- the sizes of its arrays, and that a DS2781 counts no cycles
module _ (σ : Session) (room : ℕ) (r : Rec) where
  pub did_sized : Sized σ.gauge → Sized (did_of σ room r).state.gauge
  did_sized = did_keeps Sized sized_kept image_sized σ room r

  pub did_uncounted : Uncounted σ.gauge → Uncounted (did_of σ room r).state.gauge
  did_uncounted = did_keeps Uncounted uncounted_kept (λ f p e. image_uncounted f p) σ room r
