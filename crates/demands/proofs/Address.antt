-- Once an image was accepted no record changes the net address, and no image is taken again; so a class is the same wherever it is judged.
use mathlib.Core.Path.{◌≡◌, refl, ap, ◌∙◌}
use mathlib.Core.Bool.{true, false}
use mathlib.Core.List.{List, [], ◌∷◌}
use Prim.Native.Nat.{ℕ, ◌-◌}
use lib.ListN.{length}
use Rattle.std.specs.Prelude.{Ok, Err}
use Rattle.gauge.specs.declared.Gauge.{Gauge}
use Rattle.gauge.proofs.Kept.{address_kept}
use Rattle.record.specs.declared.Event.TheVariants.{Image, Change, Transact}
use Rattle.record.specs.Record.{master_of, taken_of, timed_of, Taken}
use Rattle.record.proofs.Fits.{Taking, timed_taking}
use Rattle.runs.specs.Record.{Rec, whole, cut}
use Rattle.runs.specs.Run.{end_after}
use Rattle.runs.specs.declared.Session.{Session}
use Rattle.runs.specs.SessionRecord.{loaded_with, last_tick, taken_did, did_of}
use Rattle.demands.specs.Class.{class_of}
use Rattle.demands.proofs.Choice.{contrary}
use Rattle.demands.proofs.Fitted.{fitted_has}

-- What a record leaves: an image that was accepted, and the same address

abbrev pub Owned : List ℕ → Gauge → Type 0
Owned address g = g.common.address ≡ address

pub record Stays (address : List ℕ) (σ : Session) : Type 0 where
  pub loaded : σ ≡ loaded_with σ.gauge
  pub owned : Owned address σ.gauge

module _ (g : Gauge) where
  abbrev address : List ℕ
  address = g.common.address

  pub taken_stays : (p : List ℕ) (t : Taken) → Taking false true p t → Stays address (taken_did (loaded_with g) p t).state
  taken_stays p (Ok (Image f)) h = let z = h.0 in contrary cc
  taken_stays p (Ok (Change c)) h =
      record { loaded = refl; owned = (address_kept (λ f a. a ≡ address)).change g c refl }
  taken_stays p (Ok (Transact t)) h =
      record { loaded = refl; owned = (address_kept (λ f a. a ≡ address)).act g t (master_of t p) refl }
  taken_stays p (Err r) h = record { loaded = refl; owned = refl }

  did_stays : (room : ℕ) (r : Rec) → Stays address (did_of (loaded_with g) room r).state
  unfolding did_of
  did_stays room (whole kind p) =
      let t = timed_of (last_tick (loaded_with g)) (taken_of kind true p) in
      fitted_has (λ x. Stays address (taken_did (loaded_with g) p x).state) (record { loaded = refl; owned = refl }) room t
      (taken_stays p t (timed_taking true p (last_tick (loaded_with g)) kind))
  did_stays room cut = record { loaded = refl; owned = refl }

pub end_stays : (g : Gauge) (room : ℕ) (rs : List Rec) → Stays g.common.address (end_after did_of (loaded_with g) room rs)
end_stays g room [] = record { loaded = refl; owned = refl }
end_stays g room (r ∷ rs) =
    let d = did_of (loaded_with g) room r in
    let h = did_stays g room r in
    let k = end_stays d.state.gauge (room - length d.reply) rs in
    rw h.loaded (record { loaded = k.loaded; owned = k.owned ∙ h.owned })

-- CLASSES DO NOT DEPEND ON HOW EVENTS WERE MIXED: judged by the address of the gauge that any records left, the class of a record is the one
-- judged by the address of the accepted image
pub class_same : (g : Gauge) (room : ℕ) (rs : List Rec) (r : Rec)
    → class_of (end_after did_of (loaded_with g) room rs).gauge.common.address r ≡ class_of g.common.address r
class_same g room rs r = ap (λ (a : List ℕ). class_of a r) (end_stays g room rs).owned
