-- What is taken comes at its time; so once an image was accepted, the gauge of a session is one that events reach from it.
use mathlib.Core.Path.{◌≡◌}
use mathlib.Core.Bool.{true, false}
use mathlib.Core.List.{List, [], ◌∷◌}
use Prim.Native.Nat.{ℕ, ◌-◌}
use lib.ListN.{length}
use Rattle.std.specs.Prelude.{Ok, Err}
use Rattle.gauge.specs.Reach.{Reached, accepted, changed, acted_on}
use Rattle.record.specs.declared.Event.TheVariants.{Image, Change, Transact}
use Rattle.record.specs.Record.{master_of, taken_of, timed_of, Taken}
use Rattle.record.proofs.Fits.{Taking, timed_taking}
use Rattle.runs.specs.Record.{Rec, whole, cut}
use Rattle.runs.specs.Run.{end_after}
use Rattle.runs.specs.declared.Session.{Session}
use Rattle.runs.specs.SessionRecord.{last_tick, taken_did, did_of}
use Rattle.demands.proofs.Fitted.{fitted_has}

abbrev pub Loaded : Session → Type 0
Loaded σ = σ.loaded ≡ true → Reached σ.gauge

module _ (σ : Session) (room : ℕ) (g : Loaded σ) where
  taken_reached : (p : List ℕ) (t : Taken) → Taking false σ.loaded p t → Loaded (taken_did σ p t).state
  taken_reached p (Ok (Image f)) h = λ e. accepted f p h.1
  taken_reached p (Ok (Change c)) h = λ e. changed σ.gauge c (g h)
  taken_reached p (Ok (Transact t)) h = λ e. acted_on σ.gauge t (master_of t p) (g h.0)
  taken_reached p (Err r) h = g

  did_reached : (r : Rec) → Loaded (did_of σ room r).state
  unfolding did_of
  did_reached (whole kind p) =
      let t = timed_of (last_tick σ) (taken_of kind σ.loaded p) in
      fitted_has (λ x. Loaded (taken_did σ p x).state) g room t (taken_reached p t (timed_taking σ.loaded p (last_tick σ) kind))
  did_reached cut = g

pub end_reached : (σ : Session) (room : ℕ) (rs : List Rec) → Loaded σ → Loaded (end_after did_of σ room rs)
end_reached σ room [] g = g
end_reached σ room (r ∷ rs) g =
    let d = did_of σ room r in
    end_reached d.state (room - length d.reply) rs (did_reached σ room g r)
