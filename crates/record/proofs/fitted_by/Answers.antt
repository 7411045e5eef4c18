use mathlib.Core.Path.{◌≡◌, refl, sym, ◌∙◌, ap}
use mathlib.Core.Bool.{Bool, false}
use mathlib.Core.List.{List}
use Prim.Native.Nat.{ℕ}
use Rattle.state.specs.declared.Tick.{Tick}
use Rattle.record.specs.declared.Kind.{Kind}
use Rattle.record.specs.declared.Kind.TheVariants as kind
use Rattle.record.specs.Record.{taken_by, timed_of, fitted_of, Taken}
use Rattle.record.proofs.Fits.{Stateless, passes, transaction_timely, sample_fits_lem}
use Rattle.record.proofs.fitted_by.Goals as goal

arm : (room : ℕ) (last : Tick) (again loaded : Bool) (p : List ℕ) (said k : Kind) (r : Taken) → said ≡ k
    → r ≡ fitted_of room (timed_of last (taken_by again k loaded p)) → r ≡ fitted_of room (timed_of last (taken_by again said loaded p))
arm room last again loaded p said k r told given = given ∙ ap (λ (x : Kind). fitted_of room (timed_of last (taken_by again x loaded p))) (sym told)

stateless : (room : ℕ) (last : Tick) (again loaded : Bool) (p : List ℕ) (said k : Kind) (r : Taken) → said ≡ k → Stateless k
    → r ≡ taken_by again k loaded p → r ≡ fitted_of room (timed_of last (taken_by again said loaded p))
stateless room last again loaded p said k r told s given = arm room last again loaded p said k r told (given ∙ passes last again loaded p room k s)

pub returns-in-Image : goal.returns-in-Image
returns-in-Image c = let a = c.args in
    stateless a.room a.last a.again a.loaded a.payload.now _ _ _ c.in-Image.is tt c.image_taken.ensures

pub returns-in-Reading : goal.returns-in-Reading
returns-in-Reading c = let read : let a = c.args in
    c.reading_taken.result ≡ taken_by false kind.Reading a.loaded a.payload.now = c.reading_taken.ensures in
    let a = c.args in
    stateless a.room a.last a.again a.loaded a.payload.now _ _ _ c.in-Reading.is tt read

pub returns-in-Conversion : goal.returns-in-Conversion
returns-in-Conversion c = let a = c.args in
    stateless a.room a.last a.again a.loaded a.payload.now _ _ _ c.in-Conversion.is tt
    c.conversion_taken.ensures

pub returns-in-Transaction : goal.returns-in-Transaction
returns-in-Transaction c = let a = c.args in
    arm a.room a.last a.again a.loaded a.payload.now _ _ _ c.in-Transaction.is
    (c.transaction_taken.ensures
    ∙ ap (fitted_of a.room) (transaction_timely a.last a.again a.loaded a.payload.now c.in-Transaction.form))

pub returns-in-PowerOn : goal.returns-in-PowerOn
returns-in-PowerOn c = let a = c.args in
    stateless a.room a.last a.again a.loaded a.payload.now _ _ _ c.in-PowerOn.is tt
    c.power_on_taken.ensures

pub returns-in-Sample : goal.returns-in-Sample
returns-in-Sample c = let a = c.args in
    arm a.room a.last a.again a.loaded a.payload.now _ _ _ c.in-Sample.is
    (c.sample_taken.ensures ∙ sample_fits_lem a.last a.again a.loaded a.payload.now a.room)

pub returns-in-Unknown : goal.returns-in-Unknown
returns-in-Unknown c = let a = c.args in
    arm a.room a.last a.again a.loaded a.payload.now _ _ _ c.in-Unknown.is refl
