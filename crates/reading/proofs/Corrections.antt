use mathlib.Core.Path.{◌≡◌, refl}
use mathlib.Core.Bool.{Bool, true, false}
use Prim.Native.Nat.{ℕ}
use lib.Dec.{ltb}
use Rattle.numbers.specs.Choice.{pick, either, but_not}
use Rattle.state.specs.declared.Charge.{Charge}
use Rattle.state.specs.State.{acr_of}
use Rattle.conversion.specs.Conversion.{set_of}
use Rattle.reading.specs.Reading.{emptied_of, drained_of, results_shown, read_of, seen_in, empty_in, point_in, corrects_empty, emptied_in}
use Rattle.state.specs.declared.Meter.{Meter}

-- ---- a reading

emptied_just : (g : Charge) (holds point : Bool) (e : ℕ)
    → emptied_of g holds point e
    ≡ pick (but_not (either point (but_not (ltb e (acr_of g.count)) g.learnf)) holds) (set_of g e (pick point (ltb 0 e) g.learnf)) g
unfolding emptied_of
emptied_just g true point e = refl
emptied_just g false true e = refl
emptied_just g false false e = refl

-- where it corrects, ACR is E; and else it leaves the charge
pub read_charge : (m : Meter) (volt temp : ℕ) → (read_of m volt temp).charge ≡ pick (corrects_empty m volt temp) (emptied_in m volt temp) m.charge
unfolding read_of results_shown drained_of
read_charge m volt temp = emptied_just m.charge (seen_in m volt temp).holds (point_in m) (empty_in m volt temp)
