use mathlib.Core.Path.{◌≡◌, refl}
use Prim.Native.Nat.{ℕ}
use Rattle.state.specs.declared.Meter.{Meter}
use Rattle.reading.specs.Reading.{results_shown, read_of}

-- a reading leaves the counter, at the empty point too
pub read_cycles : (m : Meter) (v t : ℕ) → (read_of m v t).cycles ≡ m.cycles
unfolding read_of results_shown
read_cycles m v t = refl
