use mathlib.Core.Path.{◌≡◌}
use Prim.Native.Nat.{◌-◌}
use Rattle.state_bytes.specs.Tested.{sound_places}
use Rattle.state_bytes.proofs.sound_places.Given as goal

abbrev pub invariant-loop-i : goal.invariant-loop-i
invariant-loop-i l = sound_places l.bytes l.from l.i (l.n - l.i) ≡ sound_places l.bytes l.from 0 l.n
