-- `slices::store` meets its contract. The invariant: what is still to be put, over what stands there now, is the whole.
use mathlib.Core.Path.{◌≡◌}
use Prim.Native.Nat.{◌+◌}
use lib.ListN.{length, drop}
use Rattle.slices.specs.Slices.{put}
use Rattle.slices.proofs.store.Given as goal

abbrev pub invariant-loop-i : goal.invariant-loop-i
invariant-loop-i l = (length l.dst ≡ length l.initial.dst) × (put l.dst (l.at + l.i) (drop l.i l.src) ≡ put l.initial.dst l.at l.src)
