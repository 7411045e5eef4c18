-- The loop of `streams::write_all`: what is left grows shorter with each write.
use mathlib.Core.Path.{◌≡◌, refl}
use lib.ListN.{length}
use Rattle.streams.proofs.write_all.Given as goal

abbrev pub invariant-loop-rest : goal.invariant-loop-rest
invariant-loop-rest g l = length l.rest ≡ length l.rest

abbrev pub decreases-loop-rest : goal.decreases-loop-rest
decreases-loop-rest g l = length l.rest
