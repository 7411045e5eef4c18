-- `checksum::put_sums` meets its contract, by the laws of its loop.
use lib.ListN.{length}
use Rattle.checksum.proofs.Going.{Going}
use Rattle.checksum.proofs.put_sums.Given as goal

abbrev pub invariant-loop-rest : goal.invariant-loop-rest
invariant-loop-rest l = Going l.bytes l.initial.page l.page l.rest

abbrev pub decreases-loop-rest : goal.decreases-loop-rest
decreases-loop-rest l = length l.rest
