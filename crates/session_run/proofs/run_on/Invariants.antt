-- Each turn of the loop takes one record, and what is still to come is the rest of the whole.
use Prim.Native.Nat.{◌-◌}
use lib.ListN.{length}
use Rattle.session_run.proofs.Turns.{Stands}
use Rattle.session_run.proofs.run_on.Given as goal

abbrev pub invariant-loop-rest : goal.invariant-loop-rest
invariant-loop-rest l =
    Stands (record {
      loaded = l.initial.loaded;
      gauge =
          l.initial.gauge;
    }) l.bytes l.initial.room l.initial.answers l.loaded l.gauge l.at l.used l.lines l.room l.answers

abbrev pub decreases-loop-rest : goal.decreases-loop-rest
decreases-loop-rest l = length l.bytes - l.at
