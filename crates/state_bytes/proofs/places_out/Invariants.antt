use Rattle.state_bytes.proofs.TrayLaws.{Out}
use Rattle.state_bytes.proofs.places_out.Given as goal

abbrev pub invariant-loop-i : goal.invariant-loop-i
invariant-loop-i l = Out l.commons l.labels l.meters l.initial.room l.room l.i
