use Rattle.state_bytes.proofs.TrayActing.{ChangingIn}
use Rattle.state_bytes.proofs.packs_changed_in.Given as goal

abbrev pub invariant-loop-i : goal.invariant-loop-i
invariant-loop-i l = ChangingIn l.transaction l.master l.initial.state l.state l.i
