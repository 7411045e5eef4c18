use Rattle.state_bytes.proofs.Tested.{locks_fail, charge_fails, currents_fail, average_fails, all_octets}
use Rattle.state_bytes.proofs.clear_octets.Goals as goal

pub returns-then-not-clear : goal.returns-then-not-clear
returns-then-not-clear c = search locks_fail

pub returns-then-not-clear-2 : goal.returns-then-not-clear-2
returns-then-not-clear-2 c = search charge_fails

pub returns-then-not-clear-3 : goal.returns-then-not-clear-3
returns-then-not-clear-3 c = search currents_fail

pub returns-then-not-clear-4 : goal.returns-then-not-clear-4
returns-then-not-clear-4 c = search average_fails

pub returns : goal.returns
returns c = search all_octets
