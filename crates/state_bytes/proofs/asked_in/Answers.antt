use Rattle.state_bytes.specs.State.{session_at}
use Rattle.state_bytes.proofs.asked_in.Goals as goal

pub returns : goal.returns
unfolding session_at
returns c = rw c.tick_at-tick.ensures at c.front.ensures
