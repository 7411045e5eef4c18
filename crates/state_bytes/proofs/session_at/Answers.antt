use Rattle.state_bytes.specs.State.{session_at}
use Rattle.state_bytes.proofs.session_at.Goals as goal

pub returns : goal.returns
unfolding session_at
returns c = cc
