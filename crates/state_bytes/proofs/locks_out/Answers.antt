use Rattle.state_bytes.proofs.Places.{locks_became}
use Rattle.state_bytes.proofs.locks_out.Goals as goal

pub returns : goal.returns
returns c = search locks_became
