use Rattle.state_bytes.proofs.Places.{parts_became}
use Rattle.state_bytes.proofs.parts_out.Goals as goal

pub returns : goal.returns
returns c = search parts_became
