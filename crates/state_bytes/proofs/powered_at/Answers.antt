use Rattle.state_bytes.proofs.Places.{power_became}
use Rattle.state_bytes.proofs.powered_at.Goals as goal

pub returns : goal.returns
returns c = search power_became
