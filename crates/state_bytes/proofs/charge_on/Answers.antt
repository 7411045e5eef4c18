use Rattle.state_bytes.proofs.Laws.{stored_both, stored_as}
use Rattle.state_bytes.proofs.charge_on.Goals as goal

pub returns : goal.returns
returns c = search (stored_both, stored_as)
