use Rattle.state_bytes.proofs.Laws.{stored_both}
use Rattle.state_bytes.proofs.meter_out.Goals as goal

pub returns : goal.returns
returns c = search stored_both
