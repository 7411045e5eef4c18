use Rattle.state_bytes.proofs.Laws.{stored_then}
use Rattle.state_bytes.proofs.gauge_out.Goals as goal

pub returns : goal.returns
returns c = stored_then c.label_out.ensures (stored_then c.common_out.ensures c.meter_out.ensures)
