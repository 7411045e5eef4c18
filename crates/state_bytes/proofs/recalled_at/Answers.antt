use Rattle.state_bytes.proofs.Places.{meter_good, recall_became}
use Rattle.state_bytes.proofs.recalled_at.Goals as goal

pub meter_recalled-meter-requires : goal.meter_recalled-meter-requires
meter_recalled-meter-requires c = search meter_good

pub returns : goal.returns
returns c = search recall_became
