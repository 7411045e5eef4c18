use Rattle.state_bytes.proofs.Places.{meter_good, lock_became}
use Rattle.state_bytes.proofs.locked_at.Goals as goal

pub meter_locked-meter-requires : goal.meter_locked-meter-requires
meter_locked-meter-requires c = search meter_good

pub returns : goal.returns
returns c = search lock_became
