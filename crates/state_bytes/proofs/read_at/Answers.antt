use Rattle.state_bytes.proofs.Places.{meter_good, reading_became}
use Rattle.state_bytes.proofs.read_at.Goals as goal

pub read-next-requires : goal.read-next-requires
read-next-requires c = search meter_good

pub returns : goal.returns
returns c = search reading_became
