use Rattle.state_bytes.proofs.Places.{meter_good, conversion_became}
use Rattle.state_bytes.proofs.converted_at.Goals as goal

pub convert-next-requires : goal.convert-next-requires
convert-next-requires c = search meter_good

pub returns : goal.returns
returns c = search conversion_became
