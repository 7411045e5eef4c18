use Rattle.state_bytes.proofs.Places.{meter_good, sample_became}
use Rattle.state_bytes.proofs.sampled_at.Goals as goal

pub sample-next-requires : goal.sample-next-requires
sample-next-requires c = search meter_good

pub returns : goal.returns
returns c = search sample_became
