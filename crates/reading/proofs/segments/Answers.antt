use Rattle.reading.proofs.Ends.{counts}
use Rattle.reading.proofs.segments.Goals as goal

pub returns : goal.returns
returns c = counts c.args.breaks c.args.t c.min-end1.ensures c.end-end4.ensures.value c.end-end3.ensures.value c.end-end2.ensures.value
