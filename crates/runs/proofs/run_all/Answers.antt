use native.Mathlib.Omega.{arith}
use Rattle.runs.proofs.Records.{recs_few}
use Rattle.runs.proofs.run_all.Goals as goal

pub run_on-requires-clause-bytes_in_bounds : goal.run_on-requires-clause-bytes_in_bounds
run_on-requires-clause-bytes_in_bounds g c = omega (arith, c.requires.bytes_in_bounds, recs_few 0 c.args.bytes.now)
