use borrow.Author.Rules.{rules}
use Rattle.std.proofs.Common.{arith}
use Rattle.reading.specs.Reading.{rated_of}
use Rattle.conversion.proofs.ChargeLaws.{aged_full_high}
use Rattle.reading.proofs.rated.Goals as goal

pub overflow_cast-af : goal.overflow_cast-af
overflow_cast-af c = omega (arith, aged_full_high c.args.lines.full c.args.charge.aging c.requires.full_bound c.requires.charge_wf.high)

pub returns : goal.returns
unfolding rated_of
returns c = search rules
