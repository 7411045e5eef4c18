use Rattle.std.proofs.Common.{rules}
use Rattle.slices.proofs.Laws.{part_rest}
use Rattle.record.specs.Record.{head_of}
use Rattle.record.proofs.Fits.{counts_asked}
use Rattle.record.proofs.transaction_taken.Goals as goal

pub returns-then-room-n : goal.returns-then-room-n
returns-then-room-n c = let e = counts_asked c.args.form c.args.payload.now in search rules

pub returns : goal.returns
returns c =
    let e = counts_asked c.args.form c.args.payload.now in
    let m = part_rest c.args.payload.now (head_of c.args.form) in
    search rules
