use Rattle.std.proofs.Common.{◌∙◌, arith}
use Rattle.digits.proofs.Laws.{one_more, all_of, wider}
use Rattle.intel_hex.specs.Line.{data_in}
use Rattle.intel_hex.proofs.Laws.{data_length, data_at_lem}
use Rattle.intel_hex.proofs.put_data.Goals as goal

pub loop-i-preserved : goal.loop-i-preserved
loop-i-preserved c = let l = c.args.line.now in
    let byte = c.byte_in.ensures ∙ data_at_lem l c.loop-i.i c.loop-i-test.true in
    one_more (data_in l) c.loop-i.i (omega (arith, c.loop-i-test.true, data_length l c.requires.in_bounds)) c.loop-i.invariant (rw byte at c.put_byte.ensures)

pub returns : goal.returns
returns c = let size = data_length c.args.line.now c.requires.in_bounds in
    wider (all_of (data_in c.args.line.now) c.loop-i.i (omega (arith, size, c.loop-i-test.false)) c.loop-i.invariant) (omega arith)
