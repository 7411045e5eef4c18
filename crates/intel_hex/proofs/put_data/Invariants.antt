-- `intel_hex::put_data` meets its contract. The invariant: so many bytes are put.
use Rattle.std.proofs.Common.{take}
use Rattle.digits.specs.Digits.{Appends}
use Rattle.intel_hex.specs.Line.{data_in}
use Rattle.intel_hex.proofs.put_data.Given as goal

abbrev pub invariant-loop-i : goal.invariant-loop-i
invariant-loop-i l = Appends l.i (take l.i (data_in l.line)) l.initial.page l.page
