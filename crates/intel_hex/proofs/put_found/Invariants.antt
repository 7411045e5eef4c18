-- `intel_hex::put_found` meets its contract. The invariant: the data are among the lines from here on, and nothing was written.
use Rattle.std.proofs.Common.{◌≡◌}
use Rattle.intel_hex.specs.Import.{text_lines, lines_left, data_at}
use Rattle.intel_hex.proofs.put_found.Given as goal

abbrev pub invariant-loop-line : goal.invariant-loop-line
invariant-loop-line l = (l.page ≡ l.initial.page) × (data_at l.address (lines_left l.line-iterator) ≡ data_at l.address (text_lines l.text))
