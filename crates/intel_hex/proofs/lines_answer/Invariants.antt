-- `intel_hex::lines_answer` meets its contract. The invariant: the lines from here on answer as all do.
use Rattle.std.proofs.Common.{◌≡◌}
use Rattle.intel_hex.specs.Import.{text_lines, lines_left, lines_answer}
use Rattle.intel_hex.proofs.lines_answer.Given as goal

abbrev pub invariant-loop-line : goal.invariant-loop-line
invariant-loop-line l = lines_answer (lines_left l.line-iterator) ≡ lines_answer (text_lines l.text)
