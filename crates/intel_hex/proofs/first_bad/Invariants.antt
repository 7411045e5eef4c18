-- `intel_hex::first_bad` meets its contract. The invariant: no line so far is bad, so that the first bad one from here on is the first of all; and there
-- are as many lines as were passed and are left.
use Rattle.std.proofs.Common.{◌≡◌, ◌+◌, length}
use Rattle.std.specs.Iterator.Adapters.{enumerate_source, enumerate_count}
use Rattle.intel_hex.specs.Import.{text_lines, lines_left}
use Rattle.intel_hex.specs.Flaw.{flaw_from}
use Rattle.intel_hex.proofs.first_bad.Given as goal

abbrev pub invariant-loop-i : goal.invariant-loop-i
invariant-loop-i l = (enumerate_count l.i-iterator + length (lines_left (enumerate_source l.i-iterator)) ≡ length (text_lines l.text)) ×
    (flaw_from (enumerate_count l.i-iterator + 1) (lines_left (enumerate_source l.i-iterator)) ≡ flaw_from 1 (text_lines l.text))
