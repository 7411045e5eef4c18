-- `intel_hex::total_read` meets its contract. The invariant is that of `total`, of the bytes that the digits stand for.
use Rattle.std.proofs.Common.{◌≡◌, ◌+◌, ◌%◌, ◌<◌}
use Rattle.std.specs.Slice.Iter.{chunks_exact_rest, chunks_exact_size}
use Rattle.digits.specs.Digits.{upper, hex_bytes}
use Rattle.intel_hex.specs.Line.{byte_sum}
use Rattle.intel_hex.proofs.total_read.Given as goal

abbrev pub invariant-loop-pair : goal.invariant-loop-pair
invariant-loop-pair l = (chunks_exact_size l.pair-iterator ≡ 2) × (l.sum < 256) ×
    ((l.sum + byte_sum (hex_bytes upper (chunks_exact_rest l.pair-iterator))) % 256 ≡ byte_sum (hex_bytes upper l.text) % 256)
