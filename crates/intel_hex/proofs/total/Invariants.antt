-- `intel_hex::total` meets its contract. The invariant: the sum so far, with the bytes that are left, is the sum of all.
use Rattle.std.proofs.Common.{◌≡◌, ◌+◌, ◌%◌, ◌<◌, drop}
use Rattle.intel_hex.specs.Line.{byte_sum}
use Rattle.intel_hex.proofs.total.Given as goal

abbrev pub invariant-loop-byte : goal.invariant-loop-byte
invariant-loop-byte l = (l.sum < 256) × ((l.sum + byte_sum (drop l.byte-index l.bytes)) % 256 ≡ byte_sum l.bytes % 256)
