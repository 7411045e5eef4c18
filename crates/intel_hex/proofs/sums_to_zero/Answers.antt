-- `intel_hex::sums_to_zero` meets its contract.
use Rattle.std.proofs.Common.{◌≡◌, ℕ, ◌-◌, ◌%◌, eqb, length, ap, ◌∙◌, arith}
use Rattle.slices.specs.Slices.{part}
use Rattle.digits.specs.Digits.{upper, hex_bytes}
use Rattle.intel_hex.specs.Line.{byte_sum, sums_to_zero}
use Rattle.intel_hex.proofs.sums_to_zero.Goals as goal

pub returns : goal.returns
unfolding sums_to_zero
returns c = let l = c.args.line.now in
    let same : length l - 1 - 1 ≡ length l - 2 = omega arith in
    ap (λ (x : ℕ). eqb x 0) (c.total_read.ensures ∙ ap (λ (n : ℕ). byte_sum (hex_bytes upper (part n l 1)) % 256) same)
