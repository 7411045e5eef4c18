use mathlib.Core.Path.{◌≡◌, refl}
use Prim.Native.Nat.{ℕ, ◌/◌, ◌%◌, ◌<◌}
use native.Mathlib.Omega.{arith}
use Rattle.state_bytes.proofs.flow_bytes.Goals as goal

high_byte : (x : ℕ) → x < 65536 → x / 256 % 256 ≡ x / 256
high_byte x small = omega arith

pub returns : goal.returns
returns c =
    let flow = c.args.flow in
    let sum : flow.average.sum / 16777216 % 256 ≡ flow.average.sum / 16777216 = omega arith in
    rw (
      c.to_le_bytes.ensures,
      c.to_le_bytes-2.ensures,
      c.to_le_bytes-3.ensures,
      c.to_le_bytes-4.ensures,
      c.to_le_bytes-5.ensures,
      c.to_le_bytes-6.ensures,
      c.to_le_bytes-7.ensures,
      high_byte flow.trace.before (omega arith),
      high_byte flow.trace.last (omega arith),
      high_byte flow.since.lowest (omega arith),
      high_byte flow.average.made (omega arith),
      high_byte flow.average.iavg (omega arith),
      high_byte flow.tick.last (omega arith),
      sum,
      c.flag.ensures,
      c.flag-2.ensures,
      c.flag-3.ensures,
      c.flag-4.ensures,
      c.flag-5.ensures,
    )
    refl
