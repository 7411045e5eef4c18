use mathlib.Core.Path.{◌≡◌, refl}
use Prim.Native.Nat.{◌/◌, ◌%◌}
use native.Mathlib.Omega.{arith}
use Rattle.state_bytes.proofs.charge_bytes.Goals as goal

pub returns : goal.returns
returns c =
    let count : c.args.charge.count / 16777216 % 256 ≡ c.args.charge.count / 16777216 = omega arith in
    let age : c.args.charge.age / 16777216 % 256 ≡ c.args.charge.age / 16777216 = omega arith in
    rw (c.to_le_bytes.ensures, c.to_le_bytes-2.ensures, count, age, c.flag.ensures, c.flag-2.ensures) refl
