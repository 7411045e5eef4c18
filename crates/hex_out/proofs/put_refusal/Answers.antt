-- `hex_out::put_refusal` meets its contract, by joining its pieces.
use Prim.Native.Nat.{◌+◌}
use native.Mathlib.Omega.{arith}
use Rattle.digits.proofs.Laws.{then, wider}
use Rattle.hex_out.proofs.put_refusal.Goals as goal

pub returns : goal.returns
returns c = wider {m = 39 + (5 + (2 + 50))}
    (then c.put_bytes.ensures
    (then c.put_decimal.ensures
    (then c.put_bytes-2.ensures c.put_meaning.ensures)))
    (omega arith)
