-- `text::put_refused_image` meets its contract, by joining its pieces.
use Prim.Native.Nat.{◌+◌}
use native.Mathlib.Omega.{arith}
use Rattle.digits.proofs.Laws.{then, wider}
use Rattle.text.proofs.put_refused_image.Goals as goal

pub returns : goal.returns
returns c =
    wider {m = 37 + (5 + (6 + (5 + (2 + 50))))}
    (then c.put_bytes.ensures
    (then c.put_decimal.ensures
    (then c.put_bytes-2.ensures
    (then c.put_decimal-2.ensures
    (then c.put_bytes-3.ensures c.put_meaning.ensures)))))
    (omega arith)
