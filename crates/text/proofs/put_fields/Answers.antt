-- `text::put_fields` meets its contract, by joining its pieces.
use native.Mathlib.Omega.{arith}
use Rattle.digits.proofs.Laws.{then, narrow, three}
use Rattle.text.proofs.put_fields.Goals as goal

pub returns : goal.returns
returns c = let few = three c.args.answer (omega (arith, c.requires)) in
    then c.put_byte.ensures
    (then c.put_kind.ensures
    (then c.put_byte-2.ensures
    (then (narrow c.put_decimal.ensures few) c.put_byte-3.ensures)))
