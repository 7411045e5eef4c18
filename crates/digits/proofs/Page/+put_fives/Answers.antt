use native.Mathlib.Omega.{arith}
use Rattle.digits.proofs.Laws.{then, wider, fives_short, fives_next}
use Rattle.digits.proofs.Page.+put_fives.Goals as goal

pub returns : goal.returns
returns t c = rw (fives_next c.args.more c.args.n (omega arith) c.if-n-lt100000.false)
    (wider (then c.put_fives.ensures (rw c.places-five.ensures at c.put_bytes.ensures)) (omega arith))
