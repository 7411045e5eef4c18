-- `digits::Page::put_long` meets its contract.
use mathlib.Core.Path.{ap}
use native.Mathlib.Omega.{arith}
use lib.ListN.{length}
use Rattle.digits.specs.Digits.{decimal_text}
use Rattle.digits.proofs.Laws.{then, wider, fives_long, decimal_short, width_short, width_long}
use Rattle.digits.proofs.Page.put_long.Goals as goal

pub put_places-requires : goal.put_places-requires
put_places-requires c = record {
  five_value = c.unpacked-five.ensures;
  used_in_bounds =
      omega (arith, c.requires.n_in_bounds, width_short c.args.n c.if-n-lt100000.true);
}

pub returns-then-n-lt100000 : goal.returns-then-n-lt100000
returns-then-n-lt100000 c = let n = c.args.n in
    let few = c.if-n-lt100000.true in
    rw (width_short n few, decimal_short n few) c.put_places.ensures

pub put_fives-requires : goal.put_fives-requires
put_fives-requires c = omega (arith, c.requires.n_in_bounds, width_long c.args.n c.if-n-lt100000.false)

pub put_bytes-requires : goal.put_bytes-requires
put_bytes-requires c = let above = c.put_fives.ensures in
    let long = width_long c.args.n c.if-n-lt100000.false in
    omega (arith, ap length c.unpacked-five.ensures, above.size, above.writing.within, c.requires.n_in_bounds, long)

pub returns : goal.returns
unfolding decimal_text
returns c = let n = c.args.n in
    let long = c.if-n-lt100000.false in
    rw (width_long n long, fives_long 2 n long)
    (wider (then c.put_fives.ensures (rw c.unpacked-five.ensures at c.put_bytes.ensures)) (omega arith))
