-- `digits::Page::put_counted` meets its contract.
use native.Mathlib.Omega.{arith}
use Rattle.digits.proofs.Laws.{decimal_short, width_short}
use Rattle.digits.proofs.Page.put_counted.Goals as goal

pub put_places-requires : goal.put_places-requires
put_places-requires c = record {
  five_value = c.unpacked-five.ensures;
  used_in_bounds =
      omega (arith, c.requires.n_in_bounds, width_short c.args.n (omega (arith, c.if-n-lt10000.true)));
}

pub returns-then-n-lt10000 : goal.returns-then-n-lt10000
returns-then-n-lt10000 c = let n = c.args.n in
    let few = c.if-n-lt10000.true in
    rw (width_short n (omega (arith, few)), decimal_short n (omega (arith, few))) c.put_places.ensures
