-- `digits::Page::put_decimal` meets its contract.
use native.Mathlib.Omega.{arith}
use Rattle.digits.proofs.Laws.{wider, single, decimal_short}
use Rattle.digits.proofs.Page.put_decimal.Goals as goal

pub returns-then-n-lt10 : goal.returns-then-n-lt10
returns-then-n-lt10 c = wider (rw (single c.args.n c.if-n-lt10.true) at c.put_byte.ensures) (omega arith)

pub returns : goal.returns
returns c = rw (decimal_short c.args.n c.requires.n_bound) c.put_places.ensures
