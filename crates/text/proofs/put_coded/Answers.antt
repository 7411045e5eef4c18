-- `text::put_coded` meets its contract, by joining its pieces.
use mathlib.Core.Path.{ap}
use native.Mathlib.Omega.{arith}
use lib.ListN.{length}
use borrow.Author.Rules.{rules}
use Rattle.digits.proofs.Laws.{then, wider, fronted}
use Rattle.text.proofs.Going.{most_short}
use Rattle.text.proofs.put_coded.Goals as goal

pub put_codes-requires : goal.put_codes-requires
put_codes-requires c = let held = c.requires in
    let blank = c.new-page.ensures in
    let header = c.put_header.ensures in
    let most = most_short (length c.args.codes.now) (length c.args.replies.now) held.numbered in
    record {
      codes_bound = omega (arith, held.numbered);
      replies_in_bounds = omega (arith, most, held.fits, blank.front, ap length blank.same, header.size, header.writing.within);
    }

pub returns-in-Done : goal.returns-in-Done
returns-in-Done c = let most = most_short (length c.args.codes.now) (length c.args.replies.now) c.requires.numbered in
    rw c.in-Done.is
    (fronted c.new-page.ensures (wider (then c.put_header.ensures c.put_codes.ensures) (omega (arith, most))) (search rules))

pub returns-in-Over : goal.returns-in-Over
returns-in-Over c = rw c.in-Over.is
    (fronted c.new-page.ensures (wider (then c.put_header.ensures c.put_over.ensures) (omega arith)) (search rules))
