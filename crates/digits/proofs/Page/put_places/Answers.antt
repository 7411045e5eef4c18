-- `digits::Page::put_places` meets its contract: the digits from the first place on that the number reaches.
use native.Mathlib.Omega.{arith}
use lib.ListN.{drop}
use Rattle.digits.specs.Digits.{places_of, short_text, Appends}
use Rattle.digits.proofs.Laws.{wider, left_out, shown}
use Rattle.digits.proofs.Page.put_places.Goals as goal

pub returns-then-n-ge10000 : goal.returns-then-n-ge10000
unfolding short_text
returns-then-n-ge10000 c = let n = c.args.n in
    rw (shown n 10000 (omega arith), shown n 1000 (omega arith), shown n 100 (omega arith), shown n 10 (omega arith))
    (wider (rw c.requires.five_value at c.put_bytes.ensures) (omega arith))

pub returns-then-n-ge1000 : goal.returns-then-n-ge1000
unfolding short_text
returns-then-n-ge1000 c = let n = c.args.n in
    let four : Appends 4 (drop 1 (places_of n)) c.args.self.now c.put_bytes-then-n-ge1000.new.self =
    rw c.requires.five_value at c.put_bytes-then-n-ge1000.ensures in
    rw (left_out n 10000 (omega arith), shown n 1000 (omega arith), shown n 100 (omega arith), shown n 10 (omega arith))
    (wider four (omega arith))

pub returns-then-n-ge100 : goal.returns-then-n-ge100
unfolding short_text
returns-then-n-ge100 c = let n = c.args.n in
    rw (left_out n 10000 (omega arith), left_out n 1000 (omega arith), shown n 100 (omega arith), shown n 10 (omega arith))
    (wider (rw c.requires.five_value at c.put_bytes-then-n-ge100.ensures) (omega arith))

pub returns-then-n-ge10 : goal.returns-then-n-ge10
unfolding short_text
returns-then-n-ge10 c = let n = c.args.n in
    rw (left_out n 10000 (omega arith), left_out n 1000 (omega arith), left_out n 100 (omega arith), shown n 10 (omega arith))
    (wider (rw c.requires.five_value at c.put_bytes-then-n-ge10.ensures) (omega arith))

pub returns-else-n-ge10 : goal.returns-else-n-ge10
unfolding short_text
returns-else-n-ge10 c = let n = c.args.n in
    rw (left_out n 10000 (omega arith), left_out n 1000 (omega arith), left_out n 100 (omega arith), left_out n 10 (omega arith))
    (wider (rw c.requires.five_value at c.put_bytes-else-n-ge10.ensures) (omega arith))
