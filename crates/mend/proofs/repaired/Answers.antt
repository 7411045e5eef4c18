-- `mend::repaired` meets its contract: what is said of what was read is what is said of the whole input.
use mathlib.Core.Path.{◌≡◌}
use native.Mathlib.Omega.{arith}
use lib.ListN.{length}
use Rattle.mend.proofs.Laws.{read_seen}
use Rattle.mend.proofs.repaired.Goals as goal

pub returns-in-Ok-clause-by_index : goal.returns-in-Ok-clause-by_index
returns-in-Ok-clause-by_index c = let size : length c.args.input.now ≡ 61 = omega arith in
    λ s front. rw c.in-Ok.is (read_seen size c.within.ensures (rw c.in-Ok.is at front) c.put_mended.ensures)
