-- `slices::laid` meets its contract: it stores the bytes that fall into the array, if there are any.
use mathlib.Core.Path.{sym, ◌∙◌}
use Prim.Native.Nat.{◌+◌}
use native.Mathlib.Omega.{arith}
use lib.ListN.{length}
use Rattle.slices.proofs.Laws.{laid_none, laid_copied}
use Rattle.slices.proofs.laid.Goals as goal

pub returns-then-first-past : goal.returns-then-first-past
returns-then-first-past c = let a = c.args in
    c.store.ensures
    ∙ laid_copied a.low (a.low + length a.array.now) a.array.now a.a a.bytes.now _ _ c.max-first.ensures
    c.min-past.ensures c.if-first-past.true

pub returns-else-first-past : goal.returns-else-first-past
returns-else-first-past c = let a = c.args in
    sym (laid_none a.low (a.low + length a.array.now) a.array.now a.a a.bytes.now (omega arith))
