use native.Mathlib.Omega.{arith}
use mathlib.Core.Path.{sym, ◌∙◌}
use Rattle.mending.proofs.Laws.{changes_then}
use Rattle.mending.proofs.put_changes.Goals as goal

pub loop-i-preserved : goal.loop-i-preserved
loop-i-preserved c =
    changes_then _ _ _ (omega arith) (c.requires.old_len ∙ sym c.requires.new_len) c.loop-i.invariant c.put_change.ensures
