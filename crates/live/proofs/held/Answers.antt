-- `live::held` meets its contract.
use mathlib.Core.Path.{sym, ap, ◌∙◌}
use Rattle.state_bytes.proofs.Undoing.{was}
use Rattle.live.specs.Live.{held_of}
use Rattle.live.proofs.held.Goals as goal

pub returns-then-is_empty-clause-value : goal.returns-then-is_empty-clause-value
unfolding held_of
returns-then-is_empty-clause-value c = rw (sym c.is_empty.ensures ∙ c.if-is_empty.true) (ap was c.empty.ensures.value)

pub returns-clause-value : goal.returns-clause-value
unfolding held_of
returns-clause-value c = rw (sym c.is_empty.ensures ∙ c.if-is_empty.false) c.state_in.ensures.value
