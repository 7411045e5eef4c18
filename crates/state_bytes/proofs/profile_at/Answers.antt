use mathlib.Core.Path.{refl, sym, ◌∙◌}
use Rattle.state_bytes.proofs.profile_at.Goals as goal

pub returns-then-flag_at : goal.returns-then-flag_at
returns-then-flag_at c = rw (sym c.flag_at.ensures ∙ c.if-flag_at.true) refl

pub returns : goal.returns
returns c = rw (sym c.flag_at.ensures ∙ c.if-flag_at.false) refl
