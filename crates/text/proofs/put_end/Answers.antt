-- `text::put_end` meets its contract.
use mathlib.Core.Path.{sym, ◌∙◌}
use native.Mathlib.Omega.{arith}
use Rattle.digits.proofs.Laws.{then, wider}
use Rattle.text.specs.Line.{reply_text, end_text}
use Rattle.text.proofs.put_end.Goals as goal

pub returns-then-is_empty : goal.returns-then-is_empty
unfolding reply_text end_text
returns-then-is_empty c = rw (sym c.is_empty.ensures ∙ c.if-is_empty.true) (wider c.put_bare_end.ensures (omega arith))

pub returns : goal.returns
unfolding reply_text end_text
returns c = rw (sym c.is_empty.ensures ∙ c.if-is_empty.false) (wider (then c.put_hex.ensures c.put_byte.ensures) (omega arith))
