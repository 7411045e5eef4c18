-- `text::put_over` meets its contract.
use Rattle.digits.specs.Digits.{shown_text, short_text, decimal_text}
use Rattle.text.specs.Line.{reply_text, end_text}
use Rattle.text.specs.Text.{over_text}
use Rattle.text.proofs.put_over.Goals as goal

pub returns : goal.returns
unfolding over_text decimal_text short_text shown_text end_text reply_text
returns c = c.put_bytes.ensures
