-- `text::put_bare_end` meets its contract.
use Rattle.text.specs.Line.{reply_text, end_text}
use Rattle.text.proofs.put_bare_end.Goals as goal

pub returns : goal.returns
unfolding reply_text end_text
returns c = c.put_bytes.ensures
