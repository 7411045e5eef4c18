-- `text::put_header` meets its contract.
use Rattle.text.specs.Text.{header_text}
use Rattle.text.proofs.put_header.Goals as goal

pub returns : goal.returns
unfolding header_text
returns c = c.put_bytes.ensures
