-- `intel_hex::byte_in` meets its contract.
use Rattle.std.proofs.Common.{◌∙◌}
use Rattle.intel_hex.proofs.Laws.{byte_read, byte_past}
use Rattle.intel_hex.proofs.byte_in.Goals as goal

pub returns-then-line-at : goal.returns-then-line-at
returns-then-line-at c = byte_past c.args.line.now c.args.k c.if-line-at.true

pub returns : goal.returns
returns c = c.upper_byte.ensures ∙ byte_read c.args.line.now c.args.k c.if-line-at.false
