-- `checksum::first_message` meets its contract, by the laws of a message that is there and of one that is not.
use mathlib.Core.Path.{sym, ◌∙◌}
use Rattle.checksum.proofs.Laws.{whole_answer, cut_answer}
use Rattle.checksum.proofs.first_message.Goals as goal

pub returns-then-there : goal.returns-then-there
returns-then-there c = whole_answer c.requires c.from-n.ensures (sym c.there.ensures ∙ c.if-there.true) c.crc.ensures c.crc_line-line.ensures

pub returns-else-there : goal.returns-else-there
returns-else-there c = cut_answer c.requires c.from-n.ensures (sym c.there.ensures ∙ c.if-there.false)
