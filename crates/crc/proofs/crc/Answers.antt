use mathlib.Core.Path.{◌∙◌, sym}
use native.Mathlib.Omega.{arith}
use Rattle.crc.proofs.Laws.{crc_more}
use Rattle.crc.proofs.crc.Goals as goal

pub next-c-requires : goal.next-c-requires
next-c-requires c = c.whole_table-table.ensures.ruled

pub loop-b-preserved : goal.loop-b-preserved
loop-b-preserved c = let s = c.args.message.now in
    rw c.next-c.ensures (sym (crc_more s c.loop-b.c c.loop-b.b-index (omega arith)) ∙ c.loop-b.invariant)
