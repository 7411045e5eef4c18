-- `hex_out::put_why` meets its contract.
use Rattle.std.proofs.Common.{⊎_elim}
use Rattle.hex_out.proofs.Laws.{why_said}
use Rattle.hex_out.proofs.put_why.Goals as goal

pub returns-in-Line : goal.returns-in-Line
returns-in-Line c =
    ⊎_elim (λ line. why_said c.args.pack.now c.args.factory.now line.1 c.from-number.ensures c.put_refused.ensures)
    (λ whole. why_said c.args.pack.now c.args.factory.now whole c.from-number.ensures c.put_refused.ensures)
    c.in-Line.is
