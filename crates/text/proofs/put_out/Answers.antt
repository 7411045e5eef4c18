-- `text::put_out` meets its contract.
use mathlib.Core.List.{◌++◌}
use lib.ListN.{take}
use Rattle.text.specs.Text.{first_coded}
use Rattle.text.proofs.TakenOut.{handed}
use Rattle.text.proofs.put_out.Goals as goal

pub returns-in-Ok : goal.returns-in-Ok
returns-in-Ok c held gauge before out size kept =
    handed out size (c.args.words.now ++ first_coded 1 (take c.args.lines c.args.answers.now)) c.in-Ok.is kept
