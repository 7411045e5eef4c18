use mathlib.Core.Path.{sym}
use native.Mathlib.Omega.{arith}
use Rattle.tray_run.proofs.TakeOut.{beyond}
use Rattle.tray_run.proofs.image_size.Goals as goal

pub returns : goal.returns
returns c = sym (beyond c.args.tray c.args.slot (omega (arith, c.from-i.ensures, c.if-i-lt8.false, c.sized.ensures.2)))
