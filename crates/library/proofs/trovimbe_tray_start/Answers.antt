use Rattle.library.specs.Library.{kept_tray}
use Rattle.library.proofs.Calls.{not_started, tray_started}
use Rattle.library.proofs.trovimbe_tray_start.Goals as goal

pub returns-then-state-ne1363 : goal.returns-then-state-ne1363
returns-then-state-ne1363 c = not_started kept_tray c.if-state-ne1363.true

pub returns : goal.returns
returns c = tray_started c.if-state-ne1363.false c.empty-before.ensures.value c.tray_state_out.ensures
