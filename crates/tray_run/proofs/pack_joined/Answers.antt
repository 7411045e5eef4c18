use mathlib.Core.Path.{sym, subst}
use Rattle.gauge.specs.Gauge.{GaugeWf}
use Rattle.tray_record.specs.Tray.{TrayWf}
use Rattle.tray_record.proofs.Laws.{join_wf}
use Rattle.tray_run.proofs.Turns.{joined_at_lem}
use Rattle.tray_run.proofs.pack_joined.Goals as goal

pub returns-clause-kept : goal.returns-clause-kept
returns-clause-kept c = let image = c.image_in-gauge.ensures in
    subst TrayWf (sym (joined_at_lem c.args.before c.from-n.ensures image.value))
    (join_wf c.args.before _ c.requires.0 c.requires.1 (subst GaugeWf image.value image.kept))
