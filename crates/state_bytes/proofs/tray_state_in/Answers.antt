-- `state_bytes::tray_state_in` meets its contract.
use mathlib.Core.Path.{sym, ap, subst, ◌∙◌}
use Rattle.tray_record.specs.Tray.{TrayWf}
use Rattle.state_bytes.specs.TrayState.{tray_state_in, tray_in}
use Rattle.state_bytes.proofs.TrayUndoing.{was, tray_in_size, tray_read_held, tray_undoing}
use Rattle.state_bytes.proofs.Stepping.{checked_held}
use Rattle.state_bytes.proofs.tray_state_in.Goals as goal

pub tray_at-requires : goal.tray_at-requires
tray_at-requires c =
    tray_in_size c.args.bytes.now (checked_held (tray_state_in c.args.bytes.now) (sym c.in_ok-check_tray_state.was ∙ c.check_tray_state.ensures))

pub returns-clause-value : goal.returns-clause-value
returns-clause-value c =
    ap was c.tray_at.ensures
    ∙ tray_read_held c.args.bytes.now (checked_held (tray_state_in c.args.bytes.now) (sym c.in_ok-check_tray_state.was ∙ c.check_tray_state.ensures))

pub returns-clause-kept : goal.returns-clause-kept
returns-clause-kept c = let b = c.args.bytes.now in
    let is_tray = checked_held (tray_state_in c.args.bytes.now) (sym c.in_ok-check_tray_state.was ∙ c.check_tray_state.ensures) in
    subst TrayWf (sym (c.tray_at.ensures ∙ ap tray_in (tray_read_held b is_tray))) (tray_undoing.sound b is_tray).wf
