-- `state_bytes::state_in` meets its contract.
use mathlib.Core.Path.{sym, ap, subst, ◌∙◌}
use Rattle.runs.specs.SessionRecord.{SessionWf}
use Rattle.state_bytes.specs.State.{state_in, session_in}
use Rattle.state_bytes.proofs.Undoing.{was, in_size, read_held, undoing}
use Rattle.state_bytes.proofs.Stepping.{checked_held}
use Rattle.state_bytes.proofs.state_in.Goals as goal

pub session_at-requires : goal.session_at-requires
session_at-requires c = in_size c.args.bytes.now (checked_held (state_in c.args.bytes.now) (sym c.in_ok-check_state.was ∙ c.check_state.ensures))

pub returns-clause-value : goal.returns-clause-value
returns-clause-value c =
    ap was c.session_at.ensures ∙ read_held c.args.bytes.now (checked_held (state_in c.args.bytes.now) (sym c.in_ok-check_state.was ∙ c.check_state.ensures))

pub returns-clause-kept : goal.returns-clause-kept
returns-clause-kept c = let b = c.args.bytes.now in
    let is_state = checked_held (state_in c.args.bytes.now) (sym c.in_ok-check_state.was ∙ c.check_state.ensures) in
    subst SessionWf (sym (c.session_at.ensures ∙ ap session_in (read_held b is_state))) (undoing.sound b is_state).wf
