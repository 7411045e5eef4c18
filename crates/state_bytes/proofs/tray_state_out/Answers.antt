use mathlib.Core.Path.{◌∙◌}
use borrow.Author.Tests.{le-leb, lt-leb}
use Rattle.state_bytes.proofs.tray_state_out.Goals as goal

pub returns-then-room-lt-TRAY_STATE_SIZE : goal.returns-then-room-lt-TRAY_STATE_SIZE
returns-then-room-lt-TRAY_STATE_SIZE c = let short = lt-leb _ _ c.if-room-lt-TRAY_STATE_SIZE.true in
    record { fits = simp short; written = simp short }

pub returns : goal.returns
returns c = let long = le-leb _ _ c.if-room-lt-TRAY_STATE_SIZE.false in
    record { fits = simp long; written = c.put_tray_state.ensures.written ∙ simp long }
