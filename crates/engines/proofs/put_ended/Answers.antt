-- `engines::put_ended` meets its contract.
use mathlib.Core.Path.{refl, ◌∙◌}
use native.Mathlib.Nat.{zero-add}
use Rattle.engines.specs.Engines.{end_speech}
use Rattle.engines.proofs.put_ended.Goals as goal

pub returns-then-session : goal.returns-then-session
unfolding end_speech
returns-then-session c =
    let put = c.put_lines-count.ensures in
    rw c.if-session.true (record { stream = refl; counted = put.onward ∙ zero-add _; written = put.written })

pub returns : goal.returns
unfolding end_speech
returns c = rw c.if-session.false c.put_refused.ensures
