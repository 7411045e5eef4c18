-- `live::put_start` meets its contract.
use mathlib.Core.Path.{ap, ◌∙◌}
use borrow.Author.Rules.{rules}
use Rattle.streams.proofs.Pages.{said_of_output}
use Rattle.state_bytes.specs.State.{state_refusal_number, number_in}
use Rattle.live.specs.Live.{state_words, start_speech}
use Rattle.live.proofs.put_start.Goals as goal

pub returns-in-Ok : goal.returns-in-Ok
unfolding start_speech
returns-in-Ok c =
    rw (ap number_in c.in-Ok.is) (said_of_output c.new-page.ensures c.put_header.ensures (search rules))

pub returns-in-Size : goal.returns-in-Size
unfolding start_speech state_words
returns-in-Size c =
    let number = ap state_refusal_number c.in-Size.is in
    rw (ap number_in c.in-Err.is ∙ number) (rw (c.from-number.ensures ∙ number) at c.put_refused.ensures)

pub returns-in-Version : goal.returns-in-Version
unfolding start_speech state_words
returns-in-Version c =
    let number = ap state_refusal_number c.in-Version.is in
    rw (ap number_in c.in-Err.is ∙ number) (rw (c.from-number.ensures ∙ number) at c.put_refused-in-Version.ensures)

pub returns-in-Unsound : goal.returns-in-Unsound
unfolding start_speech state_words
returns-in-Unsound c =
    let number = ap state_refusal_number c.in-Unsound.is in
    rw (ap number_in c.in-Err.is ∙ number) (rw (c.from-number.ensures ∙ number) at c.put_refused-in-Unsound.ensures)
