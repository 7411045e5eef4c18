-- `engines::put_lines` meets its contract: each engine ends in the same meter.
use mathlib.Core.Path.{sym, ◌∙◌}
use native.Mathlib.Omega.{arith}
use borrow.Author.Rules.{rules}
use Rattle.digits.proofs.Laws.{unwritten, then, fronted}
use Rattle.engines.specs.Engines.{engine_lines}
use Rattle.engines.proofs.Laws.{sound_wf}
use Rattle.engines.proofs.put_lines.Goals as goal

pub plain-requires : goal.plain-requires
plain-requires c = sound_wf _ (sym c.sound.ensures ∙ c.if-sound.true)

pub quick-requires : goal.quick-requires
quick-requires c = sound_wf _ (sym c.sound.ensures ∙ c.if-sound.true)

pub returns-then-sound : goal.returns-then-sound
unfolding engine_lines
returns-then-sound c = rw (sym c.sound.ensures ∙ c.if-sound.true)
    (fronted c.new-page.ensures
    (then (rw c.plain.ensures.value at c.put_line.ensures) (rw c.quick.ensures.value at c.put_line-then-sound.ensures))
    (search rules))

pub returns : goal.returns
unfolding engine_lines
returns c = rw (sym c.sound.ensures ∙ c.if-sound.false) (unwritten 258 _ 0)
