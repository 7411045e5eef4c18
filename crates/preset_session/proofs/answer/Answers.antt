use mathlib.Core.Path.{sym, ◌∙◌}
use Rattle.state.specs.declared.Profile.TheVariants.{Ds2781}
use Rattle.record.proofs.Fits.{judged_sized}
use Rattle.preset_session.specs.PresetSession.{preset_answer}
use Rattle.preset_session.proofs.answer.Goals as goal

pub accepted_answer-requires : goal.accepted_answer-requires
accepted_answer-requires c = judged_sized Ds2781 c.args.image.now (sym c.judged-judged.ensures ∙ c.in-Ok.is)

pub returns-in-Ok : goal.returns-in-Ok
unfolding preset_answer
returns-in-Ok c = rw (sym c.judged-judged.ensures ∙ c.in-Ok.is) c.accepted_answer.ensures

pub returns-in-Err : goal.returns-in-Err
unfolding preset_answer
returns-in-Err c = rw (sym c.judged-judged.ensures ∙ c.in-Err.is)
