-- `preset_session::write_session` meets its contract.
use mathlib.Core.Path.{sym, ◌∙◌}
use lib.ListN.{length}
use Rattle.state.specs.declared.Profile.TheVariants.{Ds2781}
use Rattle.record.proofs.Fits.{judged_sized}
use Rattle.preset_session.proofs.Laws.{granted}
use Rattle.preset_session.proofs.write_session.Goals as goal

pub put_session-requires : goal.put_session-requires
put_session-requires c = let a = c.args in
    let g = granted a.image.now a.wanted.now (length a.room.now) (sym c.answer.ensures ∙ c.in_ok-answer.was) in
    record { image_len = judged_sized Ds2781 a.image.now g.accepted; wanted_len = g.all; programming_size_in_bounds = g.fits }
