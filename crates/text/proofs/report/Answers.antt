-- `text::report` meets its contract.
use mathlib.Core.Path.{sym, ◌∙◌}
use native.Mathlib.Omega.{arith}
use Rattle.text.proofs.Laws.{fits_room, reported, cut, report_cut}
use Rattle.digits.proofs.Laws.{unwritten}
use Rattle.text.proofs.report.Goals as goal

pub put_coded-requires : goal.put_coded-requires
put_coded-requires c =
    let codes = cut _ _ _ c.min-lines.ensures in
    let replies = cut _ _ _ c.min-replied.ensures in
    rw (codes.count, replies.count) (fits_room _ _ _ (sym c.fits.ensures ∙ c.if-fits.true))

pub returns-then-fits : goal.returns-then-fits
returns-then-fits c =
    let codes = cut c.args.ended.lines c.args.answers.now _ c.min-lines.ensures in
    let replies = cut c.args.ended.replied c.args.replies.now _ c.min-replied.ensures in
    let bound = (fits_room _ _ _ (sym c.fits.ensures ∙ c.if-fits.true)).fits in
    rw (report_cut _ codes replies _, sym c.fits.ensures ∙ c.if-fits.true)
    (reported c.put_coded.ensures (rw (codes.count, replies.count) bound))

pub returns : goal.returns
returns c =
    let codes = cut c.args.ended.lines c.args.answers.now _ c.min-lines.ensures in
    let replies = cut c.args.ended.replied c.args.replies.now _ c.min-replied.ensures in
    rw (report_cut _ codes replies _, sym c.fits.ensures ∙ c.if-fits.false) (reported (unwritten 0 c.args.out.now 0) (omega arith))
