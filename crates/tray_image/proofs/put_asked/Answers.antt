-- `tray_image::put_asked` meets its contract.
use mathlib.Core.Path.{sym, ◌∙◌}
use Rattle.tray_image.specs.TrayImage.{word_speech}
use Rattle.tray_image.proofs.put_asked.Goals as goal

pub returns-then-is_number : goal.returns-then-is_number
unfolding word_speech
returns-then-is_number c = rw (sym c.is_number.ensures ∙ c.if-is_number.true, ← c.slot_of.ensures)
    c.put_taken.ensures

pub returns : goal.returns
unfolding word_speech
returns c = rw (sym c.is_number.ensures ∙ c.if-is_number.false) c.put_no_number.ensures
