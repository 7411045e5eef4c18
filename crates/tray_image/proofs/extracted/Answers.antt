-- `tray_image::extracted` meets its contract: what is said of what was read is what is said of the whole input.
use Rattle.tray_image.specs.TrayImage.{word_speech}
use Rattle.tray_image.proofs.Laws.{alike}
use Rattle.tray_image.proofs.extracted.Goals as goal

pub returns : goal.returns
returns c =
    let word = c.args.word.now in
    record {
      by_index = c.put_answer.ensures.by_index (word_speech word) (λ bytes room said after told. told) (rw c.requires.input_room (alike word));
    }
