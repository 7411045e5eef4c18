-- `preset::programmed` meets its contract: what is said of what was read is what is said of the two files.
use Rattle.preset.specs.Preset.{preset_speech}
use Rattle.preset.proofs.Laws.{alike}
use Rattle.preset.proofs.programmed.Goals as goal

pub returns : goal.returns
returns c =
    record {
      by_index = c.put_answer_of_two.ensures.by_index preset_speech (λ one other room said after told. told)
          (rw (c.requires.image_room, c.requires.wanted_room) alike);
    }
