-- `image::extracted` meets its contract: what is said of what was read is what is said of the whole input.
use Rattle.runs.specs.SessionRecord.{did_of}
use Rattle.session_run.specs.SessionRun.{empty_of}
use Rattle.streams.specs.Work.{AlikeFrom}
use Rattle.text.proofs.Printed.{out_alike}
use Rattle.image.specs.Image.{order_words, session_at_end, session_image_speech}
use Rattle.image.proofs.extracted.Goals as goal

alike : AlikeFrom 32769 session_image_speech
unfolding session_image_speech session_at_end
alike = out_alike did_of empty_of (λ σ. σ.loaded) (λ σ. σ.gauge) order_words

pub returns : goal.returns
returns c =
    record {
      by_index = c.put_answer.ensures.by_index session_image_speech (λ bytes room said after told. told) (rw c.requires.input_room alike);
    }
