-- `checksum::summed` meets its contract: the text of what was read is the text of the whole input.
use mathlib.Core.Path.{sym, ap, ◌∙◌}
use Rattle.streams.specs.Streams.{output}
use Rattle.checksum.specs.Sums.{checked_text}
use Rattle.checksum.proofs.Laws.{alike}
use Rattle.checksum.proofs.summed.Goals as goal

pub returns : goal.returns
returns c =
    record {
      by_index = c.put_answer.ensures.by_index (λ s. output (checked_text s)) (λ bytes room said after told. told)
          (rw c.requires.input_room (λ s s' long long'. ap output (alike s long ∙ sym (alike s' long'))));
    }
