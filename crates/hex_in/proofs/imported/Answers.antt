-- `hex_in::imported` meets its contract: what is said of what was read is what is said of the whole input.
use mathlib.Core.Path.{sym, ◌∙◌}
use Rattle.hex_in.specs.HexIn.{hex_in_speech}
use Rattle.hex_in.proofs.Laws.{alike}
use Rattle.hex_in.proofs.imported.Goals as goal

pub returns : goal.returns
returns c =
    record {
      by_index = c.put_answer.ensures.by_index hex_in_speech (λ bytes room said after told. told)
          (rw c.requires.input_room (λ s s' long long'. alike s long ∙ sym (alike s' long')));
    }
