-- `engines::compared` meets its contract: what is said of what was read is what is said of the whole input.
use mathlib.Core.Path.{sym, ◌∙◌}
use Rattle.engines.specs.Engines.{compared_speech}
use Rattle.engines.proofs.Laws.{alike}
use Rattle.engines.proofs.compared.Goals as goal

pub returns : goal.returns
returns c =
    record {
      by_index = c.put_answer.ensures.by_index compared_speech (λ bytes room said after told. told)
          (rw c.requires.input_room (λ s s' long long'. alike s long ∙ sym (alike s' long')));
    }
