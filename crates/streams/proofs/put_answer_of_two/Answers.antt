-- `streams::put_answer_of_two` meets its contract: what is said of what was read is what is said of the two files.
use mathlib.Core.Path.{◌≡◌, ◌∙◌}
use lib.ListN.{take}
use Rattle.streams.proofs.Laws.{read_same}
use Rattle.streams.proofs.put_answer_of_two.Goals as goal

pub returns-in-Ok-Ok : goal.returns-in-Ok-Ok
returns-in-Ok-Ok g c =
    let first = c.args.first.now in
    let second = c.args.second.now in
    let n = c.within.result in
    let m = c.within-in-Ok-Ok.result in
    record {
      by_index = λ speech says alike s t front other.
          let one = rw c.in-Ok-Ok.is-0 at front in
          let two = rw c.in-Ok-Ok.is-1 at other in
          let same : speech (take n first) (take m second) ≡ speech s t =
          read_same (alike.0 (take m second)) c.within.ensures one ∙ read_same (alike.1 s) c.within-in-Ok-Ok.ensures two in
          rw (c.in-Ok-Ok.is-0, c.in-Ok-Ok.is-1, ← same) (says _ _ _ _ _ c.work.ensures);
    }
