-- `engines::put_compared` meets its contract.
use mathlib.Core.Path.{sym, ap, ◌∙◌}
use Prim.Native.Nat.{ℕ}
use lib.ListN.{length, replicate, length-replicate}
use Rattle.numbers.specs.Offset.{offset32_of}
use Rattle.engines.specs.Engines.{compared_speech}
use Rattle.engines.proofs.Laws.{sized, missized, ended, end_said}
use Rattle.engines.proofs.put_compared.Goals as goal

pub returns-then-bytes-le32774 : goal.returns-then-bytes-le32774
returns-then-bytes-le32774 c =
    let s = c.args.bytes.now in
    let run = c.run-ran in
    end_said s (sized (length s) c.if-bytes-ge6.true c.if-bytes-le32774.true)
    (ended s (replicate 65536 0) (replicate 8192 0) run.result run.new.room run.new.answers c.if-bytes-le32774.true
    (sym (length-replicate {A = ℕ} 65536 0)) run.ensures)
    (c.offset32-raw.ensures ∙ ap offset32_of c.quad.ensures) c.pair-n.ensures c.put_ended.ensures

pub returns : goal.returns
unfolding compared_speech
returns c = rw (missized (length c.args.bytes.now) c.else-bytes-ge6.either) c.put_missized.ensures
