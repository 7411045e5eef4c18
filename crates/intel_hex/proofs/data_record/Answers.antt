-- `intel_hex::data_record` meets its contract.
use Rattle.std.proofs.Common.{ℕ, List, set, ap, ◌∙◌, arith}
use Rattle.slices.specs.Slices.{put}
use Rattle.intel_hex.proofs.Laws.{record_laid}
use Rattle.intel_hex.proofs.data_record.Goals as goal

pub returns : goal.returns
returns c = let laid = c.store.ensures
    ∙ ap (λ (l : List ℕ). put l 4 c.args.carried.now) c.store_array.ensures.written in
    ap (set c.store.new.dst 20) c.checksum.ensures
    ∙ record_laid c.args.address c.args.carried.now (omega arith) c.requires
    c.store.new.dst laid
