-- `intel_hex::write_text` meets its contract.
use Rattle.std.proofs.Common.{length, sym, ap, ◌∙◌, arith}
use Rattle.intel_hex.proofs.Texts.{granted, pack_sized, label_sized, block_sized}
use Rattle.intel_hex.proofs.write_text.Goals as goal

pub slice_bounds-put_text-end : goal.slice_bounds-put_text-end
slice_bounds-put_text-end c = let g = granted c.args.pack.now c.args.factory.now
    (length c.args.room.now)
    (sym c.export_answer.ensures ∙ c.in_ok-export_answer.was) in
    omega (arith, pack_sized c.args.pack.now c.args.factory.now g.0)

pub put_text-requires : goal.put_text-requires
put_text-requires c = let pack = c.args.pack.now in
    let factory = c.args.factory.now in
    let g = granted pack factory (length c.args.room.now)
    (sym c.export_answer.ensures ∙ c.in_ok-export_answer.was) in
    record {
      label_len = ap length c.export_label-label.ensures ∙ label_sized pack factory g.0;
      block_len = block_sized pack factory g.0;
      export_size_in_bounds = g.1;
    }
