-- `intel_hex::read_text` meets its contract.
use Rattle.std.proofs.Common.{length, sym, ◌∙◌}
use Rattle.intel_hex.specs.Import.{text_lines}
use Rattle.intel_hex.proofs.Lines.{import_fits, import_sized}
use Rattle.intel_hex.proofs.read_text.Goals as goal

pub put_imported-requires : goal.put_imported-requires
put_imported-requires c = let ls = text_lines c.args.text.now in
    let done = sym c.import_answer.ensures ∙ c.in_ok-import_answer.was in
    let sized = import_sized ls (length c.args.room.now) done in
    record { label_len = sized.0; low_len = sized.1; high_len = sized.2; import_size_in_bounds = import_fits ls (length c.args.room.now) done }
