use Rattle.std.proofs.Common.{length, sym, ap, ◌∙◌}
use Rattle.intel_hex.proofs.Laws.{data_long}
use Rattle.intel_hex.proofs.Lines.{data_here}
use Rattle.intel_hex.proofs.put_found.Goals as goal

pub put_data-requires-clause-in_bounds : goal.put_data-requires-clause-in_bounds
put_data-requires-clause-in_bounds c =
    let found = sym (data_here c.in-Some.ensures.steps (sym c.address_in.ensures ∙ c.if-address_in-address.true)) ∙ c.loop-line.invariant.1 in
    data_long c.in-Some.line.now (ap length found ∙ c.requires.text_len)
