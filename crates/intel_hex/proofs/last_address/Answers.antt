-- `intel_hex::last_address` meets its contract.
use Rattle.std.proofs.Common.{sym, ap, ◌∙◌}
use Rattle.intel_hex.proofs.Lines.{last_by, last_is}
use Rattle.intel_hex.proofs.last_address.Goals as goal

pub returns-in-Some : goal.returns-in-Some
returns-in-Some c = c.address_in.ensures ∙ ap last_by (sym c.in-Some.is) ∙ last_is c.args.text.now c.split_lines.ensures c.last.ensures.ran

pub returns-in-None : goal.returns-in-None
returns-in-None c = ap last_by (sym c.in-None.is) ∙ last_is c.args.text.now c.split_lines.ensures c.last.ensures.ran
