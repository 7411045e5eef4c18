use mathlib.Core.Path.{sym, ◌∙◌}
use Rattle.state_bytes.proofs.Tested.{gauge_tested}
use Rattle.state_bytes.proofs.sound_gauge.Goals as goal

pub returns-then-clear_octets : goal.returns-then-clear_octets
returns-then-clear_octets c = let tested = gauge_tested c.args.bytes.now c.args.at (λ i. (c.type_inv.bytes i).fits) in
    c.sound_numbers.ensures ∙ (rw (sym c.clear_octets.ensures ∙ c.if-clear_octets.true) at tested)

pub returns : goal.returns
returns c = let tested = gauge_tested c.args.bytes.now c.args.at (λ i. (c.type_inv.bytes i).fits) in
    rw (sym c.clear_octets.ensures ∙ c.if-clear_octets.false) at tested
