-- `intel_hex::line_end` meets its contract.
use Rattle.std.proofs.Common.{ℕ, eqb, rules}
use Rattle.std.proofs.lemmas.Iterator.{YieldsList-from_slice}
use Rattle.std.proofs.lemmas.Iterator.Search.{position_from_yields_List}
use borrow.Author.Tests.{tests}
use Rattle.intel_hex.specs.Line.{line_feed}
use Rattle.intel_hex.proofs.Lines.{cut_found}
use Rattle.intel_hex.proofs.line_end.Goals as goal

pub returns-in-Some : goal.returns-in-Some
returns-in-Some c =
    let found =
    position_from_yields_List (λ (b : ℕ). eqb b line_feed) _ _ c.position.result c.position.ensures.ran (YieldsList-from_slice c.args.text.now cc)
    (λ x b q k. search (rules, tests)) in
    rw c.in-Some.is at (cut_found c.args.text.now c.position.result c.requires found)

pub returns-in-None : goal.returns-in-None
returns-in-None c =
    let found =
    position_from_yields_List (λ (b : ℕ). eqb b line_feed) _ _ c.position.result c.position.ensures.ran (YieldsList-from_slice c.args.text.now cc)
    (λ x b q k. search (rules, tests)) in
    rw c.in-None.is at (cut_found c.args.text.now c.position.result c.requires found)
