-- `intel_hex::count` meets its contract.
use Rattle.std.proofs.Common.{ℕ, eqb, List, inl, ap, ◌∙◌, arith, rules}
use Rattle.std.proofs.lemmas.Iterator.Consumers.{YieldsList-from_filter, YieldsList-from_first, count_from_yields_List}
use borrow.Author.Tests.{tests}
use Rattle.intel_hex.specs.Line.{address_in}
use Rattle.intel_hex.specs.Import.{text_lines, lines_left}
use Rattle.intel_hex.proofs.Lines.{lines_few, count_is}
use Rattle.intel_hex.proofs.count.Goals as goal

pub count-requires-clause-fits : goal.count-requires-clause-fits
count-requires-clause-fits c = let few = lines_few c.args.text.now in inl (grind arith)

pub returns : goal.returns
returns c = count_from_yields_List c.filter.result _ c.count.ensures.ran
    (YieldsList-from_filter _ (λ (l : List ℕ). eqb (address_in l) c.args.address)
    (YieldsList-from_first (λ x. x.now) lines_left (text_lines c.args.text.now) (ap lines_left c.filter.ensures.source ∙ c.split_lines.ensures))
    c.filter.ensures.closure (λ x r q k. search (rules, tests)))
    ∙ count_is c.args.address (text_lines c.args.text.now)
