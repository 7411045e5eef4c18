-- `intel_hex::formed` meets its contract.
use Rattle.std.proofs.Common.{◌≡◌, ◌-◌, eqb, length, get_or, sym, ◌∙◌, arith, rules}
use borrow.Author.Tests.{tests}
use Rattle.numbers.specs.Choice.{both}
use Rattle.intel_hex.specs.Line.{colon, line_feed}
use Rattle.intel_hex.proofs.Laws.{formed_asked}
use Rattle.intel_hex.proofs.formed.Goals as goal
use Rattle.intel_hex.proofs.formed.Goals.{then-line-eq58, else-line-eq58, then-line-n-eq10, else-line-n-eq10}

pub returns-then-upper_digits : goal.returns-then-upper_digits
returns-then-upper_digits c =
    let l = c.args.line.now in
    let asked = formed_asked l (omega arith) in
    let ends : c.if-line-eq58.value ≡ both (eqb (get_or l 0 0) colon) (eqb (get_or l (length l - 1) 0) line_feed) =
    elim c.if-line-eq58.branch [ then-line-eq58 w ↦ search (rules, tests) | else-line-eq58 w ↦ search (rules, tests) ] in
    elim c.if-line-n-eq10.branch [
      | then-line-n-eq10 w ↦
          rw (c.from-pairs.ensures, c.byte_in.ensures)
          (rw (sym ends ∙ w.if-line-n-eq10.true, sym w.upper_digits.ensures ∙ sym w.value-is ∙ c.if-upper_digits.true) at asked)
      | else-line-n-eq10 w ↦ search rules
    ]

pub returns-else-upper_digits : goal.returns-else-upper_digits
returns-else-upper_digits c =
    let l = c.args.line.now in
    let asked = formed_asked l (omega arith) in
    let ends : c.if-line-eq58.value ≡ both (eqb (get_or l 0 0) colon) (eqb (get_or l (length l - 1) 0) line_feed) =
    elim c.if-line-eq58.branch [ then-line-eq58 w ↦ search (rules, tests) | else-line-eq58 w ↦ search (rules, tests) ] in
    elim c.if-line-n-eq10.branch [
      | then-line-n-eq10 w ↦
          rw c.if-upper_digits.false
          (rw (sym ends ∙ w.if-line-n-eq10.true, sym w.upper_digits.ensures ∙ sym w.value-is ∙ c.if-upper_digits.false) at asked)
      | else-line-n-eq10 w ↦ rw c.if-upper_digits.false (rw (sym ends ∙ w.if-line-n-eq10.false) at asked)
    ]
