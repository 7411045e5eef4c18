use Rattle.std.proofs.Common.{ℕ, List, ap, inl, arith, length}
use Rattle.intel_hex.proofs.Lines.{lines_few, line_some}
use Rattle.intel_hex.proofs.first_bad.Goals as goal

pub loop-i-init-derived : goal.loop-i-init-derived
loop-i-init-derived c = let few = lines_few c.args.text.now in ((tt, tt, inl (grind arith)), tt)

pub cause_of-requires : goal.cause_of-requires
cause_of-requires c = line_some c.loop-i.i-iterator.iter.rest.now c.in-Some.ensures.steps.0

pub returns-then-is_err-clause-small : goal.returns-then-is_err-clause-small
returns-then-is_err-clause-small c = omega (
  arith,
  lines_few c.args.text.now,
  c.loop-i.invariant.0,
  ap (λ (ls : List (List ℕ)). length ls) c.in-Some.ensures.steps.0,
  c.in-Some.ensures.steps.1,
)
