use mathlib.Core.Path.{◌≡◌, sym, ◌∙◌}
use mathlib.Core.Bool.{true}
use Prim.Native.Nat.{◌+◌}
use native.Mathlib.Omega.{arith}
use lib.Seq.{length-take-le}
use Rattle.slices.specs.Slices.{pair_at}
use Rattle.runs.specs.Record.{whole_of}
use Rattle.runs.proofs.Records.{whole_head, whole_end}
use Rattle.runs.proofs.Stepping.{one_line, stepped_whole, stepped_cut}
use borrow.Author.Rules.{rules}
use Rattle.runs.proofs.step.Goals as goal

pub pair-requires : goal.pair-requires
pair-requires g c = let is_whole : whole_of c.args.bytes.now ≡ true = sym c.whole.ensures ∙ c.if-not-whole.false in
    omega (arith, whole_head c.args.bytes.now is_whole)

pub slice_bounds-run_on-end : goal.slice_bounds-run_on-end
slice_bounds-run_on-end g c = let is_whole : whole_of c.args.bytes.now ≡ true = sym c.whole.ensures ∙ c.if-not-whole.false in
    let ends : 4 + c.pair.result ≡ 4 + pair_at c.args.bytes.now 0 = omega (arith, c.pair.ensures) in
    let bytes = c.args.bytes.now in
    sym (length-take-le _ bytes (omega (arith, ends, whole_end bytes is_whole)))

pub run_on-ran-requires-clause-bytes_in_bounds : goal.run_on-ran-requires-clause-bytes_in_bounds
run_on-ran-requires-clause-bytes_in_bounds g c = let is_whole : whole_of c.args.bytes.now ≡ true = sym c.whole.ensures ∙ c.if-not-whole.false in
    let ends : 4 + c.pair.result ≡ 4 + pair_at c.args.bytes.now 0 = omega (arith, c.pair.ensures) in
    one_line c.args.bytes.now _ is_whole ends

pub returns-clause-step_done : goal.returns-clause-step_done
returns-clause-step_done g c = let is_whole : whole_of c.args.bytes.now ≡ true = sym c.whole.ensures ∙ c.if-not-whole.false in
    let ends : 4 + c.pair.result ≡ 4 + pair_at c.args.bytes.now 0 = omega (arith, c.pair.ensures) in
    stepped_whole _ g.met.R.Runner.laws.fits is_whole ends (search rules) c.run_on-ran.ensures.running

pub returns-then-not-whole-clause-step_done : goal.returns-then-not-whole-clause-step_done
returns-then-not-whole-clause-step_done g c =
    stepped_cut _ g.met.R.Runner.laws.fits (g.met.R.Runner.laws.cut_idle _ _) (sym c.whole.ensures ∙ c.if-not-whole.true)
