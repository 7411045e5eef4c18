use mathlib.Core.Path.{sym, ap, ◌∙◌}
use Prim.Native.Nat.{ℕ, ◌+◌}
use native.Mathlib.Omega.{arith}
use Rattle.record.specs.Record.{timed_of, fitted_of, Taken}
use Rattle.record.proofs.Fits.{unknown_above}
use Rattle.runs.specs.AnyRecord.{refused_of}
use Rattle.runs.proofs.AnyRecord.{read_whole, read_cut}
use Rattle.runs.proofs.Records.{whole_head, whole_end}
use Rattle.runs.proofs.front.Goals as goal

pub returns-then-not-whole : goal.returns-then-not-whole
returns-then-not-whole c = c.refused.ensures ∙ read_cut _ _ c.args.rest.now (sym c.whole.ensures ∙ c.if-not-whole.true)

pub pair-requires : goal.pair-requires
pair-requires c = omega (arith, whole_head c.args.rest.now (sym c.whole.ensures ∙ c.if-not-whole.false))

pub pair-kind-requires : goal.pair-kind-requires
pair-kind-requires c = omega (arith, whole_head c.args.rest.now (sym c.whole.ensures ∙ c.if-not-whole.false))

pub returns-then-kind-gt-LAST_KIND : goal.returns-then-kind-gt-LAST_KIND
returns-then-kind-gt-LAST_KIND c = let a = c.args in
    let last : Taken → Taken = λ t. fitted_of a.room (timed_of a.last t) in
    c.refused-then-kind-gt-LAST_KIND.ensures
    ∙ ap (λ (m : ℕ). refused_of c.pair-kind.result m (4 + c.pair.result)) c.from.ensures
    ∙ read_whole _ a.room a.rest.now _ _ (sym c.whole.ensures ∙ c.if-not-whole.false) c.pair.ensures c.pair-kind.ensures
    (ap last (sym (unknown_above _ a.loaded _ c.if-kind-gt-LAST_KIND.true)))

pub slice_bounds-fitted-end : goal.slice_bounds-fitted-end
slice_bounds-fitted-end c = omega (
  arith,
  whole_end c.args.rest.now (sym c.whole.ensures ∙ c.if-not-whole.false),
  c.pair.ensures,
)

pub returns : goal.returns
returns c = c.read_off.ensures
    ∙ read_whole _ _ c.args.rest.now _ _ (sym c.whole.ensures ∙ c.if-not-whole.false) c.pair.ensures
    c.pair-kind.ensures c.fitted.ensures
