-- `intel_hex::export_label` meets its contract.
use Rattle.std.proofs.Common.{◌≡◌, ℕ, true, List, sym, refl, ◌∙◌, arith, eq-eqb, ne_eqb}
use Rattle.record.specs.Image.{image_label, image_bl0}
use Rattle.intel_hex.specs.Export.{both_accepted, export_label}
use Rattle.intel_hex.proofs.Texts.{pack_sized, factory_sized}
use Rattle.intel_hex.proofs.export_label.Goals as goal

own : (pack factory : List ℕ) → both_accepted pack factory ≡ true → image_bl0 pack ≡ true → export_label pack factory ≡ image_label pack
unfolding export_label
own pack factory accepted lock = rw (accepted, lock) refl

pub bounds-pack-59 : goal.bounds-pack-59
bounds-pack-59 c = omega (
  arith,
  pack_sized c.args.pack.now c.args.factory.now
      (sym c.both_accepted.ensures ∙ c.if-not-both_accepted.false),
)

pub returns-then-pack-eq1 : goal.returns-then-pack-eq1
returns-then-pack-eq1 c = let locked : image_bl0 c.args.pack.now ≡ true = eq-eqb _ _ c.if-pack-eq1.true in
    let a = c.args in
    sym (own a.pack.now a.factory.now (sym c.both_accepted.ensures ∙ c.if-not-both_accepted.false) locked)

pub returns-then-not-both_accepted : goal.returns-then-not-both_accepted
unfolding export_label
returns-then-not-both_accepted c = rw (sym c.both_accepted.ensures ∙ c.if-not-both_accepted.true) refl

pub slice_bounds-result-end-2 : goal.slice_bounds-result-end-2
slice_bounds-result-end-2 c = omega (
  arith,
  factory_sized c.args.pack.now c.args.factory.now
      (sym c.both_accepted.ensures ∙ c.if-not-both_accepted.false),
)

pub returns : goal.returns
unfolding export_label
returns c = rw (sym c.both_accepted.ensures ∙ c.if-not-both_accepted.false, ne_eqb _ _ c.if-pack-eq1.false) refl
