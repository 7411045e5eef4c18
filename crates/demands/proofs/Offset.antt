-- The offset conversion over a run of conversions and at an empty pack, proved.
use mathlib.Core.Path.{◌≡◌, refl, ap, ◌∙◌}
use mathlib.Core.Bool.{true, false}
use Prim.Native.Nat.{ℕ}
use borrow.Author.Tests.{eq-eqb}
use Rattle.numbers.proofs.Bounds.{picked}
use Rattle.state.specs.declared.Charge.{Charge}
use Rattle.state.specs.declared.Meter.{Meter}
use Rattle.state.specs.State.{acr_of}
use Rattle.conversion.specs.Conversion.{counted_of, filled_of, settled_of, convert_of, corrects_full}
use Rattle.conversion.proofs.Corrections.{converted_charge}
use Rattle.conversion.proofs.OffsetConversion.{powered_made}
use Rattle.demands.specs.Offset.{OffsetRuns}

-- full, where it is found, clears it too
clears_learnf : (m : Meter) (raw : ℕ) → m.charge.mark ≡ true → acr_of m.charge.count ≡ 0 → (convert_of m raw).charge.learnf ≡ false
unfolding counted_of settled_of filled_of
clears_learnf m raw mark none =
    ap (λ (g : Charge). g.learnf) (converted_charge m raw)
    ∙ picked (λ (g : Charge). g.learnf ≡ false) (corrects_full m raw) _ _ (λ e. refl) (λ e. rw (mark, eq-eqb (acr_of m.charge.count) 0 none) refl)

pub offset_runs : OffsetRuns
offset_runs = record { since_power_on = powered_made; clears_learnf = clears_learnf }
