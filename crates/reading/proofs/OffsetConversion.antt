use mathlib.Core.Path.{◌≡◌, refl}
use mathlib.Core.Bool.{Bool}
use Prim.Native.Nat.{ℕ}
use lib.Dec.{ltb}
use Rattle.numbers.specs.Choice.{but_not}
use Rattle.numbers.proofs.Bounds.{picked}
use Rattle.state.specs.declared.Charge.{Charge}
use Rattle.state.specs.State.{acr_of}
use Rattle.conversion.specs.Conversion.{set_of}
use Rattle.reading.specs.Reading.{emptied_of, drained_of, results_shown, read_of}
use Rattle.state.specs.declared.Meter.{Meter}
use Rattle.conversion.proofs.OffsetConversion.{made}

emptied_mark : (g : Charge) (holds point : Bool) (e : ℕ) → (emptied_of g holds point e).mark ≡ g.mark
unfolding emptied_of
emptied_mark g holds point e =
    let Same : Charge → Type 0 = λ x. x.mark ≡ g.mark in
    let found = but_not (ltb e (acr_of g.count)) g.learnf in
    picked Same holds g _ (λ h. refl)
    (λ h. picked Same point (set_of g e (ltb 0 e)) _ (λ h. refl) (λ h. picked Same found (set_of g e g.learnf) g (λ h. refl) (λ h. refl)))

-- a reading leaves it, at the empty point too, and counts no conversion
pub read_mark : (m : Meter) (v t : ℕ) → (read_of m v t).charge.mark ≡ m.charge.mark
unfolding read_of results_shown drained_of
read_mark m v t = emptied_mark m.charge _ _ _

pub read_made : (m : Meter) (v t : ℕ) → made (read_of m v t) ≡ made m
unfolding read_of results_shown
read_made m v t = refl
