-- What the definitions keep: a charge is well-formed after step 3, and bounds of what is seen; and what a per cent is.
use mathlib.Core.Path.{◌≡◌, refl}
use mathlib.Core.Bool.{Bool}
use Prim.Native.Nat.{ℕ, ◌≤◌, ◌*◌, ◌/◌, ◌<◌}
use native.Mathlib.Omega.{arith}
use Rattle.numbers.specs.Choice.{but_not}
use Rattle.params.specs.declared.Limits.{Limits}
use Rattle.state.specs.declared.Charge.{Charge}
use Rattle.state.specs.State.{ChargeWf, acr_of}
use Rattle.conversion.proofs.ChargeLaws.{share_high, set_wf}
use Rattle.reading.specs.declared.Seen.{Seen}
use Rattle.reading.specs.Reading.{SeenWf, point_of, drained_of, temp_of, degrees_of, emptied_of, percent_of, seen_of}
use Rattle.state.specs.declared.Meter.{Meter}
use native.Mathlib.Nat.{le-div_iff_mul-le, div-zero}
use lib.Dec.{ltb}
use Rattle.numbers.proofs.Bounds.{picked}
use Rattle.params.specs.declared.Curves.{Curves}
use Rattle.reading.proofs.ModelLaws.{lines_full, lines_ae}

pub emptied_wf : (g : Charge) (holds point : Bool) (e : ℕ) → e ≤ 65535 → ChargeWf g → ChargeWf (emptied_of g holds point e)
unfolding emptied_of
emptied_wf g holds point e h w =
    picked ChargeWf holds g _ (λ d. w)
    (λ d. picked ChargeWf point _ _ (λ d. set_wf g e (ltb 0 e) h w)
    (λ d. picked ChargeWf (but_not (ltb e (acr_of g.count)) g.learnf) _ g (λ d. set_wf g e g.learnf h w) (λ d. w)))

pub seen_wf : (p : Limits) (curves : Curves) (v t : ℕ) → SeenWf (seen_of p curves v t)
unfolding seen_of
seen_wf p curves v t =
    let degrees = degrees_of (temp_of t) in
    record { volt = omega arith; temp = omega arith; full = lines_full curves degrees; ae = lines_ae curves degrees }

pub drained_wf : (m : Meter) (p : Limits) (full40 : ℕ) (s : Seen) → full40 ≤ 65535 → SeenWf s → ChargeWf m.charge →
    ChargeWf (drained_of m p full40 s)
unfolding drained_of
drained_wf m p full40 s h seen w =
    emptied_wf m.charge s.holds (point_of m.shown.reading m.flow.trace p) _ (share_high _ full40 (omega (arith, seen.ae)) h) w

-- ---- per cents: 100 where N is at least D, and D above 0; 0 where D is 0

pub percent_full : (n d : ℕ) → 0 < d → d ≤ n → percent_of n d ≡ 100
unfolding percent_of
percent_full n d some h =
    let q : 100 ≤ 100 * n / d = (le-div_iff_mul-le some).1 (omega arith) in
    omega arith

pub percent_none : (n : ℕ) → percent_of n 0 ≡ 0
unfolding percent_of
percent_none n = rw (div-zero (100 * n)) refl
