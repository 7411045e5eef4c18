-- What the definitions keep: bounds of what they give; charge and average are well-formed after step 6.
use mathlib.Core.Path.{◌≡◌, refl}
use mathlib.Core.Bool.{Bool, true}
use Prim.Native.Nat.{ℕ, ◌+◌, ◌%◌, ◌≤◌}
use native.Mathlib.Omega.{arith}
use lib.Dec.{ltb}
use borrow.Author.Tests.{eqb-true, eqb-false}
use Rattle.numbers.specs.Choice.{pick, both}
use Rattle.numbers.proofs.Bounds.{picked}
use Rattle.state.specs.declared.Charge.{Charge}
use Rattle.state.specs.State.{ChargeWf, AverageWf, run_of, acr_of}
use Rattle.conversion.specs.Conversion.{aged_full_of, share_up_of, next_made, eighth, averaged_of, learnt_of, taught_of, filled_of, settled_of}
use Rattle.conversion.proofs.ChargeLaws.{set_wf, with_as_wf, aged_full_high, share_up_high}
use Rattle.state.specs.declared.Average.{Average}

-- ACR at full: AF × Full40 / 16,384 rounded up
pub filled_acr : (g : Charge) (full full40 : ℕ)
    → acr_of (filled_of g full full40).count ≡ share_up_of (aged_full_of full (filled_of g full full40).aging) full40
unfolding filled_of
filled_acr g full full40 = omega arith

module _ (g : Charge) (full full40 : ℕ) (w : ChargeWf g) where
  taught_low : 63 ≤ taught_of g full full40
  unfolding learnt_of
  taught_low = picked (λ (x : ℕ). 63 ≤ x) (both g.learnf (ltb 0 full40)) _ _ (λ e. omega arith) (λ e. w.low)

  taught_high : taught_of g full full40 ≤ 128
  unfolding learnt_of
  taught_high = picked (λ (x : ℕ). x ≤ 128) (both g.learnf (ltb 0 full40)) _ _ (λ e. omega arith) (λ e. w.high)

  -- the charge at full is an ACR
  pub filled_high : full ≤ 16384 → full40 ≤ 65535 → share_up_of (aged_full_of full (taught_of g full full40)) full40 ≤ 65535
  filled_high p q = omega (arith, q, share_up_high (aged_full_of full (taught_of g full full40)) full40 (aged_full_high full _ p taught_high))

  pub filled_wf : full ≤ 16384 → full40 ≤ 65535 → ChargeWf (filled_of g full full40)
  unfolding filled_of
  filled_wf p q = set_wf _ _ _ (filled_high p q) (with_as_wf g _ taught_low taught_high w)

  pub settled_wf : (found : Bool) → full ≤ 16384 → (found ≡ true → full40 ≤ 65535) → ChargeWf (settled_of g found full full40)
  unfolding settled_of
  settled_wf found p q = picked ChargeWf found _ _ (λ e. filled_wf p (q e)) (λ e. w)

-- every conversion is counted
pub averaged_made : (a : Average) (c : ℕ) → (averaged_of a c).made ≡ next_made a.made
unfolding averaged_of
averaged_made a c = picked (λ (x : Average). x.made ≡ next_made a.made) (eighth a) _ _ (λ e. refl) (λ e. refl)

-- the run of eight, read off that count, goes on by one, and starts anew after the eighth
pub run_goes_on : (a : Average) (c : ℕ) → run_of (averaged_of a c) ≡ pick (eighth a) 0 (run_of a + 1)
run_goes_on a c =
    rw (averaged_made a c)
    (picked (λ (x : ℕ). next_made a.made % 8 ≡ x) (eighth a) 0 (run_of a + 1)
    (λ e. omega (arith, eqb-true (run_of a) 7 e)) (λ e. omega (arith, eqb-false (run_of a) 7 e)))

pub averaged_wf : (a : Average) (c : ℕ) → c ≤ 65535 → AverageWf a → AverageWf (averaged_of a c)
unfolding averaged_of
averaged_wf a c h w =
    picked AverageWf (eighth a) _ _ (λ e. record { made = omega arith; sum = omega arith })
    (λ e. let d = eqb-false (run_of a) 7 e in record { made = omega arith; sum = omega (arith, w.sum) })
