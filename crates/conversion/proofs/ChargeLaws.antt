-- What the definitions keep: a charge is well-formed after steps 1 to 5, and bounds of AF and of a share.
use mathlib.Core.Path.{◌≡◌, refl, ap}
use mathlib.Core.Bool.{Bool, true, false}
use Prim.Native.Nat.{ℕ, ◌+◌, ◌*◌, ◌^◌, ◌≤◌, ◌<◌}
use native.Mathlib.Omega.{arith}
use lib.Dec.{eqb, ltb, leb}
use borrow.Author.Tests.{ltb-true, ltb-false, eqb-false, le-leb}
use Rattle.numbers.specs.Choice.{but_not}
use Rattle.numbers.proofs.Bounds.{times, picked}
use Rattle.params.specs.declared.Counting.{Counting}
use Rattle.state.specs.declared.Profile.{Profile}
use Rattle.state.specs.State.{ChargeWf}
use Rattle.state.specs.declared.Charge.{Charge}
use Rattle.conversion.specs.declared.Age.{Age}
use Rattle.conversion.specs.Conversion.{set_of, with_as, marked_of, blanked_of, grown_of, added_of, fall_of}
use Rattle.conversion.specs.Conversion.{aged_of, new_count, new_age, counted_of, aged_full_of, share_of, share_up_of}

pub set_wf : (g : Charge) (acr : ℕ) (learnf : Bool) → acr ≤ 65535 → ChargeWf g → ChargeWf (set_of g acr learnf)
set_wf g acr learnf h w = record { count = omega arith; age = w.age; low = w.low; high = w.high }

pub with_as_wf : (g : Charge) (aging : ℕ) → 63 ≤ aging → aging ≤ 128 → ChargeWf g → ChargeWf (with_as g aging)
with_as_wf g aging p q w = record { count = w.count; age = w.age; low = p; high = q }

pub marked_wf : (g : Charge) → ChargeWf g → ChargeWf (marked_of g)
marked_wf g w = record { count = w.count; age = w.age; low = w.low; high = w.high }

-- the count stays in its range, and one conversion takes at most 9 steps off ACR
abbrev Near : ℕ → ℕ → Type 0
Near count new = (new < 2 ^ 28) × (fall_of count new ≤ 9)

added_near : (mark : Bool) (count counted ab : ℕ) → count < 2 ^ 28 → Near count (added_of mark count counted ab)
added_near mark count counted ab h =
    picked (Near count) mark count (grown_of count counted ab) (λ e. (h, omega arith)) (λ e. (omega arith, omega arith))

-- what holds of the age counter and AS
abbrev AgeWf : Age → Type 0
AgeWf x = (x.age < 32 * 65535) × (63 ≤ x.aging) × (x.aging ≤ 128)

aged_wf : (ac age fall aging : ℕ) → ac ≤ 65535 → age < 32 * 65535 → fall ≤ 9 → 63 ≤ aging → aging ≤ 128 →
    AgeWf (aged_of ac (age + fall) aging)
aged_wf ac age fall aging p q h low high =
    picked AgeWf (eqb ac 0) (record { age = 0; aging = aging }) _ (λ e. (omega arith, low, high))
    (λ e. picked AgeWf (ltb (age + fall) (32 * ac)) (record { age = age + fall; aging = aging }) _
    (λ l. (omega (arith, ltb-true (age + fall) (32 * ac) l), low, high))
    (λ l. (omega (arith, eqb-false ac 0 e), omega arith, omega arith)))

-- AS stays where AC is 0 or the counter is below 32 × AC
aged_stays : (ac age aging : ℕ) → but_not (leb (32 * ac) age) (eqb ac 0) ≡ false → (aged_of ac age aging).aging ≡ aging
aged_stays ac age aging e =
    picked (λ (x : Age). x.aging ≡ aging) (eqb ac 0) _ _ (λ z. refl)
    (λ z. picked (λ (x : Age). x.aging ≡ aging) (ltb age (32 * ac)) _ _ (λ y. refl)
    (λ y. let low = le-leb (32 * ac) age (ltb-false age (32 * ac) y) in cc))

pub counted_wf : (f : Profile) (p : Counting) (g : Charge) (last c : ℕ) → p.ac ≤ 65535 → ChargeWf g → ChargeWf (counted_of f p g last c)
unfolding counted_of
counted_wf f p g last c h w =
    let near = added_near g.mark g.count (blanked_of f p.nben c) p.ab w.count in
    let aged = aged_wf p.ac g.age _ g.aging h w.age near.1 w.low w.high in
    record { count = near.0; age = aged.0; low = aged.1; high = aged.2 }

pub counted_stays : (f : Profile) (p : Counting) (g : Charge) (last c : ℕ)
    → but_not (leb (32 * p.ac) (g.age + fall_of g.count (counted_of f p g last c).count)) (eqb p.ac 0) ≡ false
    → (counted_of f p g last c).aging ≡ g.aging
unfolding counted_of
counted_stays f p g last c e = aged_stays p.ac (g.age + fall_of g.count (new_count f p g c)) g.aging e

-- a conversion that finds the mark adds nothing, and ageing is looked at as ever, with no fall
module _ (f : Profile) (p : Counting) (g : Charge) (last c : ℕ) (e : g.mark ≡ true) where
  pub marked_count : (counted_of f p g last c).count ≡ g.count
  unfolding counted_of
  marked_count = simp e

  pub marked_age : new_age f p g c ≡ aged_of p.ac g.age g.aging
  marked_age =
      let none : g.age + fall_of g.count g.count ≡ g.age = omega arith in
      simp e (ap (λ (x : ℕ). aged_of p.ac x g.aging) none)

pub aged_full_high : (full aging : ℕ) → full ≤ 16384 → aging ≤ 128 → aged_full_of full aging ≤ 16384
unfolding aged_full_of
aged_full_high full aging p q = omega (arith, times full aging 16384 128 p q)

pub share_high : (x full40 : ℕ) → x ≤ 16384 → full40 ≤ 65535 → share_of x full40 ≤ 65535
unfolding share_of
share_high x full40 p q = omega (arith, times x full40 16384 65535 p q)

-- the charge at full is the least that covers its share of Full40, and at most Full40: 0 where that is 0
pub share_up_covers : (x full40 : ℕ) → x * full40 ≤ 16384 * share_up_of x full40
unfolding share_up_of
share_up_covers x full40 = omega arith

pub share_up_least : (x full40 acr : ℕ) → x * full40 ≤ 16384 * acr → share_up_of x full40 ≤ acr
unfolding share_up_of
share_up_least x full40 acr h = omega arith

pub share_up_high : (x full40 : ℕ) → x ≤ 16384 → share_up_of x full40 ≤ full40
share_up_high x full40 p = share_up_least x full40 full40 (times x full40 16384 full40 p (omega arith))
