-- The charge: a conversion is a stretch of one, and a stretch and one conversion more are a longer stretch.
use mathlib.Core.Path.{◌≡◌, refl, sym, ap, subst, ◌∙◌}
use mathlib.Core.Bool.{Bool, true, false, not}
use mathlib.Core.Logic.{◌⊎◌, inl, inr, ⊎_elim}
use Prim.Native.Nat.{ℕ, zero, suc, ◌+◌, ◌-◌, ◌*◌, ◌^◌, ◌≤◌, ◌<◌, min, max}
use native.Mathlib.Nat.{eq-zero-or-pos, div-zero, div-eq_of_lt, min-zero, zero-min, zero-mul, sub-zero, max-eq_left}
use native.Mathlib.Omega.{arith}
use lib.Dec.{eqb}
use borrow.Author.Tests.{lt-ltb, le-ltb, eq-eqb, ne_eqb, eqb-true}
use Rattle.numbers.specs.Offset.{zero_at}
use Rattle.numbers.specs.Choice.{both, either, but_not}
use Rattle.params.specs.declared.Counting.{Counting}
use Rattle.state.specs.declared.Profile.{Profile}
use Rattle.state.specs.declared.Charge.{Charge}
use Rattle.state.specs.State.{ChargeWf, acr_of}
use Rattle.conversion.specs.Conversion.{fall_of, grown_of, added_of, aged_of, turned_of, negative, counted_of, blanked_of}
use Rattle.conversion.proofs.ChargeLaws.{counted_wf}
use Rattle.samples.specs.Stretch.{grown_over, adds_over, drops_over, age_over, aging_over, worn_over, count_over}
use Rattle.samples.specs.Stretch.{fallen_over, empty_over, charge_over, learnf_over}
use Rattle.samples.proofs.Numbers.{either_way, reached, clamped_more, rises, falls, rises_on, falls_on, lost, lost_fits, lost_due, lost_still}

-- ---- step 3

abbrev zeros : ℕ
zeros = zero_at 15 + zero_at 7

abbrev top : ℕ
top = 2 ^ 28 - 1

grown_joined : (y counted ab : ℕ) → grown_of y counted ab ≡ min (y + (counted + ab) - zeros) top
grown_joined y counted ab = omega arith

-- ACR falls by at most 9 at a time, and what it falls one way adds up
fall_small : (y counted ab : ℕ) → y < 2 ^ 28 → fall_of y (grown_of y counted ab) ≤ 9
fall_small y counted ab h = omega arith

fall_none : (x y z : ℕ) → (x ≤ y) × (y ≤ z) → fall_of x y + fall_of y z ≡ fall_of x z
fall_none x y z w = omega arith

fall_sum : (x y z : ℕ) → (y ≤ x) × (z ≤ y) → fall_of x y + fall_of y z ≡ fall_of x z
fall_sum x y z w = omega arith

module _ (x counted ab k : ℕ) (h : x < 2 ^ 28) where
  grown_more : grown_of (grown_over x counted ab k) counted ab ≡ grown_over x counted ab (suc k)
  grown_more = grown_joined (grown_over x counted ab k) counted ab ∙ clamped_more x (counted + ab) zeros top k (omega arith)

  one_way :
      ((x ≤ grown_over x counted ab k) × (grown_over x counted ab k ≤ grown_over x counted ab (suc k))) ⊎
      ((grown_over x counted ab k ≤ x) × (grown_over x counted ab (suc k) ≤ grown_over x counted ab k))
  one_way =
      ⊎_elim (λ p. inl (rises x (counted + ab) zeros top k (omega arith) p))
      (λ p. inr (falls x (counted + ab) zeros top k (omega arith) p))
      (either_way zeros (counted + ab))

  fall_few : fall_of (grown_over x counted ab k) (grown_over x counted ab (suc k)) ≤ 9
  fall_few = rw (← grown_more) (fall_small (grown_over x counted ab k) counted ab (omega arith))

  fall_more :
      fall_of x (grown_over x counted ab k) + fall_of (grown_over x counted ab k) (grown_over x counted ab (suc k)) ≡
      fall_of x (grown_over x counted ab (suc k))
  fall_more = ⊎_elim (fall_none _ _ _) (fall_sum _ _ _) one_way

-- the first adds, or has the mark
added_one : (mark : Bool) (x counted ab : ℕ) → x < 2 ^ 28 → added_of mark x counted ab ≡ grown_over x counted ab (adds_over mark 1)
unfolding adds_over
added_one true x counted ab h = omega arith
added_one false x counted ab h = omega arith

added_few : (mark : Bool) (x counted ab : ℕ) → x < 2 ^ 28 → fall_of x (added_of mark x counted ab) ≤ 9
added_few true x counted ab h = omega arith
added_few false x counted ab h = fall_small x counted ab h

-- the others add
adds_on : (mark : Bool) (j : ℕ) → adds_over mark (suc j) ≡ adds_over mark 1 + j
unfolding adds_over
adds_on true j = omega arith
adds_on false j = omega arith

adds_more : (mark : Bool) (j : ℕ) → adds_over mark (suc (suc j)) ≡ suc (adds_over mark (suc j))
adds_more mark j = omega (arith, adds_on mark j, adds_on mark (suc j))

-- from the first on
from_one : (x counted ab i j : ℕ) → x < 2 ^ 28 →
    ((grown_over x counted ab i ≤ grown_over x counted ab (i + j)) × (grown_over x counted ab (i + j) ≤ grown_over x counted ab (suc (i + j)))) ⊎
    ((grown_over x counted ab (i + j) ≤ grown_over x counted ab i) × (grown_over x counted ab (suc (i + j)) ≤ grown_over x counted ab (i + j)))
from_one x counted ab i j h =
    ⊎_elim
    (λ p. inl (rises_on x (counted + ab) zeros top i j p, (rises x (counted + ab) zeros top (i + j) (omega arith) p).1))
    (λ p. inr (falls_on x (counted + ab) zeros top i j p, (falls x (counted + ab) zeros top (i + j) (omega arith) p).1))
    (either_way zeros (counted + ab))

-- ---- step 4

-- after k conversions; t is the age counter at the start with all that ACR fell
abbrev age_after : ℕ → ℕ → ℕ → ℕ
age_after ac t k = age_over ac t (drops_over ac t k)

abbrev aging_after : ℕ → ℕ → ℕ → ℕ → ℕ
aging_after ac t k aging = aging_over aging (drops_over ac t k)

aging_once : (aging n : ℕ) → max (max (aging - n) 63 - 1) 63 ≡ max (aging - suc n) 63
aging_once aging n = omega arith

module _ (ac t f k aging : ℕ) (few : f ≤ 9) where
  abbrev AgedMore : Type 0
  AgedMore =
      let x = aged_of ac (age_after ac t k + f) (aging_after ac t k aging) in
      (x.age ≡ age_after ac (t + f) (suc k)) × (x.aging ≡ aging_after ac (t + f) (suc k) aging)

  aged_never : ac ≡ 0 → AgedMore
  aged_never e = (simp e, simp (e, div-zero, min-zero))

  module _ (pos : 0 < ac) where
    abbrev l : ℕ
    l = 32 * ac

    not_zero : eqb ac 0 ≡ false
    not_zero = ne_eqb ac 0 (omega arith)

    aged_due : l ≤ t - lost l t k * l + f → AgedMore
    aged_due d =
        let e = lost_due l t (t + f) k (omega arith) (omega arith) (omega arith) (omega (arith, lost_fits l t k)) in
        (simp (not_zero, le-ltb _ l d, e) (omega (arith, lost_fits l t k)), simp (not_zero, le-ltb _ l d, e) (aging_once aging (lost l t k)))

    aged_still : t - lost l t k * l + f < l → AgedMore
    aged_still d =
        let e = lost_still l t (t + f) k (omega arith) (omega arith) (omega arith) (omega (arith, lost_fits l t k)) in
        (simp (not_zero, lt-ltb _ l d, e) (omega (arith, lost_fits l t k)), simp (not_zero, lt-ltb _ l d, e))

  aged_more : AgedMore
  aged_more =
      ⊎_elim aged_never
      (λ pos. ⊎_elim (aged_due pos) (aged_still pos) (reached (32 * ac) (t - lost (32 * ac) t k * (32 * ac) + f)))
      (eq-zero-or-pos ac)

-- none before the first
aged_one : (ac age f aging : ℕ) → f ≤ 9 → 63 ≤ aging →
    let x = aged_of ac (age + f) aging in
    (x.age ≡ age_after ac (age + f) 1) × (x.aging ≡ aging_after ac (age + f) 1 aging)
aged_one ac age f aging few low =
    let still : aging_after ac age 0 aging ≡ aging = omega arith in
    ⊎_elim
    (λ (e : ac ≡ 0). (simp e, simp (e, div-zero, min-zero) (omega arith)))
    (λ (pos : 0 < ac).
    let none : age_after ac age 0 ≡ age = simp (ne_eqb ac 0 (omega arith), zero-min, zero-mul) (omega arith) in
    rw (none, still) at (aged_more ac age f 0 aging few))
    (eq-zero-or-pos ac)

-- below the limit nothing is taken off
pub worn_still : (ac age aging k : ℕ) → age < 32 * ac → 63 ≤ aging → worn_over ac age aging k ≡ record { age = age; aging = aging }
unfolding worn_over
worn_still ac age aging k below low =
    simp (div-eq_of_lt below, min-zero, zero-mul, ne_eqb ac 0 (omega arith), sub-zero, max-eq_left low)

-- ---- step 5

turned_same : (c : ℕ) → turned_of c c ≡ false
turned_same c = never_both (negative c)
  where
    never_both : (n : Bool) → both n (not n) ≡ false
    never_both true = refl
    never_both false = refl

either_same : (t : Bool) → t ≡ either t t
either_same true = refl
either_same false = refl

learnf_more : (learnf first now after : Bool) → (now ≡ true → either first after ≡ true) →
    but_not (but_not (but_not learnf (either first now)) false) after ≡ but_not learnf (either first after)
learnf_more learnf true now true h = refl
learnf_more learnf true now false h = refl
learnf_more learnf false true after h = simp (h refl)
learnf_more learnf false false after h = refl

-- ---- the charge

module _ (f : Profile) (p : Counting) (g : Charge) (last c : ℕ) (w : ChargeWf g) where
  abbrev counted : ℕ
  counted = blanked_of f p.nben c

  -- what a conversion makes of a charge h, with y for the new count
  abbrev next : Charge → ℕ → ℕ → Charge
  next h before y = record {
    count = y;
    age = (aged_of p.ac (h.age + fall_of h.count y) h.aging).age;
    aging = (aged_of p.ac (h.age + fall_of h.count y) h.aging).aging;
    learnf = but_not (but_not h.learnf (turned_of before c)) (eqb (acr_of y) 0);
    mark = false;
  }

  pub charge_one : counted_of f p g last c ≡ charge_over f p g last c 1
  unfolding counted_of charge_over worn_over learnf_over
  charge_one =
      let x = added_one g.mark g.count counted p.ab w.count in
      let few = subst (λ (y : ℕ). fall_of g.count y ≤ 9) x (added_few g.mark g.count counted p.ab w.count) in
      let a = aged_one p.ac g.age (fall_of g.count (count_over f p g c 1)) g.aging few w.low in
      ap (next g last) x ∙
      (λ i. record {
        count = count_over f p g c 1;
        age = a.0 i;
        aging = a.1 i;
        learnf = but_not (but_not g.learnf (turned_of last c)) (either_same (eqb (acr_of (count_over f p g c 1)) 0) i);
        mark = false;
      })

  -- k conversions, at least one, and one more
  module _ (j : ℕ) where
    abbrev k : ℕ
    k = suc j

    abbrev x1 : ℕ
    x1 = count_over f p g c k

    abbrev x2 : ℕ
    x2 = count_over f p g c (suc k)

    -- an ACR of 0 stays, or was there after the first
    empties : (first x y : ℕ) → ((first ≤ x) × (x ≤ y)) ⊎ ((x ≤ first) × (y ≤ x)) → eqb (acr_of x) 0 ≡ true
        → either (eqb (acr_of first) 0) (eqb (acr_of y) 0) ≡ true
    empties first x y o e =
        let z = eqb-true (acr_of x) 0 e in
        ⊎_elim
        (λ r. simp (eq-eqb (acr_of first) 0 (omega arith)))
        (λ r. simp (eq-eqb (acr_of y) 0 (omega arith)) (either_true (eqb (acr_of first) 0)))
        o
      where
        either_true : (t : Bool) → either t true ≡ true
        either_true true = refl
        either_true false = refl

    -- how many add
    abbrev n : ℕ
    n = adds_over g.mark k

    abbrev first : ℕ
    first = adds_over g.mark 1

    after : grown_over g.count counted p.ab (suc n) ≡ x2
    after = ap (grown_over g.count counted p.ab) (sym (adds_more g.mark j))

    from_first : ((count_over f p g c 1 ≤ x1) × (x1 ≤ x2)) ⊎ ((x1 ≤ count_over f p g c 1) × (x2 ≤ x1))
    from_first =
        let add = grown_over g.count counted p.ab in
        rw (← after)
        (subst (λ (i : ℕ). ((add first ≤ add i) × (add i ≤ add (suc i))) ⊎ ((add i ≤ add first) × (add (suc i) ≤ add i)))
        (sym (adds_on g.mark j)) (from_one g.count counted p.ab first j w.count))

    falls_join : fall_of g.count x1 + fall_of x1 x2 ≡ fall_of g.count x2
    falls_join = rw (← after) (fall_more g.count counted p.ab n w.count)

    fallen_more : fallen_over f p g c k + fall_of x1 x2 ≡ fallen_over f p g c (suc k)
    fallen_more = joined g.age _ _ _ falls_join
      where
        joined : (a b c d : ℕ) → b + c ≡ d → a + b + c ≡ a + d
        joined a b c d e = omega arith

    aged_both :
        let x = aged_of p.ac ((charge_over f p g last c k).age + fall_of x1 x2) (charge_over f p g last c k).aging in
        (x.age ≡ (charge_over f p g last c (suc k)).age) × (x.aging ≡ (charge_over f p g last c (suc k)).aging)
    unfolding charge_over worn_over learnf_over
    aged_both =
        let few : fall_of x1 x2 ≤ 9 = rw (← after) (fall_few g.count counted p.ab n w.count) in
        let a = aged_more p.ac (fallen_over f p g c k) (fall_of x1 x2) k g.aging few in (
          a.0 ∙ ap (λ (t : ℕ). age_after p.ac t (suc k)) fallen_more,
          a.1 ∙ ap (λ (t : ℕ). aging_after p.ac t (suc k) g.aging) fallen_more,
        )

    learnf_both :
        but_not (but_not (charge_over f p g last c k).learnf (turned_of c c)) (eqb (acr_of x2) 0) ≡ (charge_over f p g last c (suc k)).learnf
    unfolding charge_over worn_over learnf_over
    learnf_both =
        let l = but_not g.learnf (turned_of last c) in
        ap (λ (t : Bool). but_not (but_not (but_not l (empty_over f p g c (count_over f p g c k))) t) (eqb (acr_of x2) 0)) (turned_same c) ∙
        learnf_more l (eqb (acr_of (count_over f p g c 1)) 0) (eqb (acr_of x1) 0) (eqb (acr_of x2) 0)
        (empties (count_over f p g c 1) x1 x2 from_first)

    pub charge_more : counted_of f p (charge_over f p g last c k) c c ≡ charge_over f p g last c (suc k)
    unfolding counted_of charge_over worn_over learnf_over
    charge_more =
        ap (next (charge_over f p g last c k) c) (grown_more g.count counted p.ab n w.count ∙ after) ∙
        (λ i. record { count = x2; age = aged_both.0 i; aging = aged_both.1 i; learnf = learnf_both i; mark = false })

    -- what ACR falls adds up
    pub charge_falls :
        fall_of g.count (charge_over f p g last c k).count + fall_of (charge_over f p g last c k).count (charge_over f p g last c (suc k)).count ≡
        fall_of g.count (charge_over f p g last c (suc k)).count
    unfolding charge_over worn_over learnf_over
    charge_falls = falls_join

  -- ---- what is kept

  pub charge_wf : p.ac ≤ 65535 → (k : ℕ) → 1 ≤ k → ChargeWf (charge_over f p g last c k)
  charge_wf h zero some = absurd (omega arith)
  charge_wf h (suc zero) some = rw (← charge_one) (counted_wf f p g last c h w)
  charge_wf h (suc (suc j)) some =
      rw (← charge_more j) (counted_wf f p (charge_over f p g last c (suc j)) c c h (charge_wf h (suc j) (omega arith)))
