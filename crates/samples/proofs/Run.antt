-- CURRENT, the run of eight and the readings since the last average: a conversion is a stretch of one, and a stretch and one conversion more
-- are a longer stretch.
use mathlib.Core.Path.{◌≡◌, refl, sym, ap, ◌∙◌}
use mathlib.Core.Bool.{Bool, true, false}
use mathlib.Core.Logic.{⊎_elim}
use Prim.Native.Nat.{ℕ, suc, ◌+◌, ◌-◌, ◌*◌, ◌/◌, ◌%◌, ◌≤◌, ◌<◌}
use native.Mathlib.Nat.{zero-mul, mul-le-mul_left}
use native.Mathlib.Omega.{arith}
use lib.Dec.{ltb}
use borrow.Author.Tests.{lt-ltb, le-ltb, le-leb, lt-leb, leb-false, eq-eqb, ne_eqb}
use Rattle.numbers.specs.Choice.{both}
use Rattle.numbers.proofs.Bounds.{picked}
use Rattle.params.specs.declared.Limits.{Limits}
use Rattle.state.specs.declared.Trace.{Trace}
use Rattle.conversion.specs.Conversion.{traced_of, next_made, eighth, averaged_of, renewed_of, found_of, tapering_of}
use Rattle.state.specs.declared.Average.{Average}
use Rattle.state.specs.declared.Since.{Since}
use Rattle.state.specs.State.{AverageWf, run_of}
use Rattle.state.specs.declared.Flow.{Flow}
use Rattle.samples.specs.Stretch.{trace_over, ends_over, seventh_of, mean_over, average_over, found_over, Quiet}
use Rattle.samples.proofs.Numbers.{reached}

-- ---- CURRENT and the c before it

pub trace_one : (t : Trace) (c : ℕ) → traced_of t c ≡ trace_over t c 1
unfolding trace_over
trace_one t c = refl

pub trace_more : (t : Trace) (c j : ℕ) → traced_of (trace_over t c (suc j)) c ≡ trace_over t c (suc (suc j))
unfolding trace_over
trace_more t c j = simp (ne_eqb (suc (suc j)) 1 (omega arith), lt-ltb 1 (suc (suc j)) (omega arith))

-- ---- the run of eight

-- n equal c, and one more as the eighth
mean_same : (n sum c : ℕ) → n ≡ 7 → sum ≡ n * c → (sum + c) / 8 ≡ c
mean_same n sum c e f = let g : sum ≡ 7 * c = f ∙ ap (λ (x : ℕ). x * c) e in omega arith

module _ (a : Average) (s : Since) (c k : ℕ) where
  -- the conversions since power-on, after so many
  abbrev made : ℕ → ℕ
  made n = (a.made + n) % 1024

  one_more : next_made (made k) ≡ made (suc k)
  one_more = omega arith

  -- what a conversion makes of average and readings
  pub record Goes : Type 0 where
    pub averaged : averaged_of (average_over a c k) c ≡ average_over a c (suc k)
    pub renewed : renewed_of (renewed_of s (ends_over a k)) (eighth (average_over a c k)) ≡ renewed_of s (ends_over a (suc k))

  goes_within : run_of a + suc k < 8 → Goes
  unfolding averaged_of average_over renewed_of
  goes_within h =
      let now = lt-leb 8 (run_of a + k) (omega arith) in
      let then = lt-leb 8 (run_of a + suc k) (omega arith) in
      let not_yet = ne_eqb (made k % 8) 7 (omega arith) in
      let t : a.sum + k * c + c ≡ a.sum + suc k * c = omega arith in
      record {
        averaged = simp (now, then, not_yet) (λ i. record { made = one_more i; sum = t i; iavg = a.iavg; known = a.known });
        renewed = simp (now, then, not_yet);
      }

  -- the first end of a run
  goes_end : run_of a + k ≡ 7 → Goes
  unfolding averaged_of average_over renewed_of
  goes_end h =
      let now = lt-leb 8 (run_of a + k) (omega arith) in
      let then = le-leb 8 (run_of a + suc k) (omega arith) in
      let first = lt-ltb (run_of a + suc k) 16 (omega arith) in
      let eighth = eq-eqb (made k % 8) 7 (omega arith) in
      let r : (a.made + suc k) % 8 ≡ 0 = omega arith in
      let n : 8 - run_of a ≡ suc k = omega arith in
      let t : a.sum + k * c + c ≡ a.sum + suc k * c = omega arith in
      let m = ap (λ (x : ℕ). x / 8) (t ∙ ap (λ (x : ℕ). a.sum + x * c) (sym n)) in
      record {
        averaged = simp (now, then, first, eighth, r, zero-mul) (λ i. record { made = one_more i; sum = 0; iavg = m i; known = true });
        renewed = simp (now, then, eighth);
      }

  -- a later one
  goes_end_again : 8 ≤ run_of a + k → (a.made + k) % 8 ≡ 7 → Goes
  unfolding averaged_of average_over renewed_of
  goes_end_again h e =
      let now = le-leb 8 (run_of a + k) h in
      let then = le-leb 8 (run_of a + suc k) (omega arith) in
      let later = le-ltb (run_of a + suc k) 16 (omega arith) in
      let eighth = eq-eqb (made k % 8) 7 (omega arith) in
      let r : (a.made + suc k) % 8 ≡ 0 = omega arith in
      let m = mean_same ((a.made + k) % 8) ((a.made + k) % 8 * c) c e refl in
      record {
        averaged = simp (now, then, later, eighth, r, zero-mul) (λ i. record { made = one_more i; sum = 0; iavg = m i; known = true });
        renewed = simp (now, then, eighth);
      }

  goes_after : 8 ≤ run_of a + k → (a.made + k) % 8 < 7 → Goes
  unfolding averaged_of average_over renewed_of
  goes_after h l =
      let now = le-leb 8 (run_of a + k) h in
      let then = le-leb 8 (run_of a + suc k) (omega arith) in
      let not_yet = ne_eqb (made k % 8) 7 (omega arith) in
      let same : ltb (run_of a + suc k) 16 ≡ ltb (run_of a + k) 16 =
      ⊎_elim (λ (m : 16 ≤ run_of a + k). le-ltb (run_of a + suc k) 16 (omega arith) ∙ sym (le-ltb (run_of a + k) 16 m))
      (λ (m : run_of a + k < 16). lt-ltb (run_of a + suc k) 16 (omega arith) ∙ sym (lt-ltb (run_of a + k) 16 m)) (reached 16 (run_of a + k)) in
      let r : (a.made + suc k) % 8 ≡ (a.made + k) % 8 + 1 = omega arith in
      let t : (a.made + k) % 8 * c + c ≡ ((a.made + k) % 8 + 1) * c = omega arith in
      record {
        averaged = simp (now, then, not_yet, r, same) (λ i. record { made = one_more i; sum = t i; iavg = mean_over a c k; known = true });
        renewed = simp (now, then, not_yet);
      }

  pub goes : Goes
  goes =
      ⊎_elim
      (λ h. ⊎_elim (λ e. goes_end_again h (omega arith)) (goes_after h) (reached 7 ((a.made + k) % 8)))
      (λ h. ⊎_elim (λ e. goes_end (omega arith)) (λ e. goes_within (omega arith)) (reached 7 (run_of a + k)))
      (reached 8 (run_of a + k))

-- none before the first

pub average_none : (a : Average) (c : ℕ) → AverageWf a → average_over a c 0 ≡ a
unfolding average_over
average_none a c w =
    let m : (a.made + 0) % 1024 ≡ a.made = omega (arith, w.made) in
    let t : a.sum + 0 * c ≡ a.sum = omega arith in
    simp (lt-leb 8 (run_of a + 0) (omega arith)) (λ i. record { made = m i; sum = t i; iavg = a.iavg; known = a.known })

pub renewed_none : (a : Average) (s : Since) → renewed_of s (ends_over a 0) ≡ s
unfolding renewed_of
renewed_none a s = simp (lt-leb 8 (run_of a + 0) (omega arith))

-- ---- full

found_unread : (a : Average) (s : Since) (p : Limits) (c : ℕ) → s.any ≡ false → found_of a s p c ≡ false
unfolding found_of
found_unread a s p c e = simp e (never (tapering_of a p.imin c))
  where
    never : (x : Bool) → both x false ≡ false
    never true = refl
    never false = refl

both_never : (x y : Bool) → y ≡ false → both x y ≡ false
both_never true y e = e
both_never false y e = refl

module _ (f : Flow) (p : Limits) (c k : ℕ) where
  abbrev a : Average
  a = f.average

  abbrev s : Since
  s = f.since

  -- what an average of k conversions finds at the next
  abbrev found_next : Bool
  found_next = both (eighth (average_over a c k)) (found_of (average_over a c k) (renewed_of s (ends_over a k)) p c)

  renewed_unread : s.any ≡ false → (renewed_of s (ends_over a k)).any ≡ false
  unfolding renewed_of
  renewed_unread e = picked (λ (x : Since). x.any ≡ false) (ends_over a k) _ _ (λ t. refl) (λ t. e)

  found_none : s.any ≡ false → found_next ≡ found_over f p c (suc k)
  found_none e =
      both_never (eighth (average_over a c k)) _ (found_unread (average_over a c k) (renewed_of s (ends_over a k)) p c (renewed_unread e)) ∙
      sym (both_never (ends_over a (suc k)) _ (found_unread (seventh_of a c) s p c e))

  found_within : run_of a + suc k < 8 → found_next ≡ found_over f p c (suc k)
  unfolding average_over
  found_within h =
      simp (lt-leb 8 (run_of a + k) (omega arith), lt-leb 8 (run_of a + suc k) (omega arith), ne_eqb ((a.made + k) % 1024 % 8) 7 (omega arith))

  found_end : run_of a + suc k ≡ 8 → found_next ≡ found_over f p c (suc k)
  unfolding average_over renewed_of
  found_end h =
      let n : k ≡ 7 - run_of a = omega arith in
      let same : average_over a c k ≡ seventh_of a c =
      simp (lt-leb 8 (run_of a + k) (omega arith)) (λ i. record { made = (a.made + n i) % 1024; sum = a.sum + n i * c; iavg = a.iavg; known = a.known }) in
      let last : (seventh_of a c).made % 8 ≡ 7 = omega arith in
      rw same (simp (eq-eqb ((seventh_of a c).made % 8) 7 last, lt-leb 8 (run_of a + k) (omega arith), le-leb 8 (run_of a + suc k) (omega arith)))

  pub found_more : Quiet f (suc k) → found_next ≡ found_over f p c (suc k)
  found_more =
      ⊎_elim
      (λ h. ⊎_elim (λ e. found_end (omega arith)) (λ e. found_within (omega arith)) (reached 8 (run_of a + suc k)))
      (λ e. found_none e.0)

  -- and so nothing is found before the last
  pub found_not : Quiet f (suc k) → found_over f p c k ≡ false
  found_not =
      ⊎_elim (λ h. simp (lt-leb 8 (run_of a + k) (omega arith))) (λ e. both_never (ends_over a k) _ (found_unread (seventh_of a c) s p c e.0))

-- ---- what is kept

pub average_wf : (a : Average) (c k : ℕ) → c ≤ 65535 → AverageWf a → AverageWf (average_over a c k)
unfolding average_over
average_wf a c k h w =
    picked AverageWf (ends_over a k) _ _
    (λ e. record { made = omega arith; sum = omega (arith, mul-le-mul_left ((a.made + k) % 8) h) })
    (λ e. record { made = omega arith; sum = omega (arith, w.sum, mul-le-mul_left k h, leb-false 8 (run_of a + k) e) })
