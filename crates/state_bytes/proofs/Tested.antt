-- Eight bytes that are tested at once are each below their power of two; and what is tested of the bytes of a gauge is what is asked of its value.
use mathlib.Core.Path.{◌≡◌, refl, sym, ap, ◌∙◌}
use mathlib.Core.Bool.{Bool, true, false, not}
use mathlib.Core.List.{List, [], ◌∷◌}
use Prim.Native.Nat.{ℕ, ◌+◌, ◌-◌, ◌*◌, ◌%◌, ◌^◌, ◌≤◌, ◌<◌}
use native.Mathlib.Nat.{add_assoc, mod-lt, mod-eq_of_lt}
use native.Mathlib.Omega.{arith}
use borrow.Author.Tests.{eq-eqb, eqb-true, lt-ltb, ltb-true, le-ltb, le-leb, leb-true, lt-leb, not-true, not-false}
use lib.Bits.{bit_and, and_block, and_high}
use lib.Dec.{eqb, leb, ltb}
use lib.ListN.{get_or, drop}
use lib.Pow.{pow_pos, pow-sub-lt, recompose}
use lib.Seq.{get_or-drop}
use Rattle.numbers.specs.Choice.{both}
use Rattle.numbers.proofs.Bounds.{both_true}
use Rattle.slices.specs.Slices.{pair_at, quad_at}
use Rattle.runs.proofs.Records.{Bytes}
use Rattle.state.specs.declared.Meter.{Meter}
use Rattle.state.specs.State.{MeterWf}
use Rattle.state.specs.declared.Profile.{Profile}
use Rattle.state_bytes.specs.Layout.{flag_in, plain_at}
use Rattle.state_bytes.specs.State.{profile_in, gauge_layout, uncounted_by, sound_meter}
use Rattle.state_bytes.specs.Tested.{octet_at, clear_of, clear_octets, sound_numbers, sound_place}
use Rattle.state_bytes.proofs.Undoing.{no_cycles, cycles_none, sound_meter_lem, meter_sound}

-- two tests, each of which holds where the other does
same_test : (x y : Bool) → (x ≡ true → y ≡ true) → (y ≡ true → x ≡ true) → x ≡ y
same_test true y f g = sym (f refl)
same_test false true f g = g refl
same_test false false f g = refl

both_hold : {x y : Bool} → x ≡ true → y ≡ true → both x y ≡ true
both_hold e h = rw (e, h) refl

-- ---- the upper bits of a byte

-- a is what the upper bits of x are worth, r what the others are
none_above : (x a r p : ℕ) → a + r ≡ x → r < p → (x < p → r ≡ x) → eqb a 0 ≡ ltb x p
none_above x a r p e low small =
    same_test (eqb a 0) (ltb x p) (λ h. lt-ltb x p (omega (arith, eqb-true a 0 h)))
    (λ h. eq-eqb a 0 (omega (arith, small (ltb-true x p h))))

-- a byte whose upper bits from k on are 0 is below 2 ^ k
clear_byte : (x k : ℕ) → x < 256 → k ≤ 8 → eqb (bit_and x (2 ^ 8 - 2 ^ k)) 0 ≡ ltb x (2 ^ k)
clear_byte x k byte fits =
    let eight : 8 - k + k ≡ 8 = omega arith in
    let upper = rw eight at (and_high x (8 - k) k) in
    let whole = recompose {n = x} (8 - k) k (rw eight byte) in
    ap (λ (n : ℕ). eqb n 0) upper
    ∙ none_above x _ (x % 2 ^ k) (2 ^ k) whole (mod-lt x (pow_pos k)) mod-eq_of_lt

-- ---- of so many bytes from an index on: a list of exponents says the power of two that each is to be below

-- the bytes as one number, the low byte first
abbrev word_from : List ℕ → ℕ → List ℕ → ℕ
word_from s i [] = 0
word_from s i (k ∷ ks) = word_from s (i + 1) ks * 2 ^ 8 + get_or s i 0

-- the upper bits of each byte
abbrev mask_of : List ℕ → ℕ
mask_of [] = 0
mask_of (k ∷ ks) = mask_of ks * 2 ^ 8 + (2 ^ 8 - 2 ^ k)

-- no byte is to be below more than 2 ^ 8
abbrev powers_fit : List ℕ → Bool
powers_fit [] = true
powers_fit (k ∷ ks) = both (leb k 8) (powers_fit ks)

-- each byte is below its power of two
abbrev under_each : List ℕ → ℕ → List ℕ → Bool
under_each s i [] = true
under_each s i (k ∷ ks) = both (ltb (get_or s i 0) (2 ^ k)) (under_each s (i + 1) ks)

-- no bit is set in a number where none is in its low byte and none in what is above
none_set : (a b : ℕ) → eqb (a * 2 ^ 8 + b) 0 ≡ both (eqb b 0) (eqb a 0)
none_set a b =
    same_test (eqb (a * 2 ^ 8 + b) 0) (both (eqb b 0) (eqb a 0))
    (λ h. both_hold (eq-eqb b 0 (omega (arith, eqb-true (a * 2 ^ 8 + b) 0 h))) (eq-eqb a 0 (omega (arith, eqb-true (a * 2 ^ 8 + b) 0 h))))
    (λ h. let parts = both_true (eqb b 0) (eqb a 0) h in eq-eqb (a * 2 ^ 8 + b) 0 (omega (arith, eqb-true b 0 parts.0, eqb-true a 0 parts.1)))

-- the one test of the bits is the test of each byte
clear_each : (s : List ℕ) → Bytes s → (i : ℕ) (ks : List ℕ) → powers_fit ks ≡ true → clear_of (word_from s i ks) (mask_of ks) ≡ under_each s i ks
unfolding clear_of
clear_each s bytes i [] h = refl
clear_each s bytes i (k ∷ ks) h =
    let fits = both_true (leb k 8) (powers_fit ks) h in
    let first = clear_byte (get_or s i 0) k (bytes i) (leb-true k 8 fits.0) in
    let rest = clear_each s bytes (i + 1) ks fits.1 in
    let upper = word_from s (i + 1) ks in
    ap (λ (n : ℕ). eqb n 0) (and_block 8 upper (mask_of ks) (get_or s i 0) (2 ^ 8 - 2 ^ k) (bytes i) (pow-sub-lt 8 (pow_pos k)))
    ∙ none_set (bit_and upper (mask_of ks)) (bit_and (get_or s i 0) (2 ^ 8 - 2 ^ k))
    ∙ (λ j. both (first j) (rest j))

-- the same as a fact, for `omega`
abbrev Under : List ℕ → ℕ → List ℕ → Type 0
Under s i [] = Unit
Under s i (k ∷ ks) = (get_or s i 0 < 2 ^ k) × Under s (i + 1) ks

under_holds : (s : List ℕ) (i : ℕ) (ks : List ℕ) → under_each s i ks ≡ true → Under s i ks
under_holds s i [] h = tt
under_holds s i (k ∷ ks) h =
    let parts = both_true (ltb (get_or s i 0) (2 ^ k)) (under_each s (i + 1) ks) h in
    (ltb-true (get_or s i 0) (2 ^ k) parts.0, under_holds s (i + 1) ks parts.1)

holds_under : (s : List ℕ) (i : ℕ) (ks : List ℕ) → Under s i ks → under_each s i ks ≡ true
holds_under s i [] h = refl
holds_under s i (k ∷ ks) h = both_hold (lt-ltb (get_or s i 0) (2 ^ k) h.0) (holds_under s (i + 1) ks h.1)

-- the same of flags, by their places
abbrev Plain : List ℕ → List ℕ → Type 0
Plain s [] = Unit
Plain s (p ∷ ps) = (get_or s p 0 < 2) × Plain s ps

plain_holds : (s ps : List ℕ) → plain_at s ps ≡ true → Plain s ps
plain_holds s [] h = tt
plain_holds s (p ∷ ps) h =
    let parts = both_true (ltb (get_or s p 0) 2) (plain_at s ps) h in
    (ltb-true (get_or s p 0) 2 parts.0, plain_holds s ps parts.1)

holds_plain : (s ps : List ℕ) → Plain s ps → plain_at s ps ≡ true
holds_plain s [] h = refl
holds_plain s (p ∷ ps) h = both_hold (lt-ltb (get_or s p 0) 2 h.0) (holds_plain s ps h.1)

-- ---- of the bytes of a gauge

-- the exponents of the eight bytes from 40, 112, 123, 134 and 162 on: 1 of a flag, 8 of a byte that may be any
abbrev from40 : List ℕ
from40 = 1 ∷ 8 ∷ 8 ∷ 8 ∷ 8 ∷ 1 ∷ 1 ∷ 1 ∷ []

abbrev from112 : List ℕ
from112 = 8 ∷ 8 ∷ 8 ∷ 8 ∷ 4 ∷ 1 ∷ 1 ∷ 8 ∷ []

abbrev from123 : List ℕ
from123 = 1 ∷ 8 ∷ 8 ∷ 8 ∷ 8 ∷ 1 ∷ 1 ∷ 8 ∷ []

abbrev from134 : List ℕ
from134 = 8 ∷ 8 ∷ 8 ∷ 2 ∷ 1 ∷ 8 ∷ 8 ∷ 1 ∷ []

abbrev from162 : List ℕ
from162 = 2 ∷ 8 ∷ 3 ∷ 1 ∷ 1 ∷ 1 ∷ 1 ∷ 1 ∷ []

module _ (t : List ℕ) (bytes : Bytes t) where
  octets_each : clear_octets t 0
      ≡ both (under_each t 40 from40)
      (both (under_each t 112 from112) (both (under_each t 123 from123) (both (under_each t 134 from134) (under_each t 162 from162))))
  unfolding clear_octets
  octets_each =
      let word : (i : ℕ) (ks : List ℕ) → octet_at t i ≡ word_from t i ks → powers_fit ks ≡ true → clear_of (octet_at t i) (mask_of ks) ≡ under_each t i ks =
      λ i ks e fit. ap (λ (w : ℕ). clear_of w (mask_of ks)) e ∙ clear_each t bytes i ks fit in
      let a = word 40 from40 (omega arith) refl in
      let b = word 112 from112 (omega arith) refl in
      let c = word 123 from123 (omega arith) refl in
      let d = word 134 from134 (omega arith) refl in
      let e = word 162 from162 (omega arith) refl in
      λ j. both (a j) (both (b j) (both (c j) (both (d j) (e j))))

  -- what the tests of eight bytes say
  record Octets : Type 0 where
    locks : Under t 40 from40
    charge : Under t 112 from112
    currents : Under t 123 from123
    average : Under t 134 from134
    shown : Under t 162 from162

  octets_hold : clear_octets t 0 ≡ true → Octets
  octets_hold h =
      let a = both_true (under_each t 40 from40) _ (sym octets_each ∙ h) in
      let b = both_true (under_each t 112 from112) _ a.1 in
      let c = both_true (under_each t 123 from123) _ b.1 in
      let d = both_true (under_each t 134 from134) (under_each t 162 from162) c.1 in
      record {
        locks = under_holds t 40 from40 a.0;
        charge = under_holds t 112 from112 b.0;
        currents = under_holds t 123 from123 c.0;
        average = under_holds t 134 from134 d.0;
        shown = under_holds t 162 from162 d.1;
      }

  hold_octets : Octets → clear_octets t 0 ≡ true
  hold_octets o =
      let a = holds_under t 40 from40 o.locks in
      let b = holds_under t 112 from112 o.charge in
      let c = holds_under t 123 from123 o.currents in
      let d = holds_under t 134 from134 o.average in
      let e = holds_under t 162 from162 o.shown in
      octets_each ∙ both_hold a (both_hold b (both_hold c (both_hold d e)))

  abbrev meter : Meter
  meter = (gauge_layout.at t 0).meter

  -- what the tests of the other numbers say
  record Numbers : Type 0 where
    full : pair_at t 149 ≤ 16384
    age : quad_at t 119 < 2097120
    low : 63 ≤ get_or t 112 0
    high : get_or t 112 0 ≤ 128
    sum : quad_at t 132 ≤ 65535 * (get_or t 136 0 % 8)
    none : uncounted_by meter.cells.profile meter.cycles meter.cells.saved.cycles ≡ true

  numbers_hold : sound_numbers t 0 ≡ true → Numbers
  unfolding sound_numbers
  numbers_hold h =
      let a = both_true (leb (pair_at t 149) 16384) _ h in
      let b = both_true (ltb (quad_at t 119) 2097120) _ a.1 in
      let c = both_true (leb 63 (get_or t 112 0)) _ b.1 in
      let d = both_true (leb (get_or t 112 0) 128) _ c.1 in
      let e = both_true (leb (quad_at t 132) (65535 * (get_or t 136 0 % 8))) _ d.1 in
      record {
        full = leb-true (pair_at t 149) 16384 a.0;
        age = ltb-true (quad_at t 119) 2097120 b.0;
        low = leb-true 63 (get_or t 112 0) c.0;
        high = leb-true (get_or t 112 0) 128 d.0;
        sum = leb-true (quad_at t 132) (65535 * (get_or t 136 0 % 8)) e.0;
        none = e.1;
      }

  hold_numbers : Numbers → sound_numbers t 0 ≡ true
  unfolding sound_numbers
  hold_numbers n =
      both_hold (le-leb (pair_at t 149) 16384 n.full)
      (both_hold (lt-ltb (quad_at t 119) 2097120 n.age)
      (both_hold (le-leb 63 (get_or t 112 0) n.low)
      (both_hold (le-leb (get_or t 112 0) 128 n.high)
      (both_hold (le-leb (quad_at t 132) (65535 * (get_or t 136 0 % 8)) n.sum) n.none))))

  -- the count, how many were made, the voltage and the temperature are bounded by a byte of theirs
  tested_sound : Octets → Numbers → sound_place t 0 ≡ true
  tested_sound o n =
      let wf : MeterWf meter = record {
        charge = record {
          count = omega (arith, bytes 113, bytes 114, bytes 115, o.charge);
          age = n.age;
          low = n.low;
          high = n.high;
        };
        average = record {
          made = omega (arith, bytes 136, o.average);
          sum = omega (arith, bytes 136, n.sum);
        };
        full = n.full;
        volt = omega (arith, bytes 161, o.shown);
        temp = omega (arith, bytes 163, o.shown);
      } in
      both_hold (meter_sound meter wf (no_cycles meter n.none)) (holds_plain t (gauge_layout.flags_from 0) (omega arith))

  -- and back
  sound_tested : sound_place t 0 ≡ true → Octets × Numbers
  sound_tested h =
      let parts = both_true (sound_meter meter) (plain_at t (gauge_layout.flags_from 0)) h in
      let sound = sound_meter_lem meter parts.0 in
      let wf = sound.0 in
      let flags = plain_holds t (gauge_layout.flags_from 0) parts.1 in (
        record {
          locks = omega (arith, bytes 41, bytes 42, bytes 43, bytes 44);
          charge = omega (arith, bytes 112, bytes 113, bytes 114, bytes 115, bytes 119);
          currents = omega (arith, bytes 124, bytes 125, bytes 126, bytes 127, bytes 130);
          average = omega (arith, bytes 134, bytes 135, bytes 136, bytes 139, bytes 140);
          shown = omega (arith, bytes 163);
        },
        record {
          full = wf.full;
          age = wf.charge.age;
          low = wf.charge.low;
          high = wf.charge.high;
          sum = omega (arith, bytes 136, wf.average.sum);
          none = cycles_none meter sound.1;
        },
      )

  first_tested : both (clear_octets t 0) (sound_numbers t 0) ≡ sound_place t 0
  first_tested =
      same_test (both (clear_octets t 0) (sound_numbers t 0)) (sound_place t 0)
      (λ h. let parts = both_true (clear_octets t 0) (sound_numbers t 0) h in tested_sound (octets_hold parts.0) (numbers_hold parts.1))
      (λ h. let parts = sound_tested h in both_hold (hold_octets parts.0) (hold_numbers parts.1))

-- ---- from an index on: the bytes behind it have the same tests from 0 on

module _ (s : List ℕ) (at : ℕ) where
  octets_behind : clear_octets (drop at s) 0 ≡ clear_octets s at
  unfolding clear_octets
  octets_behind = simp (get_or-drop, add_assoc)

  numbers_behind : sound_numbers (drop at s) 0 ≡ sound_numbers s at
  unfolding sound_numbers
  numbers_behind = simp (get_or-drop, add_assoc)

  place_behind : sound_place (drop at s) 0 ≡ sound_place s at
  unfolding sound_meter
  place_behind = simp (get_or-drop, add_assoc)

  -- what the code tests of a gauge is that it is well-formed and that its flags are 0 or 1
  pub gauge_tested : Bytes s → both (clear_octets s at) (sound_numbers s at) ≡ sound_place s at
  gauge_tested bytes =
      let behind : Bytes (drop at s) = λ i. rw (get_or-drop at s i 0) (bytes (at + i)) in
      sym (λ j. both (octets_behind j) (numbers_behind j)) ∙ first_tested (drop at s) behind ∙ place_behind

-- ---- what the code tests of a gauge, one after the other: the first test that fails, or all

-- a test of eight bytes, as the code finds it
found : (mask : ℕ) {read word : ℕ} {told test : Bool} → read ≡ word → told ≡ clear_of read mask → told ≡ test → clear_of word mask ≡ test
found mask er et e = ap (λ (w : ℕ). clear_of w mask) (sym er) ∙ sym et ∙ e

module _ (s : List ℕ) (at : ℕ) where
  pub locks_fail : {w1 : ℕ} {r1 : Bool}
      → w1 ≡ octet_at s (at + 40) → r1 ≡ clear_of w1 0xfefefe00000000fe → not r1 ≡ true → false ≡ clear_octets s at
  unfolding clear_octets
  locks_fail {r1 = r1} e1 t1 f1 =
      rw (found 0xfefefe00000000fe e1 t1 (not-true r1 f1)) refl

  pub charge_fails : {w1 : ℕ} {r1 : Bool} {w2 : ℕ} {r2 : Bool}
      → w1 ≡ octet_at s (at + 40) → r1 ≡ clear_of w1 0xfefefe00000000fe → not r1 ≡ false
      → w2 ≡ octet_at s (at + 112) → r2 ≡ clear_of w2 0x00fefef000000000 → not r2 ≡ true → false ≡ clear_octets s at
  unfolding clear_octets
  charge_fails {r1 = r1} {r2 = r2} e1 t1 f1 e2 t2 f2 =
      rw (found 0xfefefe00000000fe e1 t1 (not-false r1 f1), found 0x00fefef000000000 e2 t2 (not-true r2 f2)) refl

  pub currents_fail : {w1 : ℕ} {r1 : Bool} {w2 : ℕ} {r2 : Bool} {w3 : ℕ} {r3 : Bool}
      → w1 ≡ octet_at s (at + 40) → r1 ≡ clear_of w1 0xfefefe00000000fe → not r1 ≡ false
      → w2 ≡ octet_at s (at + 112) → r2 ≡ clear_of w2 0x00fefef000000000 → not r2 ≡ false
      → w3 ≡ octet_at s (at + 123) → r3 ≡ clear_of w3 0x00fefe00000000fe → not r3 ≡ true → false ≡ clear_octets s at
  unfolding clear_octets
  currents_fail {r1 = r1} {r2 = r2} {r3 = r3} e1 t1 f1 e2 t2 f2 e3 t3 f3 =
      rw (
        found 0xfefefe00000000fe e1 t1 (not-false r1 f1),
        found 0x00fefef000000000 e2 t2 (not-false r2 f2),
        found 0x00fefe00000000fe e3 t3 (not-true r3 f3),
      )
      refl

  pub average_fails : {w1 : ℕ} {r1 : Bool} {w2 : ℕ} {r2 : Bool} {w3 : ℕ} {r3 : Bool} {w4 : ℕ} {r4 : Bool}
      → w1 ≡ octet_at s (at + 40) → r1 ≡ clear_of w1 0xfefefe00000000fe → not r1 ≡ false
      → w2 ≡ octet_at s (at + 112) → r2 ≡ clear_of w2 0x00fefef000000000 → not r2 ≡ false
      → w3 ≡ octet_at s (at + 123) → r3 ≡ clear_of w3 0x00fefe00000000fe → not r3 ≡ false
      → w4 ≡ octet_at s (at + 134) → r4 ≡ clear_of w4 0xfe0000fefc000000 → not r4 ≡ true → false ≡ clear_octets s at
  unfolding clear_octets
  average_fails {r1 = r1} {r2 = r2} {r3 = r3} {r4 = r4} e1 t1 f1 e2 t2 f2 e3 t3 f3 e4 t4 f4 =
      rw (
        found 0xfefefe00000000fe e1 t1 (not-false r1 f1),
        found 0x00fefef000000000 e2 t2 (not-false r2 f2),
        found 0x00fefe00000000fe e3 t3 (not-false r3 f3),
        found 0xfe0000fefc000000 e4 t4 (not-true r4 f4),
      )
      refl

  pub all_octets : {w1 : ℕ} {r1 : Bool} {w2 : ℕ} {r2 : Bool} {w3 : ℕ} {r3 : Bool} {w4 : ℕ} {r4 : Bool} {w5 : ℕ} {r5 : Bool}
      → w1 ≡ octet_at s (at + 40) → r1 ≡ clear_of w1 0xfefefe00000000fe → not r1 ≡ false
      → w2 ≡ octet_at s (at + 112) → r2 ≡ clear_of w2 0x00fefef000000000 → not r2 ≡ false
      → w3 ≡ octet_at s (at + 123) → r3 ≡ clear_of w3 0x00fefe00000000fe → not r3 ≡ false
      → w4 ≡ octet_at s (at + 134) → r4 ≡ clear_of w4 0xfe0000fefc000000 → not r4 ≡ false
      → w5 ≡ octet_at s (at + 162) → r5 ≡ clear_of w5 0xfefefefefef800fc → r5 ≡ clear_octets s at
  unfolding clear_octets
  all_octets {r1 = r1} {r2 = r2} {r3 = r3} {r4 = r4} e1 t1 f1 e2 t2 f2 e3 t3 f3 e4 t4 f4 e5 t5 =
      rw (
        found 0xfefefe00000000fe e1 t1 (not-false r1 f1),
        found 0x00fefef000000000 e2 t2 (not-false r2 f2),
        found 0x00fefe00000000fe e3 t3 (not-false r3 f3),
        found 0xfe0000fefc000000 e4 t4 (not-false r4 f4),
      )
      (t5 ∙ ap (λ (w : ℕ). clear_of w 0xfefefefefef800fc) e5)

  -- the tests of the other numbers
  pub full_fails : {full : ℕ} → full ≡ pair_at s (at + 149) → 16384 < full → false ≡ sound_numbers s at
  unfolding sound_numbers
  full_fails e h = rw (lt-leb _ _ (rw e at h)) refl

  module _ {full : ℕ} (ef : full ≡ pair_at s (at + 149)) (hf : full ≤ 16384) where
    pub age_fails : {age : ℕ} → age ≡ quad_at s (at + 119) → 2097120 ≤ age → false ≡ sound_numbers s at
    unfolding sound_numbers
    age_fails e h = rw (le-leb _ _ (rw ef at hf), le-ltb _ _ (rw e at h)) refl

    module _ {age : ℕ} (ea : age ≡ quad_at s (at + 119)) (ha : age < 2097120) where
      pub low_fails : get_or s (at + 112) 0 < 63 → false ≡ sound_numbers s at
      unfolding sound_numbers
      low_fails h = rw (le-leb _ _ (rw ef at hf), lt-ltb _ _ (rw ea at ha), lt-leb _ _ h) refl

      module _ (low : 63 ≤ get_or s (at + 112) 0) where
        pub high_fails : 128 < get_or s (at + 112) 0 → false ≡ sound_numbers s at
        unfolding sound_numbers
        high_fails h = rw (le-leb _ _ (rw ef at hf), lt-ltb _ _ (rw ea at ha), le-leb _ _ low, lt-leb _ _ h) refl

        module _ (high : get_or s (at + 112) 0 ≤ 128) where
          pub sum_fails : {sum : ℕ} → sum ≡ quad_at s (at + 132) → 65535 * (get_or s (at + 136) 0 % 8) < sum → false ≡ sound_numbers s at
          unfolding sound_numbers
          sum_fails e h =
              rw (le-leb _ _ (rw ef at hf), lt-ltb _ _ (rw ea at ha), le-leb _ _ low, le-leb _ _ high, lt-leb _ _ (rw e at h)) refl

          pub all_numbers : {sum rest : ℕ} {profile : Profile} {r : Bool} → sum ≡ quad_at s (at + 132) → sum ≤ 65535 * (get_or s (at + 136) 0 % 8)
              → profile ≡ profile_in (flag_in (get_or s (at + 45) 0)) → rest ≡ quad_at s (at + 145)
              → r ≡ uncounted_by profile (record { count = get_or s (at + 144) 0; rest = rest }) (get_or s (at + 44) 0) → r ≡ sound_numbers s at
          unfolding sound_numbers
          all_numbers e h ep er told =
              rw (le-leb _ _ (rw ef at hf), lt-ltb _ _ (rw ea at ha), le-leb _ _ low, le-leb _ _ high, le-leb _ _ (rw e at h)) (rw (ep, er) at told)
