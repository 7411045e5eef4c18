-- What the offset form means: each step on offset numbers, read through `value`, is the step on integers. The offsets are variables
-- here, so each law stands once for every width.
use mathlib.Core.Path.{◌≡◌, refl, sym, ap, ◌∙◌}
use mathlib.Core.Bool.{Bool, true, false, not}
use Prim.Native.Nat.{ℕ, zero, suc, ◌+◌, ◌-◌, ◌*◌, ◌/◌, ◌%◌, ◌^◌, ◌≤◌, ◌<◌, min}
use native.Mathlib.Nat.{mul-add-div_right, div-eq_of_lt, div-add-mod', add-mul, suc-mul, pow-suc, mod-eq_of_lt, mod-eq-sub-mod, mod-lt}
use native.Mathlib.Numerals.{add-one}
use native.Mathlib.Omega.{arith}
use lib.Dec.{ltb, leb}
use lib.IntN.{ℤ, pos, negsuc, neg_ℤ, sub_ℕ, ◌+ℤ◌}
use lib.Signed.{lt_z, le_z}
use lib.Pow.{pow_pos}
use borrow.Author.Tests.{ltb-true, ltb-false, lt-ltb, le-ltb, lt-leb, le-leb}
use Rattle.numbers.specs.Offset.{value, signed, offset_of, offset8_of, offset32_of, clamp_z, div_z, moved_into}

-- ---- differences of two natural numbers

module _ (a b : ℕ) (P : Type 0) (f : a < b → P) (g : b ≤ a → P) where
  ordered : (t : Bool) → ltb a b ≡ t → P
  ordered true e = f (ltb-true a b e)
  ordered false e = g (ltb-false a b e)

  -- of two numbers the first is below the second, or it is not
  pub order : P
  order = ordered (ltb a b) refl

pub sub_pos : (a b : ℕ) → b ≤ a → sub_ℕ a b ≡ pos (a - b)
sub_pos a b h = simp (le-ltb a b h)

pub sub_neg : (a b : ℕ) → a < b → sub_ℕ a b ≡ negsuc (b - suc a)
sub_neg a b h = simp (lt-ltb a b h)

-- two differences are equal where the crosswise sums are
pub sub_eq : (a b c d : ℕ) → a + d ≡ c + b → sub_ℕ a b ≡ sub_ℕ c d
sub_eq a b c d e =
    order a b _
    (λ h. sub_neg a b h ∙ ap negsuc (omega arith) ∙ sym (sub_neg c d (omega arith)))
    (λ h. sub_pos a b h ∙ ap pos (omega arith) ∙ sym (sub_pos c d (omega arith)))

pub sub_add : (a m b n : ℕ) → sub_ℕ a m +ℤ sub_ℕ b n ≡ sub_ℕ (a + b) (m + n)
sub_add a m b n =
    order a m _
    (λ h. order b n _
    (λ k. simp (sub_neg a m h, sub_neg b n k) (ap negsuc (omega arith) ∙ sym (sub_neg (a + b) (m + n) (omega arith))))
    (λ k. simp (sub_neg a m h, sub_pos b n k) (sub_eq (b - n) (suc (m - suc a)) (a + b) (m + n) (omega arith))))
    (λ h. order b n _
    (λ k. simp (sub_pos a m h, sub_neg b n k) (sub_eq (a - m) (suc (n - suc b)) (a + b) (m + n) (omega arith)))
    (λ k. simp (sub_pos a m h, sub_pos b n k) (ap pos (omega arith) ∙ sym (sub_pos (a + b) (m + n) (omega arith)))))

-- every integer is a difference
pub sub_none : (n : ℕ) → pos n ≡ sub_ℕ n 0
sub_none n = let e : n ≡ n - 0 = omega arith in ap pos e ∙ sym (sub_pos n 0 (omega arith))

pub none_sub : (n : ℕ) → negsuc n ≡ sub_ℕ 0 (suc n)
none_sub n = let e : n ≡ suc n - 1 = omega arith in ap negsuc e ∙ sym (sub_neg 0 (suc n) (omega arith))

pub neg_sub : (n : ℕ) → neg_ℤ (pos n) ≡ sub_ℕ 0 n
neg_sub zero = sub_none 0
neg_sub (suc n) = none_sub n

pub add_sub : (n s m : ℕ) → pos n +ℤ sub_ℕ s m ≡ sub_ℕ (n + s) m
add_sub n s m = ap (λ (z : ℤ). z +ℤ sub_ℕ s m) (sub_none n) ∙ sub_add n 0 s m ∙ sub_eq (n + s) (0 + m) (n + s) m (omega arith)

-- which integers stand n above, and n below, what 0 is kept as
pub natural : (k n : ℕ) → value k (2 ^ k + n) ≡ pos n
natural k n = sub_eq (2 ^ k + n) (2 ^ k) n 0 (omega arith) ∙ sym (sub_none n)

pub negative : (k n : ℕ) → n ≤ 2 ^ k → value k (2 ^ k - n) ≡ neg_ℤ (pos n)
negative k n h = sub_eq (2 ^ k - n) (2 ^ k) 0 n (omega arith) ∙ sym (neg_sub n)

-- ---- sums

pub sum : (j k a b : ℕ) → value j a +ℤ value k b ≡ sub_ℕ (a + b) (2 ^ j + 2 ^ k)
sum j k a b = sub_add a (2 ^ j) b (2 ^ k)

-- ---- comparisons

same_test : (a b c d : ℕ) → (a < b → c < d) → (b ≤ a → d ≤ c) → ltb a b ≡ ltb c d
same_test a b c d f g =
    order a b _ (λ h. lt-ltb a b h ∙ sym (lt-ltb c d (f h))) (λ h. le-ltb a b h ∙ sym (le-ltb c d (g h)))

pub sub_lt : (a m b n : ℕ) → ltb (a + n) (b + m) ≡ lt_z (sub_ℕ a m) (sub_ℕ b n)
sub_lt a m b n =
    order a m _
    (λ h. order b n _
    (λ k. simp (sub_neg a m h, sub_neg b n k) (same_test (a + n) (b + m) (n - suc b) (m - suc a) (λ l. omega arith) (λ l. omega arith)))
    (λ k. simp (sub_neg a m h, sub_pos b n k) (lt-ltb (a + n) (b + m) (omega arith))))
    (λ h. order b n _
    (λ k. simp (sub_pos a m h, sub_neg b n k) (le-ltb (a + n) (b + m) (omega arith)))
    (λ k. simp (sub_pos a m h, sub_pos b n k) (same_test (a + n) (b + m) (a - m) (b - n) (λ l. omega arith) (λ l. omega arith))))

-- of two differences from the same number
pub sub_order : (a b m : ℕ) → ltb a b ≡ lt_z (sub_ℕ a m) (sub_ℕ b m)
sub_order a b m = same_test a b (a + m) (b + m) (λ l. omega arith) (λ l. omega arith) ∙ sub_lt a m b m

pub compared : (k x y : ℕ) → ltb x y ≡ lt_z (value k x) (value k y)
compared k x y = sub_order x y (2 ^ k)

pub below_zero : (k x : ℕ) → ltb x (2 ^ k) ≡ lt_z (value k x) (pos 0)
below_zero k x = compared k x (2 ^ k) ∙ ap (λ (z : ℤ). lt_z (value k x) z) (sub_eq (2 ^ k) (2 ^ k) 0 0 (omega arith))

leb_not : (a b : ℕ) → leb a b ≡ not (ltb b a)
leb_not a b = order b a _ (λ h. simp (lt-ltb b a h) (lt-leb a b h)) (λ h. simp (le-ltb b a h) (le-leb a b h))

le_z_not : (z w : ℤ) → le_z z w ≡ not (lt_z w z)
le_z_not (pos a) (pos b) = leb_not a b
le_z_not (pos a) (negsuc b) = refl
le_z_not (negsuc a) (pos b) = refl
le_z_not (negsuc a) (negsuc b) = leb_not b a

pub at_most : (k x y : ℕ) → leb x y ≡ le_z (value k x) (value k y)
at_most k x y = leb_not x y ∙ ap not (compared k y x) ∙ sym (le_z_not (value k x) (value k y))

-- ---- clamps

-- moved into lo..hi before it is read, or after
pub moved : (lo hi s m : ℕ) → lo ≤ hi → clamp_z (sub_ℕ lo m) (sub_ℕ hi m) (sub_ℕ s m) ≡ sub_ℕ (moved_into lo hi s) m
moved lo hi s m h =
    order s lo _
    (λ l. simp (sym (sub_order s lo m) ∙ lt-ltb s lo l) (sub_eq lo m (moved_into lo hi s) m (omega arith)))
    (λ l. order hi s _
    (λ k. simp (sym (sub_order s lo m) ∙ le-ltb s lo l, sym (sub_order hi s m) ∙ lt-ltb hi s k) (sub_eq hi m (moved_into lo hi s) m (omega arith)))
    (λ k. simp (sym (sub_order s lo m) ∙ le-ltb s lo l, sym (sub_order hi s m) ∙ le-ltb hi s k) (sub_eq s m (moved_into lo hi s) m (omega arith))))

-- a difference clamped to -(h + 1)..h is a number kept as z + (h + 1)
pub clamped : (s m h : ℕ) → clamp_z (negsuc h) (pos h) (sub_ℕ s m) ≡ sub_ℕ (min (s + suc h - m) (h + suc h)) (suc h)
clamped s m h =
    let low : negsuc h ≡ sub_ℕ m (m + suc h) = none_sub h ∙ sub_eq 0 (suc h) m (m + suc h) (omega arith) in
    let high : pos h ≡ sub_ℕ (m + suc h + h) (m + suc h) = sub_none h ∙ sub_eq h 0 (m + suc h + h) (m + suc h) (omega arith) in
    let from : sub_ℕ s m ≡ sub_ℕ (s + suc h) (m + suc h) = sub_eq s m (s + suc h) (m + suc h) (omega arith) in
    (λ i. clamp_z (low i) (high i) (from i)) ∙ moved m (m + suc h + h) (s + suc h) (m + suc h) (omega arith) ∙
    sub_eq (moved_into m (m + suc h + h) (s + suc h)) (m + suc h) (min (s + suc h - m) (h + suc h)) (suc h) (omega arith)

-- a difference clamped to 0..h is a natural number
pub clamped_natural : (s m h : ℕ) → clamp_z (pos 0) (pos h) (sub_ℕ s m) ≡ pos (min (s - m) h)
clamped_natural s m h =
    let low : pos 0 ≡ sub_ℕ m m = sub_none 0 ∙ sub_eq 0 0 m m (omega arith) in
    let high : pos h ≡ sub_ℕ (m + h) m = sub_none h ∙ sub_eq h 0 (m + h) m (omega arith) in
    (λ i. clamp_z (low i) (high i) (sub_ℕ s m)) ∙ moved m (m + h) s m (omega arith) ∙
    sub_eq (moved_into m (m + h) s) m (min (s - m) h) 0 (omega arith) ∙ sym (sub_none (min (s - m) h))

-- a natural number that two offset numbers are added to, clamped to 0..h
pub grown : (j k n a b h : ℕ) → pos (min (n + a + b - (2 ^ j + 2 ^ k)) h) ≡ clamp_z (pos 0) (pos h) (pos n +ℤ (value j a +ℤ value k b))
grown j k n a b h =
    let e : n + (a + b) - (2 ^ j + 2 ^ k) ≡ n + a + b - (2 ^ j + 2 ^ k) = omega arith in
    sym (ap (λ (z : ℤ). clamp_z (pos 0) (pos h) (pos n +ℤ z)) (sum j k a b) ∙
    ap (λ (z : ℤ). clamp_z (pos 0) (pos h) z) (add_sub n (a + b) (2 ^ j + 2 ^ k)) ∙
    clamped_natural (n + (a + b)) (2 ^ j + 2 ^ k) h ∙ ap (λ (x : ℕ). pos (min x h)) e)

-- ---- division rounded down

-- k times n, and a rest below n, divided by n is k
pub whole : (k r n : ℕ) → r < n → (k * n + r) / n ≡ k
whole k r n h = mul-add-div_right (omega arith) k r ∙ ap (λ (x : ℕ). k + x) (div-eq_of_lt h) ∙ omega arith

-- q - m times n, and a rest below n, divided by n is q - m
pub rounded : (q m r n : ℕ) → r < n → div_z (sub_ℕ (q * n + r) (m * n)) n ≡ sub_ℕ q m
rounded q m r n h =
    order q m _
    (λ l. let k = m - suc q in
    let m-is : m ≡ q + suc k = omega arith in
    let parts : m * n ≡ q * n + suc k * n = ap (λ (x : ℕ). x * n) m-is ∙ add-mul q (suc k) n in
    let e : sub_ℕ (q * n + r) (m * n) ≡ negsuc (k * n + (n - suc r)) =
    sub_eq (q * n + r) (m * n) 0 (suc (k * n + (n - suc r))) (omega (arith, suc-mul k n)) ∙ sym (none_sub (k * n + (n - suc r))) in
    ap (λ (z : ℤ). div_z z n) e ∙ ap negsuc (whole k (n - suc r) n (omega arith)) ∙ sym (sub_neg q m l))
    (λ l. let k = q - m in
    let q-is : q ≡ m + k = omega arith in
    let parts : q * n ≡ m * n + k * n = ap (λ (x : ℕ). x * n) q-is ∙ add-mul m k n in
    let e : sub_ℕ (q * n + r) (m * n) ≡ pos (k * n + r) =
    sub_eq (q * n + r) (m * n) (k * n + r) 0 (omega arith) ∙ sym (sub_none (k * n + r)) in
    ap (λ (z : ℤ). div_z z n) e ∙ ap pos (whole k r n h) ∙ sym (sub_pos q m l))

pub divided : (x m n : ℕ) → 0 < n → sub_ℕ (x / n) m ≡ div_z (sub_ℕ x (m * n)) n
divided x m n h =
    sym (ap (λ (y : ℕ). div_z (sub_ℕ y (m * n)) n) (sym (div-add-mod' x n)) ∙ rounded (x / n) m (x % n) n (mod-lt x h))

-- ---- two's complement

double : (k : ℕ) → 2 ^ (k + 1) ≡ 2 ^ k + 2 ^ k
double k = ap (λ (x : ℕ). 2 ^ x) (add-one k) ∙ pow-suc 2 k ∙ omega arith

-- a word of k + 1 bits, in offset form
pub word : (k x : ℕ) → x < 2 ^ (k + 1) → value k (offset_of k x) ≡ signed k x
word k x h =
    let d = double k in
    order x (2 ^ k) _
    (λ l. let e : offset_of k x ≡ x + 2 ^ k = mod-eq_of_lt (omega arith) in
    simp (e, lt-ltb x (2 ^ k) l) (sub_eq (x + 2 ^ k) (2 ^ k) x 0 (omega arith) ∙ sym (sub_none x)))
    (λ l. let e : offset_of k x ≡ x - 2 ^ k = mod-eq-sub-mod (omega arith) ∙ mod-eq_of_lt (omega arith) ∙ omega arith in
    simp (e, le-ltb x (2 ^ k) l) (sub_eq (x - 2 ^ k) (2 ^ k) x (2 ^ (k + 1)) (omega arith)))

pub word8 : (b : ℕ) → b < 256 → value 7 (offset8_of b) ≡ signed 7 b
word8 b h = word 7 b h

pub word32 : (x : ℕ) → x < 4294967296 → value 31 (offset32_of x) ≡ signed 31 x
word32 x h = word 31 x h

pub word_fits : (k x : ℕ) → offset_of k x < 2 ^ (k + 1)
word_fits k x = mod-lt (x + 2 ^ k) (pow_pos (k + 1))
