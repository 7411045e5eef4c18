-- What the registers mean in signed numbers, proved.
use mathlib.Core.Path.{◌≡◌, refl, sym, ap, ◌∙◌}
use Prim.Native.Nat.{ℕ, suc, ◌+◌, ◌-◌, ◌*◌, ◌^◌, ◌<◌}
use native.Mathlib.Nat.{mul-add, div-add-mod'}
use native.Mathlib.Omega.{arith}
use lib.IntN.{ℤ, pos, sub_ℕ, ◌*ℤ◌}
use lib.ListN.{length}
use Rattle.numbers.specs.Offset.{value, signed, joined_of}
use Rattle.numbers.proofs.Offset.{order, sub_eq, sub_pos, sub_neg, neg_sub, word, word_fits}
use Rattle.state.specs.declared.Meter.{Meter}
use Rattle.state.specs.State.{MeterWf}
use Rattle.state.specs.declared.Common.{Common}
use Rattle.registers.specs.Registers.{upper_of, lower_of, word_of, temp_register, registers_of}
use Rattle.registers.specs.Meaning.{register_at, RegistersMean}

-- two's complement: the register of a number kept as z + 2^15 is z
pub signed_word : (x : ℕ) → x < 2 ^ 16 → signed 15 (word_of x) ≡ value 15 x
signed_word x h =
    let back : word_of (word_of x) ≡ x = omega arith in
    sym (word 15 (word_of x) (word_fits 15 x)) ∙ ap (value 15) back

-- a multiple of a difference
pub sub_times : (n a b : ℕ) → pos n *ℤ sub_ℕ a b ≡ sub_ℕ (n * a) (n * b)
sub_times n a b =
    order a b _
    (λ h. let k = b - suc a in
    let b-is : b ≡ a + suc k = omega arith in
    let parts : n * b ≡ n * a + n * suc k = ap (λ (x : ℕ). n * x) b-is ∙ mul-add n a (suc k) in
    ap (λ (z : ℤ). pos n *ℤ z) (sub_neg a b h) ∙ neg_sub (n * suc k) ∙ sub_eq 0 (n * suc k) (n * a) (n * b) (omega arith))
    (λ h. let k = a - b in
    let a-is : a ≡ b + k = omega arith in
    let parts : n * a ≡ n * b + n * k = ap (λ (x : ℕ). n * x) a-is ∙ mul-add n b k in
    let rest : n * k ≡ n * a - n * b = omega arith in
    ap (λ (z : ℤ). pos n *ℤ z) (sub_pos a b h) ∙ ap pos rest ∙ sym (sub_pos (n * a) (n * b) (omega arith)))

-- TEMP is the count × 32
pub signed_temp : (m : Meter) → m.shown.reading.temp < 2 ^ 11 → signed 15 (temp_register m) ≡ pos 32 *ℤ value 10 m.shown.reading.temp
signed_temp m h =
    signed_word (m.shown.reading.temp * 32) (omega arith) ∙
    sub_eq (m.shown.reading.temp * 32) (2 ^ 15) (32 * m.shown.reading.temp) (32 * 2 ^ 10) (omega arith) ∙
    sym (sub_times 32 m.shown.reading.temp (2 ^ 10))

-- ---- in the bytes that a read finds

joined_back : (x : ℕ) → joined_of (upper_of x) (lower_of x) ≡ x
joined_back x = div-add-mod' x 256

module _ (k : Common) (m : Meter) where
  pub registers_length : length (registers_of k m) ≡ 32
  unfolding registers_of
  registers_length = refl

  pub average_shown : m.flow.average.iavg < 2 ^ 16 → signed 15 (register_at k m 0x08) ≡ value 15 m.flow.average.iavg
  unfolding registers_of
  average_shown h = ap (signed 15) (joined_back (word_of m.flow.average.iavg)) ∙ signed_word m.flow.average.iavg h

  pub temp_shown : MeterWf m → signed 15 (register_at k m 0x0a) ≡ pos 32 *ℤ value 10 m.shown.reading.temp
  unfolding registers_of
  temp_shown w = ap (signed 15) (joined_back (temp_register m)) ∙ signed_temp m w.temp

  pub current_shown : m.flow.trace.last < 2 ^ 16 → signed 15 (register_at k m 0x0e) ≡ value 15 m.flow.trace.last
  unfolding registers_of
  current_shown h = ap (signed 15) (joined_back (word_of m.flow.trace.last)) ∙ signed_word m.flow.trace.last h

pub registers_mean : RegistersMean
registers_mean = record {
  many = registers_length;
  iavg = average_shown;
  temp = temp_shown;
  current = current_shown;
}
