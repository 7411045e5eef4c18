-- Numbers without a sign bit: a signed number z of k + 1 bits is kept in offset form, as z + 2^k, so that the numbers from -2^k up to
-- 2^k - 1 are those from 0 up to 2^(k + 1) - 1, in the same order. `value` says which integer is meant.
use Rattle.std.specs.Prelude.{ℕ, ◌+◌, ◌*◌, ◌%◌, ◌^◌, min, max, ltb, ℤ, pos, negsuc, neg_ℤ}
use Rattle.std.proofs.Math.IntN.{sub_ℕ}
use Rattle.std.specs.Int.Signed.{lt_z, shr_z}
use Rattle.numbers.specs.Choice.{pick}

-- what 0 is kept as
abbrev pub zero_at : ℕ → ℕ
zero_at k = 2 ^ k

-- the integer that x stands for
abbrev pub value : ℕ → ℕ → ℤ
value k x = sub_ℕ x (zero_at k)

-- the integer that a machine word of k + 1 bits holds in two's complement
abbrev pub signed : ℕ → ℕ → ℤ
signed k x = pick (ltb x (2 ^ k)) (pos x) (sub_ℕ x (2 ^ (k + 1)))

-- such a word in offset form
abbrev pub offset_of : ℕ → ℕ → ℕ
offset_of k x = (x + 2 ^ k) % 2 ^ (k + 1)

abbrev pub offset8_of : ℕ → ℕ
offset8_of b = offset_of 7 b

abbrev pub offset32_of : ℕ → ℕ
offset32_of x = offset_of 31 x

-- z moved into lo..hi
abbrev pub clamp_z : ℤ → ℤ → ℤ → ℤ
clamp_z lo hi z = pick (lt_z z lo) lo (pick (lt_z hi z) hi z)

-- z divided by n, rounded down: -(a + 1) divided by n is -(a / n + 1)
abbrev pub div_z : ℤ → ℕ → ℤ
div_z z n = shr_z z n

-- x moved into low..high
abbrev pub moved_into : ℕ → ℕ → ℕ → ℕ
moved_into low high x = max (min x high) low

-- two bytes as one number, the high one first
abbrev pub joined_of : ℕ → ℕ → ℕ
joined_of high low = high * 256 + low

-- ---- integers, as document 01 words its signed steps

abbrev pub minus : ℕ → ℤ
minus n = neg_ℤ (pos n)

-- z, or 0 where z is below it
abbrev pub or_zero : ℤ → ℕ
or_zero (pos n) = n
or_zero (negsuc n) = 0

abbrev pub at_most_z : ℤ → ℤ → ℤ
at_most_z high z = pick (lt_z high z) high z

abbrev pub at_least_z : ℤ → ℤ → ℤ
at_least_z low z = pick (lt_z z low) low z
