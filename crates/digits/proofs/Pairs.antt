-- The rule of the table: what it has for a byte are the byte's two digits. One test that antt computes over all entries.
use mathlib.Core.Path.{◌≡◌}
use mathlib.Core.Bool.{Bool}
use mathlib.Core.List.{List}
use Prim.Native.Nat.{ℕ, ◌+◌, ◌*◌, ◌/◌, ◌%◌, ◌<◌}
use native.Mathlib.Omega.{arith}
use lib.Dec.{T, eqb, eqb→eq}
use lib.ListN.{length, get_or}
use Rattle.numbers.specs.Choice.{pick}
use Rattle.numbers.proofs.Table.{every, at}
use Rattle.digits.specs.Digits.{hex_of, lower, pair_text, pairs_of, entry_text}

-- the entry x is right at k: of a byte's two, the first is that of its upper half
abbrev right : ℕ → ℕ → Bool
right k x = eqb x (hex_of lower (pick (eqb (k % 2) 0) (k / 2 / 16) (k / 2 % 16)))

module _ (table : List ℕ) (b : ℕ) (passed : T (every right 0 table)) (h : 2 * b + 1 < length table) where
  first : get_or table (2 * b) 0 ≡ hex_of lower (b / 16)
  first =
      let even : 2 * b % 2 ≡ 0 = omega arith in
      let own : 2 * b / 2 ≡ b = omega arith in
      rw (even, own) at (eqb→eq (get_or table (2 * b) 0) _ (at right table passed (2 * b) (omega arith)))

  second : get_or table (2 * b + 1) 0 ≡ hex_of lower (b % 16)
  second =
      let odd : (2 * b + 1) % 2 ≡ 1 = omega arith in
      let own : (2 * b + 1) / 2 ≡ b = omega arith in
      rw (odd, own) at (eqb→eq (get_or table (2 * b + 1) 0) _ (at right table passed (2 * b + 1) h))

  ruled : entry_text table b ≡ pair_text lower b
  ruled = rw (first, second)

pub paired : (b : ℕ) → b < 256 → entry_text (pairs_of lower) b ≡ pair_text lower b
unfolding hex_of pairs_of
paired b h = ruled (pairs_of lower) b tt (omega arith)
