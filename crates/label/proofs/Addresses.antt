-- What the tests of an address say.
use mathlib.Core.Path.{◌≡◌, refl}
use mathlib.Core.Bool.{true, false}
use Prim.Native.Nat.{ℕ, ◌≤◌, ◌<◌}
use native.Mathlib.Omega.{arith}
use lib.Dec.{ltb, leb}
use borrow.Author.Tests.{ltb-true, leb-true, lt-ltb, le-leb, lt-leb}
use Rattle.numbers.proofs.Bounds.{both_true}
use Rattle.label.specs.Label.{in_label, in_block}

pub in_label_low : (a : ℕ) → in_label a ≡ true → 0x20 ≤ a
unfolding in_label
in_label_low a e = leb-true 0x20 a (both_true (leb 0x20 a) (ltb a 0x30) e).0

pub in_label_high : (a : ℕ) → in_label a ≡ true → a < 0x30
unfolding in_label
in_label_high a e = ltb-true a 0x30 (both_true (leb 0x20 a) (ltb a 0x30) e).1

pub in_block_low : (a : ℕ) → in_block a ≡ true → 0x60 ≤ a
unfolding in_block
in_block_low a e = leb-true 0x60 a (both_true (leb 0x60 a) (ltb a 0x80) e).0

pub in_block_high : (a : ℕ) → in_block a ≡ true → a < 0x80
unfolding in_block
in_block_high a e = ltb-true a 0x80 (both_true (leb 0x60 a) (ltb a 0x80) e).1

pub in_label_between : (a : ℕ) → 0x20 ≤ a → a < 0x30 → in_label a ≡ true
unfolding in_label
in_label_between a low high = rw (le-leb 0x20 a low, lt-ltb a 0x30 high) refl

-- no address is of both blocks
pub label_no_block : (a : ℕ) → in_label a ≡ true → in_block a ≡ false
unfolding in_block
label_no_block a e = rw (lt-leb 0x60 a (omega (arith, in_label_high a e))) refl
