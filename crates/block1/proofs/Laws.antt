-- What a write reaches.
use mathlib.Core.Path.{◌≡◌}
use mathlib.Core.Bool.{true}
use mathlib.Core.List.{List}
use Prim.Native.Nat.{ℕ, ◌+◌, ◌≤◌, ◌<◌}
use lib.Dec.{leb, ltb}
use lib.ListN.{length}
use borrow.Author.Tests.{leb-true, ltb-true}
use Rattle.numbers.proofs.Bounds.{both_true}
use Rattle.block1.specs.Block1.{reaches_of}

module _ (a : ℕ) (bytes : List ℕ) (x : ℕ) (e : reaches_of a bytes x ≡ true) where
  pub reaches_low : a ≤ x
  unfolding reaches_of
  reaches_low = leb-true a x (both_true (leb a x) (ltb x (a + length bytes)) e).0

  pub reaches_high : x < a + length bytes
  unfolding reaches_of
  reaches_high = ltb-true x (a + length bytes) (both_true (leb a x) (ltb x (a + length bytes)) e).1
