-- The records of bytes that begin with a header.
use mathlib.Core.Path.{◌≡◌, refl, ◌∙◌}
use mathlib.Core.Bool.{true, false}
use mathlib.Core.List.{List, [], ◌∷◌}
use Prim.Native.Nat.{ℕ, suc, ◌+◌, ◌-◌, ◌*◌}
use native.Mathlib.Omega.{arith}
use borrow.Author.Tests.{le-ltb, le-leb, lt-leb, leb-true, leb-false}
use lib.Dec.{ltb, leb}
use lib.ListN.{length, drop, drop_of_length-le}
use Rattle.slices.specs.Slices.{part}
use Rattle.runs.specs.Record.{whole, cut, whole_of, rec_of, size_of, recs_from, recs_of}
use Rattle.runs.proofs.Records.{recs_cons}

module _ (n m i j : ℕ) (s : List ℕ) where
  abbrev size : ℕ
  size = n + 256 * m

  abbrev bytes : List ℕ
  bytes = n ∷ m ∷ i ∷ j ∷ s

  headed : ltb (length bytes) 4 ≡ false
  headed = le-ltb (length bytes) 4 (omega arith)

  pub recs_kind : leb size (length s) ≡ true → recs_of bytes ≡ whole (i + 256 * j) (part size bytes 4) ∷ recs_from size s
  unfolding rec_of size_of whole_of
  recs_kind h =
      let w : whole_of bytes ≡ true = rw (headed, le-leb (4 + size) (length bytes) (omega (arith, leb-true size (length s) h))) refl in
      let k : size_of bytes - 1 ≡ suc (suc (suc size)) = rw w (omega arith) in
      let r : rec_of bytes ≡ whole (i + 256 * j) (part size bytes 4) = rw w refl in
      rw (r, k) refl

  pub recs_cut : leb size (length s) ≡ false → recs_of bytes ≡ cut ∷ []
  unfolding rec_of size_of whole_of
  recs_cut h =
      let w : whole_of bytes ≡ false = rw (headed, lt-leb (4 + size) (length bytes) (omega (arith, leb-false size (length s) h))) refl in
      let k : size_of bytes ≡ length bytes = rw w refl in
      let r : rec_of bytes ≡ cut = rw w refl in
      let rest : drop (size_of bytes) bytes ≡ [] = drop_of_length-le bytes {i = size_of bytes} (omega arith) in
      recs_cons bytes (omega arith) ∙ rw (r, rest) refl
