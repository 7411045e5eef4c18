-- What a record means in signed numbers, proved.
use mathlib.Core.Path.{◌≡◌, ap, ◌∙◌}
use mathlib.Core.List.{List}
use Prim.Native.Nat.{ℕ, ◌+◌, ◌<◌}
use native.Mathlib.Omega.{arith}
use lib.ListN.{get_or, drop}
use lib.Seq.{get_or-take, get_or-drop}
use lib.Signed.{le_z}
use Rattle.numbers.specs.Choice.{both}
use Rattle.numbers.specs.Offset.{zero_at, value, signed, offset8_of}
use Rattle.numbers.proofs.Offset.{natural, at_most, word8, word32}
use Rattle.slices.specs.Slices.{quad_at}
use Rattle.params.specs.declared.Breaks.{Breaks}
use Rattle.record.specs.Image.{block_at, image_block, image_breaks}
use Rattle.record.specs.Record.{count_at, ordered_of, ordered_z}
use Rattle.record.specs.Meaning.{RecordMeans}

pub ordered_means : (b : Breaks) → ordered_of b ≡ ordered_z (value 7 b.b12) (value 7 b.b23) (value 7 b.b34)
unfolding ordered_of
ordered_means b =
    let top = at_most 7 b.b34 (zero_at 7 + 40) ∙ ap (le_z (value 7 b.b34)) (natural 7 40) in
    λ i. both (at_most 7 b.b12 b.b23 i) (both (at_most 7 b.b23 b.b34 i) (top i))

pub count_means : (p : List ℕ) (i : ℕ) → ((j : ℕ) → get_or p j 0 < 256) → value 31 (count_at p i) ≡ signed 31 (quad_at p i)
count_means p i bytes = word32 (quad_at p i) (omega (arith, bytes i, bytes (i + 1), bytes (i + 2), bytes (i + 2 + 1)))

module _ (p : List ℕ) (bytes : (i : ℕ) → get_or p i 0 < 256) where
  -- a byte of block 1, as an integer
  block_means : (i : ℕ) → i < 32 → value 7 (offset8_of (get_or (image_block p) i 0)) ≡ signed 7 (get_or p (block_at + i) 0)
  block_means i h = rw (get_or-take 32 (drop block_at p) i 0 h, get_or-drop block_at p i 0) (word8 _ (bytes (block_at + i)))

  pub image_ordered_means : ordered_of (image_breaks p) ≡ ordered_z (signed 7 (get_or p 0x36 0)) (signed 7 (get_or p 0x35 0)) (signed 7 (get_or p 0x34 0))
  image_ordered_means =
      ordered_means (image_breaks p) ∙ (λ i. ordered_z (block_means 30 (omega arith) i) (block_means 29 (omega arith) i) (block_means 28 (omega arith) i))

pub record_means : RecordMeans
record_means = record { counts = count_means; ordered = ordered_means; image_ordered = image_ordered_means }
