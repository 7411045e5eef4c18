-- WHAT A RECORD MEANS IN SIGNED NUMBERS. Counts and breakpoints are kept with an offset; `value` says which integer is meant.
use Rattle.std.specs.Prelude.{◌≡◌, List, ℕ, ◌<◌, get_or}
use Rattle.numbers.specs.Offset.{value, signed}
use Rattle.slices.specs.Slices.{quad_at}
use Rattle.params.specs.declared.Breaks.{Breaks}
use Rattle.record.specs.Image.{image_breaks}
use Rattle.record.specs.Record.{count_at, ordered_of, ordered_z}

pub record RecordMeans : Type 0 where
  -- "voltage, temperature, each a signed 32-bit count"; "raw current, signed 32-bit count"; little-endian, in two's complement
  pub counts : (payload : List ℕ) (i : ℕ) → ((j : ℕ) → get_or payload j 0 < 256) → value 31 (count_at payload i) ≡ signed 31 (quad_at payload i)
  -- [3]: "TBP12 ≤ TBP23 ≤ TBP34 ≤ 40 as signed bytes"; and of an image's own bytes
  pub ordered : (breaks : Breaks) → ordered_of breaks ≡ ordered_z (value 7 breaks.b12) (value 7 breaks.b23) (value 7 breaks.b34)
  pub image_ordered : (image : List ℕ) → ((j : ℕ) → get_or image j 0 < 256)
      → ordered_of (image_breaks image) ≡ ordered_z (signed 7 (get_or image 0x36 0)) (signed 7 (get_or image 0x35 0)) (signed 7 (get_or image 0x34 0))
