-- The theorem that an import gives back what was exported (hex/specs/Theorems.antt) speaks of something: two images with different labels, block 0 locked
-- in the pack's, so that the label is the pack's own, a text of their export whose data lines stand in another order than they were written in, and a
-- call that reads it.
use Rattle.std.specs.Prelude.{◌≡◌, true, List, ℕ, ◌≤◌, length, take}
use Rattle.record.specs.Image.{image_label, image_bl0}
use Rattle.intel_hex.specs.Export.{Answer, done, export_size, Exporting}
use Rattle.intel_hex.specs.Import.{import_size, Importing}
use Rattle.intel_hex.specs.Theorems.{Bytes, Reordered}

pub record RoundTripMet : Type 0 where
  pub pack : List ℕ
  pub factory : List ℕ
  pub pack_bytes : Bytes pack
  pub factory_bytes : Bytes factory
  pub labels : image_label pack ≡ image_label factory → ⊥
  pub locked : image_bl0 pack ≡ true
  pub room : List ℕ
  pub after : List ℕ
  pub wrote : Exporting pack factory room done after
  pub lines : List (List ℕ)
  pub text : List ℕ
  pub reordered : Reordered pack factory lines text
  pub another : text ≡ take export_size after → ⊥
  pub lent : List ℕ
  pub said : Answer
  pub last : List ℕ
  pub fits : import_size ≤ length lent
  pub read : Importing text lent said last
