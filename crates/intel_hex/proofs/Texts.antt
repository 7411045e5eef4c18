-- What follows of the definitions of an export.
use Rattle.std.specs.Prelude.{Ok, Err}
use Rattle.std.proofs.Common.{◌≡◌, ℕ, ◌≤◌, Bool, true, false, ltb, List, [], ◌∷◌, ◌++◌, length, drop, refl, ap, ◌∙◌, arith, length-append, ltb-false}
use Rattle.numbers.specs.Choice.{pick}
use Rattle.numbers.proofs.Bounds.{picked, both_true}
use Rattle.slices.specs.Slices.{part, put}
use Rattle.slices.proofs.Laws.{part_length, put_front}
use Rattle.digits.specs.Digits.{Writing}
use Rattle.state.specs.declared.Profile.TheVariants.{Ds2781}
use Rattle.record.specs.Image.{image_size, image_label, image_block, image_bl0}
use Rattle.record.specs.Record.{judged_of, Taken}
use Rattle.record.proofs.Fits.{judged_sized}
use Rattle.intel_hex.specs.Line.{hex_line_text, checksum_of, content_of, data_record, end_record}
use Rattle.intel_hex.proofs.OneLine.{line_length}
use Rattle.intel_hex.specs.declared.HexRefusal.TheVariants as why
use Rattle.intel_hex.specs.Export.{done, accepted_by, image_accepted, both_accepted, export_label, label_line, low_line}
use Rattle.intel_hex.specs.Export.{high_line, end_line, export_text, export_size, export_answer}

-- ---- images that are taken

accepted_sized : (image : List ℕ) → image_accepted image ≡ true → length image ≡ image_size
accepted_sized image e = by (judged_of image) refl e
  where
    by : (t : Taken) → judged_of image ≡ t → accepted_by t ≡ true → length image ≡ image_size
    by (Ok e) j a = judged_sized Ds2781 image j
    by (Err r) j a = let z : ◌≡◌ {A = ℕ} 0 1 = cc in absurd (omega arith)

module _ (pack factory : List ℕ) (both-taken : both_accepted pack factory ≡ true) where
  pub pack_sized : length pack ≡ image_size
  unfolding both_accepted
  pack_sized = accepted_sized pack (both_true (image_accepted pack) (image_accepted factory) both-taken).0

  pub factory_sized : length factory ≡ image_size
  unfolding both_accepted
  factory_sized = accepted_sized factory (both_true (image_accepted pack) (image_accepted factory) both-taken).1

  pub label_is : export_label pack factory ≡ pick (image_bl0 pack) (image_label pack) (image_label factory)
  unfolding export_label
  label_is = rw both-taken refl

  pub label_sized : length (export_label pack factory) ≡ 16
  label_sized =
      rw label_is
      (picked (λ (l : List ℕ). length l ≡ 16) (image_bl0 pack) (image_label pack) (image_label factory)
      (λ locked. part_length 16 pack 8 (omega (arith, pack_sized)))
      (λ other. part_length 16 factory 8 (omega (arith, factory_sized))))

  pub block_sized : length (image_block pack) ≡ 32
  block_sized = part_length 32 pack 24 (omega (arith, pack_sized))

-- ---- what `Ok` tells

module _ (pack factory : List ℕ) (room : ℕ) where
  answered : (a b : Bool) → pick a (pick b (Err why.Room) done) (Err why.Image) ≡ done → (a ≡ true) × (b ≡ false)
  answered true true e = let z : ◌≡◌ {A = ℕ} 0 1 = cc in absurd (omega arith)
  answered true false e = (refl, refl)
  answered false b e = let z : ◌≡◌ {A = ℕ} 0 1 = cc in absurd (omega arith)

  pub granted : export_answer pack factory room ≡ done → (both_accepted pack factory ≡ true) × (export_size ≤ room)
  unfolding export_answer
  granted done =
      let t = answered (both_accepted pack factory) (ltb room export_size) done in
      (t.0, ltb-false room export_size t.1)

-- ---- the text

module _ (label block : List ℕ) (sized : length label ≡ 16) (long : length block ≡ 32) where
  data_line_length : (address : ℕ) (bytes : List ℕ) → length bytes ≡ 16 → length (hex_line_text (data_record address bytes)) ≡ 44
  data_line_length address bytes e =
      line_length (data_record address bytes) ∙ omega (arith, length-append bytes (checksum_of (content_of address 0 bytes) ∷ []))

  pub low_sized : length (part 16 block 0) ≡ 16
  low_sized = part_length 16 block 0 (omega arith)

  pub high_sized : length (part 16 block 16) ≡ 16
  high_sized = part_length 16 block 16 (omega arith)

  pub text_length : length (export_text label block) ≡ export_size
  text_length =
      omega (
        arith,
        length-append (label_line label) (low_line block ++ (high_line block ++ end_line)),
        length-append (low_line block) (high_line block ++ end_line),
        length-append (high_line block) end_line,
        data_line_length 0x20 label sized,
        data_line_length 0x60 (part 16 block 0) low_sized,
        data_line_length 0x70 (part 16 block 16) high_sized,
        line_length end_record,
      )

  -- four lines, at the front of a room
  pub text_written : {first second third room after : List ℕ} {most next : ℕ} → first ≡ data_record 0x20 label →
      second ≡ data_record 0x60 (part 16 block 0)
      → third ≡ data_record 0x70 (part 16 block 16) → export_size ≤ length room
      → Writing most (hex_line_text first ++ (hex_line_text second ++ (hex_line_text third ++ end_line))) room 0 next after
      → after ≡ export_text label block ++ drop export_size room
  text_written {room = room} {after = after} p q r fits w =
      let there : after ≡ put room 0 (export_text label block) = (rw (p, q, r) at w).written in
      there
      ∙ put_front room (export_text label block) (omega (arith, text_length))
      ∙ ap (λ (n : ℕ). export_text label block ++ drop n room) text_length
