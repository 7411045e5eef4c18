-- What follows of what `write` told, and of files that are too long.
use mathlib.Core.Path.{◌≡◌, refl, sym, ap, ◌∙◌}
use mathlib.Core.Bool.{Bool, true, false}
use mathlib.Core.List.{List, []}
use Rattle.std.specs.Prelude.{Err}
use Prim.Native.Nat.{ℕ, ◌<◌}
use native.Mathlib.Omega.{arith}
use borrow.Author.Tests.{ne_eqb}
use lib.ListN.{length}
use Rattle.std.specs.Prelude.{Err}
use Rattle.numbers.specs.Choice.{both}
use Rattle.streams.specs.declared.Said.{Said}
use Rattle.streams.specs.declared.Stream.TheVariants.{Output}
use Rattle.streams.specs.Streams.{Speech, Saying, error, refused_text}
use Rattle.digits.specs.Ascii.{ascii}
use Rattle.streams.specs.Work.{AlikeOfTwoFrom}
use Rattle.streams.proofs.Laws.{front_put}
use Rattle.record.specs.Image.{image_size, image_block}
use Rattle.record.specs.declared.Refusal.TheVariants.{Size}
use Rattle.record.specs.Record.{judged_among, judged_of}
use Rattle.intel_hex.specs.declared.HexRefusal.{HexRefusal}
use Rattle.intel_hex.specs.declared.HexRefusal.TheVariants.{Image}
use Rattle.intel_hex.specs.Export.{Answer, done, hex_refusal_number, image_accepted, both_accepted}
use Rattle.intel_hex.specs.Export.{export_label, export_text, export_size, export_answer, Exporting}
use Rattle.intel_hex.proofs.Texts.{granted, label_sized, block_sized, text_length}
use Rattle.hex_out.specs.HexOut.{side_words, refused_side_words, hex_out_refusal_words, hex_out_by, hex_out_speech}

-- a refusal, by its number and its words
pub why_said : {why x : HexRefusal} (pack factory : List ℕ) {number : ℕ} {room after : List ℕ} {r : Said} → why ≡ x
    → number ≡ hex_refusal_number why → Saying (error (refused_text number (hex_out_refusal_words x pack factory))) room r after →
    Saying (error (refused_text (hex_refusal_number why) (hex_out_refusal_words why pack factory))) room r after
why_said pack factory is told w = rw (← told, is) w

-- ---- what is said of what `write` told, with room for the whole text

module _ {pack factory room after : List ℕ} {answer : Answer} (w : Exporting pack factory room answer after) (size : length room ≡ export_size) where
  answered : export_answer pack factory export_size ≡ answer
  answered = ap (export_answer pack factory) (sym size) ∙ sym w.answer

  pub text_said : answer ≡ done → length after ≡ length room →
      Saying (hex_out_speech pack factory) room (record { stream = Output; count = length after }) after
  unfolding hex_out_speech
  text_said is kept =
      let held = (granted pack factory export_size (answered ∙ is)).0 in
      let text : List ℕ = export_text (export_label pack factory) (image_block pack) in
      let long : length text ≡ export_size =
      text_length (export_label pack factory) (image_block pack) (label_sized pack factory held) (block_sized pack factory held) in
      let front = front_put room text long (omega arith) in
      rw (answered ∙ is)
      (record {
        stream = refl;
        counted = kept ∙ size ∙ sym long;
        written = rw (sym w.answer ∙ is) at w.written ∙ sym front;
      })

  pub refusal_said : {why : HexRefusal} {r : Said} {last : List ℕ} → answer ≡ Err why →
      Saying (error (refused_text (hex_refusal_number why) (hex_out_refusal_words why pack factory))) after r last
      → Saying (hex_out_speech pack factory) room r last
  unfolding hex_out_speech
  refusal_said is said = rw (answered ∙ is) (rw (rw (sym w.answer ∙ is) at w.written) at said)

-- ---- of a file that is too long the bytes do not matter

long_judged : (image : List ℕ) → image_size < length image → judged_of image ≡ Err Size
unfolding judged_among
long_judged image long = rw (ne_eqb (length image) image_size (λ e. omega arith)) refl

none_judged : judged_of [] ≡ Err Size
unfolding judged_among
none_judged = refl

refused_by : (pack factory : List ℕ) → both_accepted pack factory ≡ false → hex_out_speech pack factory ≡ hex_out_by (Err Image) pack factory
unfolding hex_out_speech export_answer
refused_by pack factory e = rw e refl

-- what is said of a pack's image that is too long
abbrev long_speech : Speech
long_speech = error (refused_text 44 (side_words (ascii "pack") 4))

long_pack : (factory pack : List ℕ) → image_size < length pack → hex_out_speech pack factory ≡ long_speech
unfolding both_accepted refused_side_words
long_pack factory pack long =
    refused_by pack factory (rw (long_judged pack long) refl) ∙ rw (long_judged pack long) refl

long_factory : (pack factory : List ℕ) → image_size < length factory → hex_out_speech pack factory ≡ hex_out_speech pack []
unfolding both_accepted refused_side_words
long_factory pack factory long =
    refused_by pack factory (rw (long_judged factory long) (last (image_accepted pack)))
    ∙ rw (long_judged factory long) (sym (refused_by pack [] (rw none_judged (last (image_accepted pack))) ∙ rw none_judged refl))
  where
    last : (s : Bool) → both s false ≡ false
    last true = refl
    last false = refl

pub alike : AlikeOfTwoFrom 61 61 hex_out_speech
alike =
    (λ t s s' long long'. long_pack t s long ∙ sym (long_pack t s' long'), λ s t t' long long'. long_factory s t long ∙ sym (long_factory s t' long'))
