-- What follows of what `write` told, and of files that are too long.
use mathlib.Core.Path.{◌≡◌, refl, sym, ap, ◌∙◌}
use Rattle.std.specs.Prelude.{Err}
use mathlib.Core.List.{List, []}
use Prim.Native.Nat.{ℕ, ◌<◌}
use native.Mathlib.Omega.{arith}
use borrow.Author.Tests.{ne_eqb}
use lib.ListN.{length}
use Rattle.std.specs.Prelude.{Ok, Err}
use Rattle.streams.specs.declared.Said.{Said}
use Rattle.streams.specs.declared.Stream.TheVariants.{Output}
use Rattle.streams.specs.Streams.{Saying, error, refused_text}
use Rattle.streams.specs.Work.{AlikeOfTwoFrom}
use Rattle.streams.proofs.Laws.{front_put}
use Rattle.state.specs.declared.Profile.TheVariants.{Ds2781}
use Rattle.record.specs.declared.Refusal.TheVariants.{Size}
use Rattle.record.specs.Image.{image_size}
use Rattle.record.specs.Record.{judged_among, judged_of, Taken}
use Rattle.record.proofs.Fits.{judged_sized}
use Rattle.preset_session.specs.declared.PresetRefusal.{PresetRefusal}
use Rattle.preset_session.specs.declared.PresetRefusal.TheVariants.{Image}
use Rattle.preset_session.specs.PresetSession.{Written, write_done, programming_of, programming_size, preset_refusal_number}
use Rattle.preset_session.specs.PresetSession.{preset_answer_by, preset_answer, Programming}
use Rattle.preset_session.proofs.Laws.{granted, programming_length}
use Rattle.preset.specs.Preset.{preset_refusal_words, preset_by, preset_speech}

-- ---- what is said of what `write` told, with room for the whole session

module _ {image wanted room after : List ℕ} {answer : Written} (w : Programming image wanted room answer after) (size : length room ≡ programming_size) where
  answered : preset_answer image wanted programming_size ≡ answer
  answered = ap (preset_answer image wanted) (sym size) ∙ sym w.answer

  pub session_said : answer ≡ write_done → length after ≡ length room →
      Saying (preset_speech image wanted) room (record { stream = Output; count = length after }) after
  unfolding preset_speech
  session_said is kept =
      let g = granted image wanted programming_size (answered ∙ is) in
      let long : length (programming_of image wanted) ≡ programming_size = programming_length image wanted (judged_sized Ds2781 image g.accepted) g.all in
      let front = front_put room (programming_of image wanted) long (omega arith) in
      rw (answered ∙ is)
      (record {
        stream = refl;
        counted = kept ∙ size ∙ sym long;
        written = rw (sym w.answer ∙ is) at w.written ∙ sym front;
      })

  pub refusal_said : {why : PresetRefusal} {r : Said} {last : List ℕ} → answer ≡ Err why →
      Saying (error (refused_text (preset_refusal_number why) (preset_refusal_words why))) after r last
      → Saying (preset_speech image wanted) room r last
  unfolding preset_speech
  refusal_said is said = rw (answered ∙ is) (rw (rw (sym w.answer ∙ is) at w.written) at said)

-- ---- of a file that is too long the bytes do not matter

long_image : (wanted image : List ℕ) → image_size < length image → preset_speech image wanted ≡ preset_by (Err (Image Size)) [] []
unfolding preset_speech preset_answer judged_among
long_image wanted image long = rw (ne_eqb (length image) image_size (λ e. omega arith)) refl

long_wanted : (image wanted : List ℕ) → 32 < length wanted → preset_speech image wanted ≡ preset_speech image []
unfolding preset_speech preset_answer
long_wanted image wanted long = by (judged_of image)
  where
    by : (t : Taken) → preset_by (preset_answer_by t image wanted programming_size) image wanted ≡
        preset_by (preset_answer_by t image [] programming_size) image []
    by (Ok e) = rw (ne_eqb (length wanted) 32 (λ e. omega arith)) refl
    by (Err r) = refl

pub alike : AlikeOfTwoFrom 61 33 preset_speech
alike =
    (λ t s s' long long'. long_image t s long ∙ sym (long_image t s' long'), λ s t t' long long'. long_wanted s t long ∙ sym (long_wanted s t' long'))
