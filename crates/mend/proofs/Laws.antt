-- What follows of what `changes` and `mend` told, and of an input that is too long.
use mathlib.Core.Path.{◌≡◌, refl, sym, ap, ◌∙◌}
use Rattle.std.specs.Prelude.{Ok, Err}
use mathlib.Core.Bool.{false}
use mathlib.Core.List.{List, [], ◌++◌, append-nil}
use Prim.Native.Nat.{ℕ, ◌<◌}
use native.Mathlib.Omega.{arith}
use borrow.Author.Tests.{ne_eqb}
use lib.ListN.{length, take, drop_of_length-le}
use Rattle.streams.specs.declared.Said.{Said}
use Rattle.streams.specs.declared.Stream.TheVariants.{Output}
use Rattle.streams.specs.Streams.{Front, CountWithin, Saying, error, refused_text}
use Rattle.streams.proofs.Laws.{read_same}
use Rattle.record.specs.Image.{image_size}
use Rattle.mending.specs.declared.MendRefusal.{MendRefusal}
use Rattle.mending.specs.declared.MendRefusal.TheVariants.{Size}
use Rattle.mending.specs.Mending.{Mended, mended_of, mend_refusal_number, mending_answer, mended_room, listed_by, lines_by, Mending, Listing}
use Rattle.mend.specs.Mend.{mend_refusal_words, speech_by, file_by, mend_speech, mend_file, Mends}

-- ---- the lines

module _ {image text after : List ℕ} where
  pub lines_said : {n : ℕ} → Listing image text (Ok n) after → Saying (mend_speech image) text (record { stream = Output; count = n }) after
  unfolding mend_speech
  lines_said {n} w = by (mending_answer image image_size) w.answer w.written
    where
      by : (a : Mended) → Ok n ≡ listed_by a image → after ≡ lines_by a image text
          → Saying (speech_by a image) text (record { stream = Output; count = n }) after
      by (Ok _) e written = record { stream = refl; counted = cc; written = written }
      by (Err why) e written = absurd cc

  pub refusal_said : {why : MendRefusal} {r : Said} {last : List ℕ} → Listing image text (Err why) after
      → Saying (error (refused_text (mend_refusal_number why) (mend_refusal_words why))) after r last → Saying (mend_speech image) text r last
  unfolding mend_speech
  refusal_said {why} {r} {last} w said =
      by (mending_answer image image_size) w.answer w.written
    where
      by : (a : Mended) → Err why ≡ listed_by a image → after ≡ lines_by a image text → Saying (speech_by a image) text r last
      by (Ok _) e written = absurd cc
      by (Err other) e written = let same : why ≡ other = cc in rw (← same) (rw written at said)

-- ---- the image

pub filed : {image file after : List ℕ} {said : Mended} → length file ≡ image_size → Mending image file said after → after ≡ mend_file image file
unfolding mend_file
filed {image} {file} {after} size w = by (mending_answer image image_size) (rw size at w.written)
  where
    by : (a : Mended) → after ≡ mended_room a image file → after ≡ file_by a image file
    by (Ok _) e =
        e ∙ ap (λ (rest : List ℕ). mended_of image ++ rest) (drop_of_length-le file {i = image_size} (omega arith)) ∙ append-nil (mended_of image)
    by (Err why) e = e

-- ---- of an input that is too long the bytes do not matter

module _ (s : List ℕ) (long : image_size < length s) where
  refused : mending_answer s image_size ≡ Err Size
  unfolding mending_answer
  refused = rw (ne_eqb (length s) image_size (λ e. omega arith)) refl

  pub long_said : mend_speech s ≡ speech_by (Err Size) []
  unfolding mend_speech
  long_said = rw refused refl

  pub long_filed : (file : List ℕ) → mend_file s file ≡ file
  unfolding mend_file
  long_filed file = rw refused refl

-- what is said of what was read, and what the file gets of it, is that of the whole input
pub read_seen : {input s file text file' text' : List ℕ} {count n : ℕ} {r : Said} → length input ≡ 61 → CountWithin count input n
    → Front s input count → Mends false (take n input) file text r file' text' → Mends false s file text r file' text'
read_seen {input} {s} {file} size within front m =
    let speech = read_same {f = mend_speech} (rw size (λ t t' long long'. long_said t long ∙ sym (long_said t' long'))) within front in
    let bytes = read_same {f = λ l. mend_file l file} (rw size (λ t t' long long'. long_filed t long file ∙ sym (long_filed t' long' file))) within front in
    record { saying = rw speech at m.saying; filed = rw bytes at m.filed }
