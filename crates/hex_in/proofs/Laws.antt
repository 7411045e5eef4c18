-- What follows of what `read` told, and of a text that is too long.
use mathlib.Core.Path.{◌≡◌, refl, sym, ap, ◌∙◌}
use mathlib.Core.List.{List, ◌++◌}
use Rattle.std.specs.Prelude.{Option, Err}
use Prim.Native.Nat.{ℕ, ◌≤◌, ◌<◌}
use native.Mathlib.Omega.{arith}
use borrow.Author.Tests.{lt-ltb, le-ltb}
use lib.ListN.{length, length-append}
use Rattle.streams.specs.declared.Said.{Said}
use Rattle.streams.specs.declared.Stream.TheVariants.{Output}
use Rattle.streams.specs.Streams.{Saying, error, refused_text}
use Rattle.streams.proofs.Laws.{front_put}
use Rattle.intel_hex.specs.declared.Fault.{Fault}
use Rattle.intel_hex.specs.declared.Flaw.{Flaw}
use Rattle.intel_hex.specs.declared.HexRefusal.{HexRefusal}
use Rattle.intel_hex.specs.declared.HexRefusal.TheVariants.{Line}
use Rattle.intel_hex.specs.Flaw.{flaw_from}
use Rattle.intel_hex.specs.Export.{Answer, done, hex_refusal_number}
use Rattle.intel_hex.specs.Import.{text_lines, data_at, imported_of, import_size, import_answer, Importing}
use Rattle.intel_hex.proofs.Lines.{import_sized}
use Rattle.hex_in.specs.HexIn.{first_words, hex_in_refusal_words, hex_in_over_text, most_text, room_size, hex_in_speech}

-- a refusal, by its number and its words
pub why_said : {why x : HexRefusal} (ls : List (List ℕ)) {number : ℕ} {room after : List ℕ} {r : Said} → why ≡ x → number ≡ hex_refusal_number why
    → Saying (error (refused_text number (hex_in_refusal_words x ls))) room r after →
    Saying (error (refused_text (hex_refusal_number why) (hex_in_refusal_words why ls))) room r after
why_said ls is told w = rw (← told, is) w

-- of a line, by what is found of the first bad one
pub line_said : {why : HexRefusal} {fault : Fault} {found : Option Flaw} (ls : List (List ℕ)) {number : ℕ} {room after : List ℕ} {r : Said} → why ≡ Line fault
    → found ≡ flaw_from 1 ls → number ≡ hex_refusal_number why → Saying (error (refused_text number (first_words found))) room r after →
    Saying (error (refused_text (hex_refusal_number why) (hex_in_refusal_words why ls))) room r after
line_said ls is first told w = rw (← told, is) (rw first at w)

-- ---- what is said of what `read` told

module _ {text room after : List ℕ} {answer : Answer} (w : Importing text room answer after) (size : length room ≡ room_size)
    (few : length text ≤ most_text) where
  answered : import_answer (text_lines text) room_size ≡ answer
  answered = ap (import_answer (text_lines text)) (sym size) ∙ sym w.answer

  imported_length : answer ≡ done → length (imported_of (text_lines text)) ≡ import_size
  imported_length is =
      let ls = text_lines text in
      let s = import_sized ls room_size (answered ∙ is) in
      length-append (data_at 0x20 ls) (data_at 0x60 ls ++ data_at 0x70 ls)
      ∙ omega (arith, length-append (data_at 0x60 ls) (data_at 0x70 ls), s.0, s.1, s.2)

  pub bytes_said : answer ≡ done → Saying (hex_in_speech text) room (record { stream = Output; count = import_size }) after
  unfolding hex_in_speech
  bytes_said is =
      let bytes : List ℕ = imported_of (text_lines text) in
      let long : length bytes ≡ import_size = imported_length is in
      let front = front_put room bytes long (omega arith) in
      rw (le-ltb most_text (length text) few, answered ∙ is)
      (record {
        stream = refl;
        counted = sym long;
        written = rw (sym w.answer ∙ is) at w.written ∙ sym front;
      })

  pub refusal_said : {why : HexRefusal} {r : Said} {last : List ℕ} → answer ≡ Err why →
      Saying (error (refused_text (hex_refusal_number why) (hex_in_refusal_words why (text_lines text)))) after r last
      → Saying (hex_in_speech text) room r last
  unfolding hex_in_speech
  refusal_said is said = rw (le-ltb most_text (length text) few, answered ∙ is) (rw (rw (sym w.answer ∙ is) at w.written) at said)

-- ---- of a text that is too long the bytes do not matter

pub alike : (text : List ℕ) → most_text < length text → hex_in_speech text ≡ error hex_in_over_text
unfolding hex_in_speech
alike text long = rw (lt-ltb most_text (length text) long) refl
