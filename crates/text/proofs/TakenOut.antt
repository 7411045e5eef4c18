-- The image of a pack taken out into a room of 61 bytes or more, of a session or of a slot of a tray: what is said by the answer and the room.
use mathlib.Core.Path.{◌≡◌, refl, sym, ap, ◌∙◌}
use mathlib.Core.Bool.{Bool, true, false}
use mathlib.Core.List.{List, ◌++◌}
use Prim.Native.Nat.{ℕ, ◌≤◌}
use native.Mathlib.Omega.{arith}
use borrow.Author.Tests.{le-leb}
use lib.Dec.{leb}
use lib.ListN.{length, drop, length-append, length-drop}
use Rattle.std.specs.Prelude.{Result, Ok, Err}
use Rattle.slices.proofs.Laws.{put_front}
use Rattle.streams.specs.declared.Said.{Said}
use Rattle.streams.specs.declared.Stream.TheVariants.{Output}
use Rattle.streams.specs.Streams.{Saying, error, refused_text}
use Rattle.record.specs.declared.Refusal.{Refusal}
use Rattle.record.specs.declared.Refusal.TheVariants.{Order}
use Rattle.record.specs.Record.{refusal_number}
use Rattle.gauge.specs.declared.Gauge.{Gauge}
use Rattle.gauge.specs.Image.{bytes_of, size_for}
use Rattle.gauge.proofs.Image.{size_few}
use Rattle.runs.specs.Out.{number_in}
use Rattle.text.specs.Text.{pack_speech}
use Rattle.text.specs.Session.{OutOf}

-- ---- the cases of what was taken out

count_in : Result ℕ Refusal → ℕ
count_in (Ok n) = n
count_in (Err r) = 0

was_done : Result ℕ Refusal → ℕ
was_done (Ok n) = 1
was_done (Err r) = 0

module _ {held : Bool} {gauge : Gauge} {room after : List ℕ} {out : Result ℕ Refusal} (t : OutOf held gauge room out after) (size : 61 ≤ length room)
    (words : List ℕ) where
  long : leb (size_for gauge) (length room) ≡ true
  long = le-leb (size_for gauge) (length room) (omega (arith, size_few gauge))

  -- taken out: the image stands at the front of the room
  pub handed : {count : ℕ} → out ≡ Ok count → length after ≡ length room
      → Saying (pack_speech held gauge words) room (record { stream = Output; count = count }) after
  unfolding count_in was_done
  handed {count} taken kept = by held refl
    where
      by : (b : Bool) → held ≡ b → Saying (pack_speech held gauge words) room (record { stream = Output; count = count }) after
      by true e =
          let all = rw (e, long) at t.written in
          let told : out ≡ Ok (size_for gauge) = rw (e, long) at t.value in
          let counted : count ≡ size_for gauge = ap count_in (sym taken ∙ told) in
          let both = length-append (bytes_of gauge) (drop (size_for gauge) room) in
          let length-is : length (bytes_of gauge) ≡ size_for gauge =
          omega (arith, sym (ap length all) ∙ kept, both, length-drop (size_for gauge) room, size_few gauge) in
          rw e
          (record {
            stream = refl;
            counted = counted ∙ sym length-is;
            written =
                all ∙ ap (λ (n : ℕ). bytes_of gauge ++ drop n room) (sym length-is)
                ∙ sym (put_front room (bytes_of gauge) (omega (arith, length-is, size_few gauge)));
          })
      by false e =
          let told : out ≡ Err Order = rw e at t.value in
          let none : ◌≡◌ {A = ℕ} 1 0 = ap was_done (sym taken ∙ told) in absurd (omega arith)

  -- refused: with 5, and nothing was written before the refusal
  pub refused : {r : Refusal} {x : Said} {last : List ℕ} → out ≡ Err r → Saying (error (refused_text (refusal_number r) words)) after x last
      → Saying (pack_speech held gauge words) room x last
  unfolding was_done
  refused {r} {x} {last} taken w = by held refl
    where
      by : (b : Bool) → held ≡ b → Saying (pack_speech held gauge words) room x last
      by true e =
          let told : out ≡ Ok (size_for gauge) = rw (e, long) at t.value in
          let none : ◌≡◌ {A = ℕ} 0 1 = ap was_done (sym taken ∙ told) in absurd (omega arith)
      by false e =
          let told : out ≡ Err Order = rw e at t.value in
          let five : refusal_number r ≡ 5 = ap number_in (sym taken ∙ told) in
          let left : after ≡ room = rw e at t.written in
          rw e (rw (five, left) at w)
