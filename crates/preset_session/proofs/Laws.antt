-- What follows of the definitions, for the proofs of this crate and of those above it.
use mathlib.Core.Path.{◌≡◌, refl, ap, ◌∙◌}
use mathlib.Core.Bool.{Bool, true, false}
use Rattle.std.specs.Prelude.{Err}
use mathlib.Core.List.{List, ◌++◌}
use Prim.Native.Nat.{ℕ, ◌≤◌}
use native.Mathlib.Omega.{arith}
use borrow.Author.Tests.{eqb-true, ltb-false, eq-eqb, le-ltb}
use lib.Dec.{eqb, ltb}
use lib.ListN.{length, take, drop, length-append}
use Rattle.std.specs.Prelude.{Ok, Err}
use Rattle.numbers.specs.Choice.{pick}
use Rattle.slices.specs.Slices.{put}
use Rattle.slices.proofs.Laws.{put_next, put_front, put_whole}
use Rattle.state.specs.declared.Profile.TheVariants.{Ds2781}
use Rattle.record.specs.Image.{image_size, image_bl1}
use Rattle.record.specs.Record.{judged_of, Taken}
use Rattle.record.proofs.Fits.{judged_image}
use Rattle.digits.specs.Digits.{Writing}
use Rattle.runs.specs.Record.{record_of}
use Rattle.runs.proofs.Records.{record_then}
use Rattle.preset_session.specs.declared.PresetRefusal.TheVariants.{Parameters, Locked, Room}
use Rattle.preset_session.specs.PresetSession.{write_done, write_payload, copy_payload, read_payload, programming_of}
use Rattle.preset_session.specs.PresetSession.{programming_size, preset_answer_by, preset_answer, Granted}

-- ---- the answer

module _ (image wanted : List ℕ) (room : ℕ) where
  tests : (a b c : Bool) → pick a (pick b (Err Locked) (pick c (Err Room) write_done)) (Err Parameters) ≡ write_done →
      (a ≡ true) × (b ≡ false) × (c ≡ false)
  tests true true c e = absurd cc
  tests true false true e = absurd cc
  tests true false false e = (refl, refl, refl)
  tests false b c e = absurd cc

  granted_by : (t : Taken) → judged_of image ≡ t → preset_answer_by t image wanted room ≡ write_done → Granted image wanted room
  granted_by (Ok e) judged done =
      let held = tests (eqb (length wanted) 32) (image_bl1 image) (ltb room programming_size) done in
      record {
        accepted = judged_image Ds2781 image judged;
        all = eqb-true (length wanted) 32 held.0;
        unlocked = held.1;
        fits = ltb-false room programming_size held.2;
      }
  granted_by (Err r) judged done = let z : ◌≡◌ {A = ℕ} 0 1 = cc in absurd (omega arith)

  pub granted : preset_answer image wanted room ≡ write_done → Granted image wanted room
  unfolding preset_answer
  granted done = granted_by (judged_of image) refl done

  pub done : Granted image wanted room → preset_answer image wanted room ≡ write_done
  unfolding preset_answer
  done g = rw (g.accepted, eq-eqb (length wanted) 32 g.all, g.unlocked, le-ltb room programming_size g.fits) refl

-- ---- the session

-- the first four bytes of the write, and the wanted ones behind them, over an array of 36
pub write_laid : (wanted array : List ℕ) → length wanted ≡ 32 → length array ≡ 36
    → put (put array 0 (take 4 (write_payload wanted))) 4 wanted ≡ write_payload wanted
write_laid wanted array all sized =
    put_next array 0 4 (take 4 (write_payload wanted)) wanted refl ∙ put_whole array (write_payload wanted) (omega arith)

module _ (image wanted : List ℕ) (sized : length image ≡ image_size) (all : length wanted ≡ 32) where
  pub programming_length : length (programming_of image wanted) ≡ programming_size
  programming_length =
      omega (
        arith,
        length-append (record_of 1 image) (record_of 4 (write_payload wanted) ++ (record_of 4 copy_payload ++ record_of 4 read_payload)),
        length-append (record_of 4 (write_payload wanted)) (record_of 4 copy_payload ++ record_of 4 read_payload),
      )

  -- the session, at the front of a room
  pub programmed : {most next : ℕ} {room after : List ℕ} → programming_size ≤ length room → Writing most (programming_of image wanted) room 0 next after
      → after ≡ programming_of image wanted ++ drop programming_size room
  programmed {room = room} fits w =
      w.written
      ∙ put_front room (programming_of image wanted) (omega (arith, programming_length))
      ∙ ap (λ (n : ℕ). programming_of image wanted ++ drop n room) programming_length

  -- four records, one behind the other, at the front of a room
  module _ {first_most second_most third_most fourth_most : ℕ} {room a b c d : List ℕ} {i j k n : ℕ} where
    pub four : programming_size ≤ length room → Writing first_most (record_of 1 image) room 0 i a
        → Writing second_most (record_of 4 (write_payload wanted)) a i j b → Writing third_most (record_of 4 copy_payload) b j k c
        → Writing fourth_most (record_of 4 read_payload) c k n d → d ≡ programming_of image wanted ++ drop programming_size room
    four fits first second third fourth = programmed {most = programming_size} {next = programming_size} fits (record {
      onward = omega (arith, programming_length);
      written =
          fourth.written ∙ record_then 4 copy_payload third (record_of 4 read_payload)
          ∙ record_then 4 (write_payload wanted) second (record_of 4 copy_payload ++ record_of 4 read_payload)
          ∙ record_then 1 image first (record_of 4 (write_payload wanted) ++ (record_of 4 copy_payload ++ record_of 4 read_payload));
      within = omega arith;
    })
