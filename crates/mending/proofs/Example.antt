-- A dump that is damaged in all four ways, what it is mended to and the lines of it; and that each theorem speaks of something.
use mathlib.Core.Path.{◌≡◌, refl}
use mathlib.Core.Bool.{Bool, true, false}
use mathlib.Core.List.{List, [], ◌∷◌, ◌++◌}
use Prim.Native.Nat.{ℕ, ◌<◌}
use native.Mathlib.Omega.{arith}
use borrow.Author.Tests.{ltb-true, ltb-false}
use lib.Dec.{ltb, ltb→lt}
use lib.ListN.{get_or, replicate, get_or-eq_default}
use Rattle.std.specs.Prelude.{Err}
use Rattle.crc.specs.Crc as crc
use Rattle.numbers.proofs.Table.{at}
use Rattle.digits.specs.Ascii.{ascii}
use Rattle.digits.specs.Digits.{hex_of}
use Rattle.record.specs.declared.Refusal.TheVariants.{Address}
use Rattle.record.specs.Record.{kind_of, addressed_of, ordered_of, judged_among, taken_of}
use Rattle.mending.specs.Mending.{mend_done, arranged_of, mended_of, change_text, changes_of, mending_answer, Mending}
use Rattle.mending.specs.Worth.{Mendable, SoundImage}

-- an address with a CRC, a label, the parameters from 60h to 7Bh, three breakpoints, 7Fh, saved ACR, saved AS and a lock byte
abbrev image_with : ℕ → ℕ → ℕ → ℕ → ℕ → ℕ → List ℕ
image_with check b34 b23 b12 aging locks =
    0x3d ∷ 1 ∷ 2 ∷ 3 ∷ 4 ∷ 5 ∷ 6 ∷ check
    ∷ (replicate 16 0x20 ++ (replicate 28 7 ++ (b34 ∷ b23 ∷ b12 ∷ 9 ∷ 0x88 ∷ 0x13 ∷ aging ∷ locks ∷ [])))

-- no CRC; TBP34 -12, TBP23 0 and TBP12 85; AS 200; lock byte feh
abbrev pub damaged : List ℕ
damaged = image_with 0x00 0xf4 0x00 0x55 200 0xfe

-- TBP34 40, TBP23 0 and TBP12 -12; AS 128; BL1 alone
abbrev pub whole : List ℕ
whole = image_with 0xac 0x28 0x00 0xf4 128 0x02

pub damaged_refused : taken_of 1 false damaged ≡ Err Address
unfolding taken_of kind_of judged_among addressed_of ordered_of crc.bit_of crc.eight_of crc.next_of
damaged_refused = refl

pub damaged_mended : mended_of damaged ≡ whole
unfolding mended_of arranged_of crc.bit_of crc.eight_of crc.next_of
damaged_mended = refl

-- 35h is as it was
pub damaged_lines : changes_of damaged ≡ ascii "07 00 ac\n34 f4 28\n36 55 f4\n3a c8 80\n3b fe 02\n"
unfolding changes_of change_text mended_of arranged_of hex_of crc.bit_of crc.eight_of crc.next_of
damaged_lines = refl

-- THE HYPOTHESES OF THE THEOREMS CAN BE MET
pub mendable_met : Mendable damaged
mendable_met = record { sized = refl; family = refl }

pub sound_met : SoundImage whole
unfolding taken_of kind_of judged_among addressed_of ordered_of crc.bit_of crc.eight_of crc.next_of
sound_met = record { bytes = small; accepted = refl; young = omega arith; old = omega arith }
  where
    small : (i : ℕ) → get_or whole i 0 < 256
    small i = by (ltb i 60) refl
      where
        by : (t : Bool) → ltb i 60 ≡ t → get_or whole i 0 < 256
        by true e = ltb→lt (get_or whole i 0) 256 (at (λ k x. ltb x 256) whole tt i (ltb-true i 60 e))
        by false e = rw (get_or-eq_default whole 0 (ltb-false i 60 e)) (omega arith)

pub done_met : Mending damaged (replicate 60 0) mend_done whole
unfolding mending_answer mended_of arranged_of crc.bit_of crc.eight_of crc.next_of
done_met = record { number = refl; answer = refl; written = refl }
