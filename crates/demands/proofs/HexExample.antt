-- A pack with a locked label and a factory with another one, whose export is read back with its data lines in another order.
use mathlib.Core.Path.{◌≡◌, refl, ap}
use mathlib.Core.Bool.{Bool, true, false}
use mathlib.Core.Logic.{inl, inr}
use mathlib.Core.List.{List, [], ◌∷◌, ◌++◌}
use Prim.Native.Nat.{ℕ, ◌<◌}
use native.Mathlib.Omega.{arith}
use borrow.Author.Tests.{ltb-true, ltb-false}
use lib.Dec.{ltb, ltb→lt}
use lib.ListN.{get_or, replicate, get_or-eq_default}
use Rattle.crc.specs.Crc as crc
use Rattle.numbers.proofs.Table.{at}
use Rattle.digits.specs.Digits.{hex_of}
use Rattle.record.specs.Image.{image_block}
use Rattle.record.specs.Record.{addressed_of, ordered_of, judged_among}
use Rattle.intel_hex.specs.Export.{both_accepted, export_label, export_answer, label_line, low_line, high_line, end_line, export_text}
use Rattle.intel_hex.specs.Import.{import_answer, import_room, text_lines}
use Rattle.intel_hex.specs.Theorems.{Bytes, joined_text}
use Rattle.demands.specs.RoundTrip.{RoundTripMet}

-- an address, a label of one letter, parameters with the breakpoints 40, 0 and -12, saved ACR and AS, and a lock byte
abbrev image_with : ℕ → ℕ → List ℕ
image_with letter locks =
    0x3d ∷ 1 ∷ 2 ∷ 3 ∷ 4 ∷ 5 ∷ 6 ∷ 0xac
    ∷ (replicate 16 letter ++ (replicate 28 7 ++ (0x28 ∷ 0x00 ∷ 0xf4 ∷ 9 ∷ 0x88 ∷ 0x13 ∷ 128 ∷ locks ∷ [])))

-- block 0 is locked
abbrev pack : List ℕ
pack = image_with 0x41 1

abbrev factory : List ℕ
factory = image_with 0x42 0

pack_small : Bytes pack
pack_small i = by (ltb i 60) refl
  where
    by : (inside : Bool) → ltb i 60 ≡ inside → get_or pack i 0 < 256
    by true e = ltb→lt (get_or pack i 0) 256 (at (λ k x. ltb x 256) pack tt i (ltb-true i 60 e))
    by false e = rw (get_or-eq_default pack 0 (ltb-false i 60 e)) (omega arith)

factory_small : Bytes factory
factory_small i = by (ltb i 60) refl
  where
    by : (inside : Bool) → ltb i 60 ≡ inside → get_or factory i 0 < 256
    by true e = ltb→lt (get_or factory i 0) 256 (at (λ k x. ltb x 256) factory tt i (ltb-true i 60 e))
    by false e = rw (get_or-eq_default factory 0 (ltb-false i 60 e)) (omega arith)

-- the two lines of block 1 before the label's
abbrev moved : List (List ℕ)
moved = low_line (image_block pack) ∷ high_line (image_block pack) ∷ label_line (export_label pack factory) ∷ []

abbrev text : List ℕ
text = joined_text moved ++ end_line

pub round_trip_met : RoundTripMet
unfolding export_answer both_accepted export_label judged_among addressed_of ordered_of hex_of crc.bit_of crc.eight_of crc.next_of
round_trip_met = record {
  pack = pack;
  factory = factory;
  pack_bytes = pack_small;
  factory_bytes = factory_small;
  labels = λ e. let z : ◌≡◌ {A = ℕ} 0x41 0x42 = ap (λ (l : List ℕ). get_or l 0 0) e in absurd (omega arith);
  locked = refl;
  room = replicate 144 0;
  after = export_text (export_label pack factory) (image_block pack);
  wrote = record { number = refl; answer = refl; written = refl };
  lines = moved;
  text = text;
  reordered = record { arranged = record { many = refl; first = inr (inr (inl refl)); second = inl refl; third = inr (inl refl) }; lines = refl };
  another = λ e. let z : ◌≡◌ {A = ℕ} 0x36 0x32 = ap (λ (l : List ℕ). get_or l 5 0) e in absurd (omega arith);
  lent = replicate 48 0;
  said = import_answer (text_lines text) 48;
  last = import_room (import_answer (text_lines text) 48) (text_lines text) (replicate 48 0);
  fits = omega arith;
  read = record { number = refl; answer = refl; written = refl };
}
