-- The image, taken out and read in again: a power-on, and accepted where its breakpoints are ordered.
use mathlib.Core.Path.{◌≡◌, refl, sym, ap, ◌∙◌}
use mathlib.Core.Bool.{Bool, true, false}
use mathlib.Core.List.{List, ◌++◌}
use Prim.Native.Nat.{ℕ, ◌+◌, ◌/◌, ◌%◌, ◌≤◌}
use native.Mathlib.Omega.{arith}
use lib.Dec.{leb, eqb}
use lib.ListN.{length, get_or, drop, length-append}
use lib.Seq.{take_at, drop_at, drop-drop, get_or-drop}
use borrow.Author.Tests.{eq-eqb}
use Rattle.std.specs.Prelude.{Ok, Err}
use Rattle.numbers.specs.Choice.{pick}
use Rattle.slices.specs.Slices.{part, put, pair_at}
use Rattle.slices.proofs.Laws.{put_next, put_front}
use Rattle.params.specs.Params.{breaks_of}
use Rattle.state.specs.declared.Profile.{Profile}
use Rattle.state.specs.declared.Profile.TheVariants.{Ds2781, Ds2775}
use Rattle.state.specs.State.{image_size_of, counts_cycles, powered_of}
use Rattle.gauge.specs.declared.Gauge.{Gauge}
use Rattle.record.specs.declared.Event.TheVariants.{Image}
use Rattle.record.specs.declared.Refusal.TheVariants.{Breaks}
use Rattle.record.specs.Image.{image_address, image_label, image_block, acr_at}
use Rattle.record.specs.Record.{addressed_of, ordered_of, judged_among, judged_by}
use Rattle.gauge.specs.Gauge.{Sized, Uncounted, power_on_of}
use Rattle.gauge.specs.Image.{image_of, lock_byte, cycle_cell, image_end, bytes_of, size_for}

-- ---- parts of 8, 16 and 32 bytes, and what stands after them

module _ (a e b t : List ℕ) (la : length a ≡ 8) (le : length e ≡ 16) (lb : length b ≡ 32) where
  abbrev pub joint : List ℕ
  joint = a ++ (e ++ (b ++ t))

  pub joint_length : length joint ≡ 56 + length t
  joint_length = simp length-append (omega arith)

  -- four stores are the image at the front of the room
  pub joint_put : (room : List ℕ) → 56 + length t ≤ length room → put (put (put (put room 0 a) 8 e) 24 b) 56 t ≡ joint ++ drop (56 + length t) room
  joint_put room h =
      put_next (put (put room 0 a) 8 e) 24 56 b t (omega arith)
      ∙ put_next (put room 0 a) 8 24 e (b ++ t) (omega arith)
      ∙ put_next room 0 8 a (e ++ (b ++ t)) (omega arith)
      ∙ put_front room joint (omega (arith, joint_length))
      ∙ ap (λ (n : ℕ). joint ++ drop n room) joint_length

  -- the parts are found again
  pub joint_address : part 8 joint 0 ≡ a
  joint_address = take_at a _ 8 la

  pub joint_label : part 16 joint 8 ≡ e
  joint_label = rw (drop_at a (e ++ (b ++ t)) 8 la) (take_at e _ 16 le)

  pub joint_block : part 32 joint 24 ≡ b
  joint_block = rw (← (drop-drop 16 8 joint)) (rw (drop_at a (e ++ (b ++ t)) 8 la, drop_at e (b ++ t) 16 le) (take_at b _ 32 lb))

  joint_tail : drop 56 joint ≡ t
  joint_tail =
      rw (← (drop-drop 48 8 joint)) (rw (drop_at a (e ++ (b ++ t)) 8 la)
      (rw (← (drop-drop 32 16 (e ++ (b ++ t)))) (rw (drop_at e (b ++ t) 16 le) (drop_at b t 32 lb))))

  pub joint_byte : (i : ℕ) → get_or joint (56 + i) 0 ≡ get_or t i 0
  joint_byte i = sym (get_or-drop 56 joint i 0) ∙ ap (λ (l : List ℕ). get_or l i 0) joint_tail

-- ---- the image of a gauge

-- the two lock bits of a byte
bits : (x y : Bool) → (eqb (lock_byte x y % 2) 1 ≡ y) × (eqb (lock_byte x y / 2 % 2) 1 ≡ x) × (leb (lock_byte x y) 3 ≡ true)
bits true true = (refl, refl, refl)
bits true false = (refl, refl, refl)
bits false true = (refl, refl, refl)
bits false false = (refl, refl, refl)

-- the cell of the cycle counter: how long it makes the image, and that it is found again
cell_length : (f : Profile) (count : ℕ) → 60 + length (cycle_cell f count) ≡ image_size_of f
cell_length Ds2781 count = refl
cell_length Ds2775 count = refl

cell_back : (f : Profile) (count : ℕ) → (counts_cycles f ≡ false → count ≡ 0) → pick (counts_cycles f) (get_or (cycle_cell f count) 0 0) 0 ≡ count
cell_back Ds2781 count none = sym (none refl)
cell_back Ds2775 count none = refl

few : (f : Profile) → image_size_of f ≤ 61
few Ds2781 = omega arith
few Ds2775 = omega arith

-- no image is longer than one of kind 8
pub size_few : (g : Gauge) → size_for g ≤ 61
size_few g = few g.meter.cells.profile

pub end_length : (g : Gauge) → 56 + length (image_end g) ≡ size_for g
end_length g = omega (arith, cell_length g.meter.cells.profile g.meter.cells.saved.cycles)

-- what stands in the image of a gauge
record Holds (g : Gauge) (p : List ℕ) : Type 0 where
  size : length p ≡ size_for g
  address : image_address p ≡ g.common.address
  label : image_label p ≡ g.label.eeprom
  block : image_block p ≡ g.meter.cells.block.eeprom
  byte : (i : ℕ) → get_or p (acr_at + i) 0 ≡ get_or (image_end g) i 0

image_holds : (g : Gauge) → Sized g → Holds g (bytes_of g)
unfolding bytes_of
image_holds g z =
    let a = g.common.address in
    let e = g.label.eeprom in
    let b = g.meter.cells.block.eeprom in
    record {
      size = joint_length a e b (image_end g) z.address z.label.eeprom z.block.eeprom ∙ end_length g;
      address = joint_address a e b (image_end g) z.address z.label.eeprom z.block.eeprom;
      label = joint_label a e b (image_end g) z.address z.label.eeprom z.block.eeprom;
      block = joint_block a e b (image_end g) z.address z.label.eeprom z.block.eeprom;
      byte = joint_byte a e b (image_end g) z.address z.label.eeprom z.block.eeprom;
    }

-- read in again it is a power-on
pub round_trip : (g : Gauge) → Sized g → Uncounted g → image_of g.meter.cells.profile (bytes_of g) ≡ power_on_of g
unfolding image_of power_on_of powered_of
round_trip g z none =
    let p = image_holds g z in
    let l = bits g.meter.cells.locks.bl1 g.common.bl0 in
    let acr : pair_at (bytes_of g) 56 ≡ g.meter.cells.saved.acr = omega (arith, p.byte 0, p.byte 1) in
    let cell = cell_back g.meter.cells.profile g.meter.cells.saved.cycles (λ e. (none e).saved) in
    rw (p.address, p.label, p.block, acr, p.byte 2, p.byte 3, p.byte 4, cell, l.0, l.1) refl

-- and judged by the breakpoints in the EEPROM, where the address is one
pub image_judged : (g : Gauge) → Sized g → let f = g.meter.cells.profile in addressed_of f g.common.address ≡ true
    → judged_by f (bytes_of g) ≡ pick (ordered_of (breaks_of g.meter.cells.block.eeprom)) (Ok (Image f)) (Err Breaks)
unfolding judged_among
image_judged g z h =
    let p = image_holds g z in
    rw (eq-eqb (length (bytes_of g)) (size_for g) p.size, p.address, h, p.block, p.byte 3, (bits g.meter.cells.locks.bl1 g.common.bl0).2) refl

pub image_length : (g : Gauge) → Sized g → length (bytes_of g) ≡ size_for g
image_length g z = (image_holds g z).size
