use mathlib.Core.Path.{refl, sym, ap, ◌∙◌}
use mathlib.Core.Bool.{Bool}
use mathlib.Core.List.{List, ◌++◌}
use Prim.Native.Nat.{ℕ}
use native.Mathlib.Omega.{arith}
use borrow.Author.Tests.{le-leb, lt-leb}
use lib.ListN.{drop}
use Rattle.std.specs.Prelude.{Ok}
use Rattle.slices.specs.Slices.{put}
use Rattle.slices.proofs.Laws.{put_next}
use Rattle.gauge.specs.Image.{size_or, room_after, tail_of, cycle_cell, image_end, bytes_of, size_for}
use Rattle.gauge.proofs.Image.{joint_put, end_length}
use Rattle.gauge.proofs.image_out.Goals as goal

pub returns-then-room-size : goal.returns-then-room-size
returns-then-room-size c = let short = lt-leb _ _ (rw c.image_size-size.ensures.value at c.if-room-size.true) in
    record { fits = simp short; written = simp short }

pub returns : goal.returns
unfolding bytes_of
returns c =
    let g = c.args.gauge in
    let room = c.args.room.now in
    let fits = rw c.image_size-size.ensures.value at c.if-room-size.false in
    let e = le-leb (size_for g) _ fits in
    let three = c.store_array-3.new.dst in
    let cells = c.store_array-4.ensures.written ∙ ap (λ (l : List ℕ). put three 56 l) c.tail.ensures in
    let cell = cycle_cell g.meter.cells.profile g.meter.cells.saved.cycles in
    let end = c.cycles_out.ensures ∙ ap (λ (l : List ℕ). put l 60 cell) cells ∙ put_next three 56 60 (tail_of g) cell refl in
    let bytes =
    joint_put g.common.address g.label.eeprom g.meter.cells.block.eeprom (image_end g)
    c.store_array.ensures.sized c.store_array-2.ensures.sized c.store_array-3.ensures.sized room (omega (arith, fits, end_length g)) in
    record {
      fits = ap Ok c.image_size-size.ensures.value ∙ ap (λ (b : Bool). size_or b g) (sym e);
      written =
          end
          ∙ rw (c.store_array-3.ensures.written, c.store_array-2.ensures.written, c.store_array.ensures.written) bytes
          ∙ ap (λ (n : ℕ). bytes_of g ++ drop n room) (end_length g)
          ∙ ap (λ (b : Bool). room_after b g room) (sym e);
    }
