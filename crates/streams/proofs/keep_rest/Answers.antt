-- `streams::keep_rest` meets its contract: the library's copy within a slice is what was to be put at the front.
use mathlib.Core.Path.{◌≡◌, refl, sym, ap, ◌∙◌}
use mathlib.Core.List.{◌++◌}
use Prim.Native.Nat.{ℕ, ◌-◌}
use native.Mathlib.Nat.{zero-add}
use native.Mathlib.Omega.{arith}
use lib.ListN.{length, drop, take, take-append-drop}
use lib.Seq.{length-take-le}
use Rattle.slices.specs.Slices.{part}
use Rattle.slices.proofs.Laws.{put_front, part_length}
use Rattle.slices.specs.Slices.{put}
use Rattle.streams.proofs.keep_rest.Goals as goal

-- what stands at the front already
pub returns-then-from-eq0 : goal.returns-then-from-eq0
returns-then-from-eq0 c =
    let room = c.args.room.now in
    let end = c.args.end in
    let size : length (take end room) ≡ end = length-take-le end room c.requires in
    let same : put room 0 (take end room) ≡ room =
    put_front room (take end room) (omega (arith, size)) ∙ ap (λ (k : ℕ). take end room ++ drop k room) size ∙ take-append-drop end room in
    let all : end - 0 ≡ end = omega arith in
    rw c.if-from-eq0.true (record { counted = sym all; written = rw all (sym same) })

pub returns : goal.returns
returns c =
    let room = c.args.room.now in
    let n = c.args.end - c.args.from in
    let size = part_length n room c.args.from (omega (arith, c.requires, c.if-end-from.false)) in
    let front = put_front room (part n room c.args.from) (omega (arith, size, c.requires)) in
    record {
      counted = refl;
      written = c.copy_within.ensures.after ∙ sym (front ∙ ap (λ (k : ℕ). part n room c.args.from ++ drop k room) (size ∙ sym (zero-add n)));
    }
