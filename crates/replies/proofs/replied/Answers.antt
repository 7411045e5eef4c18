-- `replies::replied` meets its contract: it fills the front of the room.
use mathlib.Core.Path.{◌≡◌, sym, ap, ◌∙◌}
use mathlib.Core.Bool.{Bool}
use mathlib.Core.List.{List, ◌++◌}
use Prim.Native.Nat.{ℕ, ◌≤◌}
use lib.ListN.{length, take, drop}
use lib.Seq.{length-take-le}
use Rattle.state.specs.declared.Meter.{Meter}
use Rattle.state.specs.declared.Common.{Common}
use Rattle.state.specs.declared.Label.{Label}
use Rattle.bus.specs.declared.Transaction.{Transaction}
use Rattle.replies.specs.declared.Source.{Source}
use Rattle.replies.specs.Reply.{reply_source_of, source_byte, listed, replied_of}
use Rattle.replies.proofs.replied.Goals as goal

front : (k : Common) (l : Label) (m : Meter) (t : Transaction) (chosen : Bool) (source : Source) (room after : List ℕ)
    → source ≡ reply_source_of chosen m.cells.block.shadow t → t.count ≤ length room
    → after ≡ listed (source_byte k l m source) 0 (length (take t.count room))
    → after ++ drop t.count room ≡ replied_of chosen k l m t ++ drop t.count room
front k l m t chosen source room after e fits h =
    ap (λ (r : List ℕ). r ++ drop t.count room)
    (h ∙ (λ i. listed (source_byte k l m (e i)) 0 (length-take-le t.count room fits i)))

pub slice_bounds-filled-end-2 : goal.slice_bounds-filled-end-2
slice_bounds-filled-end-2 c = sym (length-take-le c.args.transaction.count c.args.room.now c.requires.count_in_bounds)

pub returns : goal.returns
returns c = let a = c.args in
    front a.common a.label a.meter a.transaction a.chosen _ a.room.now _ c.reply_source-source.ensures c.requires.count_in_bounds
    c.filled.ensures
