-- `live_tray::ended` meets its contract.
use mathlib.Core.Path.{ap}
use mathlib.Core.List.{List, [], ◌∷◌}
use Prim.Native.Nat.{ℕ}
use native.Mathlib.Omega.{arith}
use lib.ListN.{length, take, length-take}
use borrow.Author.Rules.{rules}
use Rattle.streams.proofs.Pages.{said_of_output}
use Rattle.text.proofs.Going.{most_long}
use Rattle.text.proofs.Live.{cut_coded}
use Rattle.live_tray.specs.LiveTray.{tray_end_speech}
use Rattle.live_tray.proofs.ended.Goals as goal

pub returns-then-failed : goal.returns-then-failed
unfolding tray_end_speech
returns-then-failed c = rw c.if-failed.true c.put_unread.ensures

pub put_codes-requires-clause-replies_in_bounds : goal.put_codes-requires-clause-replies_in_bounds
put_codes-requires-clause-replies_in_bounds c =
    let code : List ℕ = 131072 ∷ [] in
    let few = length-take c.min-few.result code in
    omega (
      arith,
      few,
      most_long c.args.number (length (take c.min-few.result code)) 0,
      ap length c.new-page.ensures.same,
      c.new-page.ensures.front,
      c.requires.in_bounds,
    )

pub returns : goal.returns
unfolding tray_end_speech
returns c =
    let line = rw (cut_coded c.args.number c.args.left c.min-few.result c.min-few.ensures) at c.put_codes.ensures in
    rw c.if-failed.false (said_of_output c.new-page.ensures line (search rules))
