-- `live::text_room` meets its contract.
use mathlib.Core.Path.{sym}
use Prim.Native.Nat.{ℕ}
use lib.ListN.{length-replicate}
use Rattle.live.proofs.text_room.Goals as goal

pub returns : goal.returns
returns c = sym (length-replicate {A = ℕ} 557056 0)
