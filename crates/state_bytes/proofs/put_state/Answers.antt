use mathlib.Core.Path.{ap}
use mathlib.Core.List.{[], ◌∷◌}
use Prim.Native.Nat.{ℕ}
use Rattle.state_bytes.specs.State.{state_bytes}
use Rattle.state_bytes.proofs.Laws.{stored_then, stored_as}
use Rattle.state_bytes.proofs.put_state.Goals as goal

pub returns : goal.returns
unfolding state_bytes
returns c = let room = c.args.room.now in
    stored_then {l = room} {i = 0} (stored_as (ap (λ (b : ℕ). 1 ∷ b ∷ []) c.flag.ensures) c.store_array.ensures) c.gauge_out.ensures
