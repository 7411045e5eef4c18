use mathlib.Core.Path.{ap}
use mathlib.Core.List.{[], ◌∷◌}
use Prim.Native.Nat.{ℕ}
use Rattle.state_bytes.specs.TrayState.{tray_state_bytes}
use Rattle.state_bytes.proofs.Laws.{stored_then, stored_as}
use Rattle.state_bytes.proofs.put_tray_state.Goals as goal

pub returns : goal.returns
unfolding tray_state_bytes
returns c = stored_then {l = c.args.room.now} {i = 0}
    (stored_as (ap (λ (b : ℕ). 129 ∷ c.args.tray.count ∷ b ∷ []) c.flag.ensures) c.store_array.ensures) c.places_out.ensures
