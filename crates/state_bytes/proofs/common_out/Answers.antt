use mathlib.Core.Path.{ap}
use mathlib.Core.List.{[], ◌∷◌}
use Prim.Native.Nat.{ℕ}
use Rattle.state_bytes.proofs.Laws.{stored_then, stored_as}
use Rattle.state_bytes.proofs.common_out.Goals as goal

pub returns : goal.returns
returns c = stored_then c.store_array.ensures (stored_as (ap (λ (b : ℕ). b ∷ []) c.flag.ensures) c.store_array-2.ensures)
