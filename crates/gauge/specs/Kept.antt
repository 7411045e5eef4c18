-- What every event keeps.
use Rattle.std.specs.Prelude.{List, ℕ}
use Rattle.bus.specs.declared.Transaction.{Transaction}
use Rattle.record.specs.declared.Change.{Change}
use Rattle.gauge.specs.declared.Gauge.{Gauge}
use Rattle.gauge.specs.Change.{changed_of}
use Rattle.gauge.specs.Act.{act_of}

-- what holds before an event, a change or a transaction, holds after it
pub record Kept (P : Gauge → Type 0) : Type 0 where
  pub change : (g : Gauge) (c : Change) → P g → P (changed_of g c)
  pub act : (g : Gauge) (t : Transaction) (master : List ℕ) → P g → P (act_of g t master)
