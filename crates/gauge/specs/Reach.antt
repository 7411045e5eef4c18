-- The gauges that events reach from an accepted image.
use Rattle.std.specs.Prelude.{◌≡◌, List, ℕ, Ok}
use Rattle.state.specs.declared.Profile.{Profile}
use Rattle.bus.specs.declared.Transaction.{Transaction}
use Rattle.gauge.specs.declared.Gauge.{Gauge}
use Rattle.gauge.specs.Change.{changed_of}
use Rattle.gauge.specs.Act.{act_of}
use Rattle.record.specs.declared.Change.{Change}
use Rattle.record.specs.declared.Event.TheVariants.{Image}
use Rattle.record.specs.Record.{judged_by}
use Rattle.gauge.specs.Image.{image_of}

pub data Reached : Gauge → Type 0 where
  accepted : (f : Profile) (p : List ℕ) → judged_by f p ≡ Ok (Image f) → Reached (image_of f p)
  changed : (g : Gauge) (c : Change) → Reached g → Reached (changed_of g c)
  acted_on : (g : Gauge) (t : Transaction) (master : List ℕ) → Reached g → Reached (act_of g t master)
