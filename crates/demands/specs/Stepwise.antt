-- ONE RECORD AT A TIME: a run is its steps one after another, so that it can be stopped anywhere and carried on.
--
-- Stated of any run. With a reply room of its own, of `own` bytes, no record is refused for what others replied.
use Rattle.std.specs.Prelude.{◌≡◌, List, ℕ, ◌*◌, ◌≤◌, length}
use Rattle.runs.specs.Record.{Rec}
use Rattle.runs.specs.Run.{Did, lines_after, end_after}
use Rattle.runs.specs.Step.{StepByStep, own_room}
use Rattle.runs.specs.Divided.{CarriedOn}

pub record Stepwise {S : Type 0} (did : S → ℕ → Rec → Did S) (own : ℕ) : Type 0 where
  -- a run is its steps, and one over two lists of records is one over the first, and from where that ends one over the second
  pub steps : StepByStep did
  -- no record asks more room than its own
  pub enough : (σ : S) (room : ℕ) (r : Rec) → own ≤ room → did σ room r ≡ did σ own r
  -- records with rooms of their own have the lines and the end of a run with room for them all
  pub roomy_lines : (σ : S) (room : ℕ) (rs : List Rec) → own * length rs ≤ room → lines_after did σ room rs ≡ lines_after (own_room own did) σ own rs
  pub roomy_end : (σ : S) (room : ℕ) (rs : List Rec) → own * length rs ≤ room → end_after did σ room rs ≡ end_after (own_room own did) σ own rs
  -- and those of one run, wherever they are stopped and carried on from the state there
  pub carried_on : CarriedOn did own
