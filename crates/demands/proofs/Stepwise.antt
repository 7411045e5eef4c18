-- One record at a time, of sessions and of trays: no record asks more than 256 bytes of reply.
use mathlib.Core.Path.{◌≡◌}
use Prim.Native.Nat.{ℕ, ◌≤◌}
use Rattle.runs.specs.Record.{Rec}
use Rattle.runs.specs.Run.{Did, Fits}
use Rattle.runs.specs.SessionRecord.{did_of}
use Rattle.runs.proofs.AnyRecord as session
use Rattle.runs.proofs.OwnRoom.{did_own}
use Rattle.runs.proofs.Steps.{step_by_step, roomy_lines, roomy_end}
use Rattle.runs.proofs.Divided.{carried_on}
use Rattle.tray_record.specs.Tray.{tray_did}
use Rattle.tray_run.proofs.Turns as tray
use Rattle.tray_run.proofs.OwnRoom.{tray_own}
use Rattle.demands.specs.Stepwise.{Stepwise}

stepwise : {S : Type 0} (did : S → ℕ → Rec → Did S) (own : ℕ) → Fits did → ((σ : S) (room : ℕ) (r : Rec) → own ≤ room → did σ room r ≡ did σ own r)
    → Stepwise did own
stepwise did own fits same = record {
  steps = step_by_step did;
  enough = same;
  roomy_lines = λ σ room. roomy_lines did own same (λ τ r. fits.reply τ own r) σ room own;
  roomy_end = λ σ room. roomy_end did own same (λ τ r. fits.reply τ own r) σ room own;
  carried_on = carried_on did own;
}

pub sessions_stepwise : Stepwise did_of 256
sessions_stepwise = stepwise did_of 256 session.did_fits did_own

pub trays_stepwise : Stepwise tray_did 256
trays_stepwise = stepwise tray_did 256 tray.did_fits tray_own
