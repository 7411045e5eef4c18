-- What holds of whatever is run, of a tray.
use mathlib.Core.Path.{◌≡◌, refl}
use Prim.Native.Nat.{ℕ}
use Rattle.runs.specs.Record.{cut}
use Rattle.runs.specs.Run.{Fits, RunLaws, silently}
use Rattle.runs.proofs.AnyRecord.{record_fits}
use Rattle.tray_record.specs.declared.Tray.{Tray}
use Rattle.tray_record.specs.Tray.{of_tray, tray_did}
use Rattle.tray_record.proofs.Hearing.{tray_replying}

cut_idle : (τ : Tray) (room : ℕ) → tray_did τ room cut ≡ silently τ 2
unfolding tray_did
cut_idle τ room = refl

fits : Fits tray_did
unfolding tray_did
fits = record { answer = (record_fits of_tray tray_replying).answer; reply = (record_fits of_tray tray_replying).reply }

pub tray_laws : RunLaws tray_did
tray_laws = record { fits = fits; cut_idle = cut_idle }
