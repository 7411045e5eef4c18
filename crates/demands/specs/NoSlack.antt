-- PROMISES THAT LEAVE NO SLACK, of the functions that the theorems speak of.
--
-- "Each public function says what comes back and what every lent buffer holds, refusals too; that any two results it allows are equal is proved".
-- `Once` says that of a function's own contract. docs/PROMISES.md has it of every public function.
use Rattle.std.specs.Prelude.{◌≡◌}
use contract.Lifetimes.{Lfts}
use denote.Triple.Entry.{Args, Res}
use denote.Triple.Clauses.{Lasts, at_exit}
use Rattle.numbers.specs.Once.{Once}
use Rattle.crc.proofs.crc as checker
use Rattle.crc.specs.contracts.crc as checker'
use Rattle.session_run.proofs.run as session
use Rattle.session_run.specs.contracts.run as session'
use Rattle.session_run.proofs.take_out as image
use Rattle.session_run.specs.contracts.take_out as image'
use Rattle.tray_run.proofs.run as tray
use Rattle.tray_run.specs.contracts.run as tray'
use Rattle.tray_run.proofs.take_out as slot
use Rattle.tray_run.specs.contracts.take_out as slot'
use Rattle.samples.proofs.plain as repeater
use Rattle.samples.specs.contracts.plain as repeater'
use Rattle.samples.proofs.quick as stretcher
use Rattle.samples.specs.contracts.quick as stretcher'
use Rattle.preset_session.proofs.write_session as programmer
use Rattle.preset_session.specs.contracts.write_session as programmer'
use Rattle.mending.proofs.mend as mender
use Rattle.mending.specs.contracts.mend as mender'
use Rattle.mending.proofs.changes as lister
use Rattle.mending.specs.contracts.changes as lister'
use Rattle.intel_hex.proofs.export_label as labeller
use Rattle.intel_hex.specs.contracts.export_label as labeller'
use Rattle.intel_hex.proofs.write_text as exporter
use Rattle.intel_hex.specs.contracts.write_text as exporter'
use Rattle.intel_hex.proofs.read_text as importer
use Rattle.intel_hex.specs.contracts.read_text as importer'

pub record NoSlack : Type 0 where
  pub crc : Once checker'.ended checker.Reads.Pre checker.Reads.Learnt
  pub run : Once session'.ended session.Reads.Pre session.Reads.Learnt
  pub take_out : Once image'.ended image.Reads.Pre image.Reads.Learnt
  pub tray_run : Once tray'.ended tray.Reads.Pre tray.Reads.Learnt
  pub slot_out_lem : Once slot'.ended slot.Reads.Pre slot.Reads.Learnt
  pub plain : Once repeater'.ended repeater.Reads.Pre repeater.Reads.Learnt
  pub quick : Once stretcher'.ended stretcher.Reads.Pre stretcher.Reads.Learnt
  pub write_session : Once programmer'.ended programmer.Reads.Pre programmer.Reads.Learnt
  pub mend : Once mender'.ended mender.Reads.Pre mender.Reads.Learnt
  pub changes : Once lister'.ended lister.Reads.Pre lister.Reads.Learnt
  pub write_text : Once exporter'.ended exporter.Reads.Pre exporter.Reads.Learnt
  pub read_text : Once importer'.ended importer.Reads.Pre importer.Reads.Learnt
  -- `intel_hex::export_label` hands back a part of what it was lent: a place, which its lifetime says, and the bytes there, which are these and no others
  pub export_label_lem : (κs : Lfts (labeller'.ended).signature.lifetimes) (a : Args (labeller'.ended).signature κs)
      (r r' : Res (labeller'.ended).signature κs) (w w' : Lasts labeller'.ended κs a)
      → labeller.Reads.Pre κs a → labeller.Reads.Learnt κs a r (at_exit labeller'.ended κs a w) →
      labeller.Reads.Learnt κs a r' (at_exit labeller'.ended κs a w')
      → (r.now ≡ r'.now) × (w ≡ w')
