-- THE FUNCTIONS. What the theorems are stated of is what a caller learns from the contracts of the public functions, as the check reads them of the
-- code (`Reads.Learnt`): no more, and no less.
use contract.Lifetimes.{Lfts}
use Rattle.std.specs.Prelude.{◌≡◌}
use denote.Triple.Entry.{Args, Res}
use denote.Triple.Clauses.{Ended, AtExit, Lasts, at_exit}
use Rattle.runs.specs.declared.Session.{Session}
use Rattle.runs.specs.SessionRecord.{did_of}
use Rattle.runs.specs.Out.{number_in}
use Rattle.runs.specs.Run.{result_of}
use Rattle.session_run.specs.SessionRun.{empty_of, take_out_of, TakenOut}
use Rattle.tray_record.specs.declared.Tray.{Tray}
use Rattle.tray_record.specs.Tray.{empty_tray, tray_did}
use Rattle.tray_run.specs.TrayRun.{slot_out_of, SlotOut}
use Rattle.state.specs.State.{MeterWf}
use Rattle.samples.specs.Samples.{sampled_of}
use Rattle.preset_session.specs.PresetSession.{Programming}
use Rattle.mending.specs.Mending.{Mending, Listing}
use Rattle.intel_hex.specs.Export.{export_label, Exporting}
use Rattle.intel_hex.specs.Import.{Importing}
use Rattle.session_run.proofs.run as session
use Rattle.session_run.specs.contracts.run as session'
use Rattle.session_run.proofs.take_out as image
use Rattle.session_run.specs.contracts.take_out as image'
use Rattle.tray_run.proofs.run as tray
use Rattle.tray_run.specs.contracts.run as tray'
use Rattle.tray_run.proofs.take_out as slot
use Rattle.tray_run.specs.contracts.take_out as slot'
use Rattle.preset_session.proofs.write_session as programmer
use Rattle.preset_session.specs.contracts.write_session as programmer'
use Rattle.samples.proofs.plain as repeater
use Rattle.samples.specs.contracts.plain as repeater'
use Rattle.samples.proofs.quick as stretcher
use Rattle.samples.specs.contracts.quick as stretcher'
use Rattle.mending.proofs.mend as mender
use Rattle.mending.specs.contracts.mend as mender'
use Rattle.mending.proofs.changes as lister
use Rattle.mending.specs.contracts.changes as lister'
use Rattle.intel_hex.proofs.export_label as labeller
use Rattle.intel_hex.specs.contracts.export_label as labeller'
use Rattle.intel_hex.proofs.write_text as exporter
use Rattle.intel_hex.specs.contracts.write_text as exporter'
use Rattle.intel_hex.proofs.read_text as importer
use Rattle.intel_hex.specs.contracts.read_text as importer'
use Rattle.demands.specs.Call.{Call, Allowed}

-- of a function's signature: a contract, by arguments, result and what stands at the exit; and a statement, by what each lent buffer holds at the end
module _ (T : Ended) where
  abbrev pub Contract : Type 1
  Contract = (κs : Lfts T.signature.lifetimes) → Args T.signature κs → Res T.signature κs → AtExit T κs → Type 0

  abbrev pub OfCalls : Type 1
  OfCalls = (κs : Lfts T.signature.lifetimes) (a : Args T.signature κs) → Res T.signature κs → Lasts T κs a → Type 0

  pub record ContractIs (learnt : Contract) (says : OfCalls) : Type 0 where
    pub tells : (κs : Lfts T.signature.lifetimes) (a : Args T.signature κs) (r : Res T.signature κs) (w : Lasts T κs a)
        → learnt κs a r (at_exit T κs a w) → says κs a r w
    pub told : (κs : Lfts T.signature.lifetimes) (a : Args T.signature κs) (r : Res T.signature κs) (w : Lasts T κs a)
        → says κs a r w → learnt κs a r (at_exit T κs a w)

-- what was passed and lent, what came back, and what room and answers hold at the end
abbrev pub session_call : (κs : Lfts (session'.ended).signature.lifetimes) (a : Args (session'.ended).signature κs)
    → Res (session'.ended).signature κs → Lasts session'.ended κs a → Call Session
session_call κs a r w =
    record { bytes = a.0.now; room = a.1.0.now; answers = a.1.1.0.now; ran = result_of r; replies = w.1.0; told = w.1.1.0 }

abbrev pub tray_call : (κs : Lfts (tray'.ended).signature.lifetimes) (a : Args (tray'.ended).signature κs)
    → Res (tray'.ended).signature κs → Lasts tray'.ended κs a → Call Tray
tray_call κs a r w =
    record { bytes = a.0.now; room = a.1.0.now; answers = a.1.1.0.now; ran = result_of r; replies = w.1.0; told = w.1.1.0 }

pub record Contracts : Type 0 where
  -- `session_run::run` and `session_run::take_out`
  pub run : ContractIs session'.ended session.Reads.Learnt (λ κs a r w. Allowed did_of empty_of (session_call κs a r w))
  pub take_out : ContractIs image'.ended image.Reads.Learnt
      (λ κs a r w. (r ≡ take_out_of a.0 a.1.0.now) × TakenOut a.0 a.1.0.now (number_in r) w.1.0)
  -- `tray_run::run` and `tray_run::take_out`
  pub tray_run : ContractIs tray'.ended tray.Reads.Learnt (λ κs a r w. Allowed tray_did empty_tray (tray_call κs a r w))
  pub slot_out_lem : ContractIs slot'.ended slot.Reads.Learnt
      (λ κs a r w. (r ≡ slot_out_of a.0 a.1.0 a.1.1.0.now) × SlotOut a.0 a.1.0 a.1.1.0.now (number_in r) w.1.1.0)
  -- `preset_session::write_session`
  pub write_session : ContractIs programmer'.ended programmer.Reads.Learnt
      (λ κs a r w. Programming a.0.now a.1.0.now a.1.1.0.now r w.1.1.0)
  -- `samples::plain` and `samples::quick`
  pub plain : ContractIs repeater'.ended repeater.Reads.Learnt (λ κs a r w. (r ≡ sampled_of a.0 a.1.0 a.1.1.0) × MeterWf r)
  pub quick : ContractIs stretcher'.ended stretcher.Reads.Learnt (λ κs a r w. (r ≡ sampled_of a.0 a.1.0 a.1.1.0) × MeterWf r)
  -- `mending::mend` and `mending::changes`
  pub mend : ContractIs mender'.ended mender.Reads.Learnt (λ κs a r w. Mending a.0.now a.1.0.now r w.1.0)
  pub changes : ContractIs lister'.ended lister.Reads.Learnt (λ κs a r w. Listing a.0.now a.1.0.now r w.1.0)
  -- `intel_hex::export_label`, `intel_hex::write_text` and `intel_hex::read_text`
  pub export_label_lem : ContractIs labeller'.ended labeller.Reads.Learnt (λ κs a r w. r.now ≡ export_label a.0.now a.1.0.now)
  pub write_text : ContractIs exporter'.ended exporter.Reads.Learnt
      (λ κs a r w. Exporting a.0.now a.1.0.now a.1.1.0.now r w.1.1.0)
  pub read_text : ContractIs importer'.ended importer.Reads.Learnt (λ κs a r w. Importing a.0.now a.1.0.now r w.1.0)
