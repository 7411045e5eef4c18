-- Each of the functions that the theorems speak of has a contract that leaves no choice.
use Rattle.crc.proofs.Unique as crc
use Rattle.session_run.proofs.Unique as session
use Rattle.tray_run.proofs.Unique as tray
use Rattle.samples.proofs.Unique as samples
use Rattle.preset_session.proofs.Unique as programmer
use Rattle.mending.proofs.Unique as mending
use Rattle.intel_hex.proofs.Unique as hex
use Rattle.demands.specs.NoSlack.{NoSlack}

pub no_slack : NoSlack
no_slack = record {
  crc = crc.crc_once;
  run = session.run_once;
  take_out = session.take_out_once;
  tray_run = tray.run_once;
  slot_out_lem = tray.take_out_once;
  plain = samples.plain_once;
  quick = samples.quick_once;
  write_session = programmer.write_session_once;
  mend = mending.mend_once;
  changes = mending.changes_once;
  write_text = hex.write_text_once;
  read_text = hex.read_text_once;
  export_label_lem = hex.export_label_once;
}
