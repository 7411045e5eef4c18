-- `tray::printed` meets its contract: the text of what was read is the text of the whole input.
use Rattle.tray_record.specs.Tray.{empty_tray, tray_did}
use Rattle.tray_run.specs.TrayRun.{tray_lines}
use Rattle.text.specs.Session.{session_speech}
use Rattle.text.proofs.Printed.{session_alike}
use Rattle.tray.proofs.printed.Goals as goal

pub returns : goal.returns
unfolding tray_lines
returns c =
    record {
      by_index = c.put_answer.ensures.by_index (session_speech tray_did empty_tray) (λ bytes room said after told. told)
          (rw c.requires.input_room (session_alike tray_did empty_tray));
    }
