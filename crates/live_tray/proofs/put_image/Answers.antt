-- `live_tray::put_image` meets its contract.
use native.Mathlib.Omega.{arith}
use Rattle.text.proofs.TakenOut.{handed, refused}
use Rattle.live_tray.specs.LiveTray.{empty_slot_words}
use Rattle.live_tray.proofs.put_image.Goals as goal

pub returns-in-Ok : goal.returns-in-Ok
returns-in-Ok c = handed c.take_out.ensures (omega (arith, c.requires)) empty_slot_words c.in-Ok.is c.take_out.auto.room

pub returns-in-Err : goal.returns-in-Err
returns-in-Err c =
    refused c.take_out.ensures (omega (arith, c.requires)) empty_slot_words c.in-Err.is (rw c.from.ensures at c.put_refused.ensures)
