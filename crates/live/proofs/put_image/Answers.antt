-- `live::put_image` meets its contract.
use native.Mathlib.Omega.{arith}
use Rattle.text.specs.Session.{OutOf}
use Rattle.text.proofs.TakenOut.{handed, refused}
use Rattle.live.specs.Live.{unloaded_words}
use Rattle.live.proofs.put_image.Goals as goal

pub returns-in-Ok : goal.returns-in-Ok
returns-in-Ok c =
    let a = c.args in
    let out : OutOf a.session.loaded a.session.gauge a.room.now c.take_out.result c.take_out.new.room =
    record { value = c.take_out.ensures.value; written = c.take_out.ensures.taken_out.written } in
    handed out (omega (arith, c.requires)) unloaded_words c.in-Ok.is c.take_out.auto.room

pub returns-in-Err : goal.returns-in-Err
returns-in-Err c =
    let a = c.args in
    let out : OutOf a.session.loaded a.session.gauge a.room.now c.take_out.result c.take_out.new.room =
    record { value = c.take_out.ensures.value; written = c.take_out.ensures.taken_out.written } in
    refused out (omega (arith, c.requires)) unloaded_words c.in-Err.is (rw c.from.ensures at c.put_refused.ensures)
