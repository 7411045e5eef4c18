-- The image taken out, by number, proved.
use mathlib.Core.Path.{◌≡◌, ap}
use mathlib.Core.Bool.{true}
use mathlib.Core.List.{List}
use Prim.Native.Nat.{ℕ, ◌≤◌, ◌<◌}
use borrow.Author.Tests.{le-leb}
use lib.ListN.{length}
use Rattle.state.specs.State.{image_size_of}
use Rattle.gauge.specs.declared.Gauge.{Gauge}
use Rattle.gauge.specs.Image.{size_for}
use Rattle.gauge.specs.Reach.{Reached}
use Rattle.gauge.proofs.Image.{image_length}
use Rattle.gauge.proofs.Reached.{reached_sized}
use Rattle.runs.specs.Record.{recs_of}
use Rattle.runs.specs.declared.Session.{Session}
use Rattle.runs.specs.SessionRecord.{did_of}
use Rattle.session_run.specs.SessionRun.{empty_of, TakenOut}
use Rattle.session_run.proofs.TakeOut as session
use Rattle.tray_record.specs.declared.Tray.{Tray}
use Rattle.tray_record.specs.Tray.{empty_tray, pack_of, tray_did}
use Rattle.tray_run.specs.TrayRun.{slot_held, SlotOut}
use Rattle.tray_run.proofs.TakeOut as slot
use Rattle.demands.specs.Call.{Call, Within}
use Rattle.demands.specs.TakeOut.{Fills, WrittenOut, OutAnswers}
use Rattle.demands.proofs.Choice.{contrary}
use Rattle.demands.proofs.Reached.{end_reached}
use Rattle.demands.proofs.Moments.{running}
use Rattle.demands.proofs.Filled.{end_filled}

-- An image fills its first bytes

fills : (g : Gauge) → Reached g → Fills g
fills g reached = image_length g (reached_sized g reached)

session_fills : (d : Call Session) → Within did_of empty_of d → d.ran.state.loaded ≡ true → Fills d.ran.state.gauge
session_fills d run loaded =
    let s = (running did_of empty_of run).state in
    fills d.ran.state.gauge (rw s (end_reached empty_of (length d.room) (recs_of d.bytes) (λ z. contrary cc) (rw s at loaded)))

slot_fills : (d : Call Tray) (i : ℕ) → Within tray_did empty_tray d → i < d.ran.state.count → Fills (pack_of d.ran.state i)
slot_fills d i run low =
    let s = (running tray_did empty_tray run).state in
    fills (pack_of d.ran.state i) (rw s ((end_filled (length d.room) (recs_of d.bytes)).reached i (rw s at low)))

-- The room after it

written : (σ : Session) (room : List ℕ) (answer : ℕ) (after : List ℕ) → TakenOut σ room answer after
    → σ.loaded ≡ true → size_for σ.gauge ≤ length room → WrittenOut σ.gauge room answer after
written σ room answer after t e fits =
    let large = le-leb (size_for σ.gauge) (length room) fits in (rw (e, large) at t.number, rw (e, large) at t.written)

slot_written : (τ : Tray) (i : ℕ) (room : List ℕ) (answer : ℕ) (after : List ℕ) → SlotOut τ i room answer after
    → slot_held τ i ≡ true → size_for (pack_of τ i) ≤ length room → WrittenOut (pack_of τ i) room answer after
slot_written τ i room answer after t e fits =
    let large = le-leb (size_for (pack_of τ i)) (length room) fits in (rw (e, large) at t.number, rw (e, large) at t.written)

pub out_answers : OutAnswers
out_answers = record {
  sixty = λ g e. ap image_size_of e;
  sixty_one = λ g e. ap image_size_of e;
  fills = fills;
  session_fills = session_fills;
  slot_fills = slot_fills;
  unaccepted = λ σ room answer after t. session.unaccepted_says_5 t;
  short = λ σ room answer after t. session.short_says_9 t;
  done = written;
  slot_empty = λ τ i room answer after t. slot.empty_says_5 t;
  slot_short = λ τ i room answer after t. slot.short_says_9 t;
  slot_done = slot_written;
}
