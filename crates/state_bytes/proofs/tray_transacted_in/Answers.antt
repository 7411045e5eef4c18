use mathlib.Core.Path.{◌≡◌, sym, ap, ◌∙◌}
use mathlib.Core.List.{List, ◌++◌}
use Prim.Native.Nat.{ℕ}
use native.Mathlib.Omega.{arith}
use lib.ListN.{length, drop}
use Rattle.tray_record.specs.Tray.{tray_reach, tray_acted, tray_reply}
use Rattle.tray_record.proofs.Answering.{changing_high}
use Rattle.state_bytes.specs.TrayState.{tray_at}
use Rattle.state_bytes.specs.Places.{TrayBecame}
use Rattle.state_bytes.proofs.TrayPlaces.{held_long}
use Rattle.state_bytes.proofs.TrayActing.{closes, tray_stays}
use Rattle.state_bytes.proofs.tray_transacted_in.Goals as goal
use Rattle.state_bytes.proofs.tray_transacted_in.Goals.{then-changing, else-changing}

pub bounds-state-2 : goal.bounds-state-2
bounds-state-2 c =
    let state-long : length c.if-changing.state ≡ length c.args.state.now =
    elim c.if-changing.branch [ then-changing w ↦ ap length w.state-is ∙ w.packs_changed_in.auto.state | else-changing w ↦ ap length w.state-is ] in
    omega (arith, held_long c.args.state.now c.requires.state_value, state-long)

pub returns : goal.returns
returns c =
    let a = c.args in
    let τ = tray_at a.state.now in
    let test = sym c.changing.ensures in
    let high = changing_high a.transaction τ a.master.now in
    let acted : TrayBecame (tray_acted a.transaction a.master.now (tray_reach τ a.transaction a.master.now) τ) c.if-changing.state =
    elim c.if-changing.branch [
      | then-changing w ↦ rw w.state-is w.packs_changed_in.ensures
      | else-changing w ↦ tray_stays a.transaction a.master.now a.state.now c.requires.state_value (test ∙ w.if-changing.false) w.state-is
    ] in
    let replied : c.if-changing.room ≡ tray_reply a.transaction a.master.now (tray_reach τ a.transaction a.master.now) τ
    ++ drop a.transaction.count a.room.now =
    elim c.if-changing.branch [
      | then-changing w ↦
          w.room-is ∙ w.unheard.ensures
          ∙ ap (λ (l : List ℕ). l ++ drop a.transaction.count a.room.now) (high (test ∙ w.if-changing.true))
      | else-changing w ↦ w.room-is ∙ w.packs_heard_in.ensures
    ] in
    record { became = closes acted; replied = replied }
