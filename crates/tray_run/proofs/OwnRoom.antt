-- No record of a tray asks more than 256 bytes of reply, so that with as much of its own none is refused for the room.
use mathlib.Core.Path.{◌≡◌, subst}
use Prim.Native.Nat.{ℕ, ◌≤◌}
use native.Mathlib.Omega.{arith}
use Rattle.record.specs.declared.Event.TheVariants.{Image, Change, Transact}
use Rattle.runs.specs.Record.{Rec}
use Rattle.runs.proofs.OwnRoom.{Modest, record_same}
use Rattle.tray_record.specs.declared.Tray.{Tray}
use Rattle.tray_record.specs.Tray.{again_of, of_tray, tray_did}
use Rattle.tray_record.proofs.Taking.{TrayTaking, tray_taking}

tray_modest : Modest of_tray 256
tray_modest τ kind p (Image f) told = omega arith
tray_modest τ kind p (Change c) told = omega arith
tray_modest τ kind p (Transact t) told = (subst (TrayTaking τ.count τ.closed p (again_of τ p)) told (tray_taking τ kind p)).1.few

pub tray_own : (τ : Tray) (room : ℕ) (r : Rec) → 256 ≤ room → tray_did τ room r ≡ tray_did τ 256 r
unfolding tray_did
tray_own = record_same of_tray 256 tray_modest
