-- The loop of `serve`: the rooms keep their lengths, what is held fits its room, and the numbers are far from wrapping.
use mathlib.Core.Path.{◌≡◌}
use mathlib.Core.List.{List}
use Prim.Native.Nat.{ℕ, ◌+◌, ◌*◌, ◌≤◌}
use lib.ListN.{length}
use Rattle.tray_record.specs.declared.Tray.{Tray}
use Rattle.tray_record.specs.Tray.{TrayWf}

pub record TrayServing (bytes₀ replies₀ answers₀ out₀ bytes replies answers out : List ℕ) (tray : Tray) (count number turn : ℕ) : Type 0 where
  pub wf : TrayWf tray
  pub held : length bytes ≡ length bytes₀
  pub replied : length replies ≡ length replies₀
  pub told : length answers ≡ length answers₀
  pub text : length out ≡ length out₀
  pub within : count ≤ length bytes₀
  pub numbered : number ≤ 1 + 1024 * turn
