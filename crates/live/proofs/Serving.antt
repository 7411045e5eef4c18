-- The loop of `serve`: the rooms keep their lengths, what is held fits its room, and the numbers are far from wrapping.
use mathlib.Core.Path.{◌≡◌}
use mathlib.Core.List.{List}
use Prim.Native.Nat.{ℕ, ◌+◌, ◌*◌, ◌≤◌}
use lib.ListN.{length}
use Rattle.runs.specs.declared.Session.{Session}
use Rattle.runs.specs.SessionRecord.{SessionWf}

pub record Serving (bytes₀ replies₀ answers₀ out₀ bytes replies answers out : List ℕ) (session : Session) (count number turn : ℕ) : Type 0 where
  pub wf : SessionWf session
  pub held : length bytes ≡ length bytes₀
  pub replied : length replies ≡ length replies₀
  pub told : length answers ≡ length answers₀
  pub text : length out ≡ length out₀
  pub within : count ≤ length bytes₀
  pub numbered : number ≤ 1 + 1024 * turn
