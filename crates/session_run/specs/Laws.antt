-- What holds of whatever is run, of a session.
use mathlib.Core.Path.{◌≡◌, refl}
use Prim.Native.Nat.{ℕ}
use Rattle.runs.specs.Record.{cut}
use Rattle.runs.specs.Run.{RunLaws, silently}
use Rattle.runs.specs.declared.Session.{Session}
use Rattle.runs.specs.SessionRecord.{did_of}
use Rattle.runs.proofs.AnyRecord.{did_fits}

cut_idle : (σ : Session) (room : ℕ) → did_of σ room cut ≡ silently σ 2
unfolding did_of
cut_idle σ room = refl

pub session_laws : RunLaws did_of
session_laws = record { fits = did_fits; cut_idle = cut_idle }
