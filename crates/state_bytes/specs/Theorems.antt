-- What is proved of the state as bytes: out and in undo each other.
use Rattle.std.specs.Prelude.{◌≡◌, Ok, List, ℕ}
use Rattle.gauge.specs.Gauge.{Sized, Uncounted}
use Rattle.runs.specs.declared.Session.{Session}
use Rattle.runs.specs.SessionRecord.{SessionWf}
use Rattle.tray_record.specs.declared.Tray.{Tray}
use Rattle.tray_record.specs.Tray.{pack_of, TrayWf}
use Rattle.state_bytes.specs.State.{state_bytes, state_in, number_in, session_in}
use Rattle.state_bytes.specs.TrayState.{tray_state_bytes, tray_state_in, tray_in}

-- a well-formed state: what every record keeps
pub record StateWf (σ : Session) : Type 0 where
  pub wf : SessionWf σ
  pub sized : Sized σ.gauge
  pub uncounted : Uncounted σ.gauge

pub record Undoing : Type 0 where
  -- the bytes of a well-formed state are accepted, and give it back
  pub back : (σ : Session) → StateWf σ → state_in (state_bytes σ) ≡ Ok σ
  -- bytes that are accepted give a well-formed state, and are its bytes
  pub forth : (b : List ℕ) → number_in (state_in b) ≡ 0 → state_bytes (session_in (state_in b)) ≡ b
  pub sound : (b : List ℕ) → number_in (state_in b) ≡ 0 → StateWf (session_in (state_in b))

-- a well-formed tray: what every record keeps, of each place too that has no pack
pub record TrayStateWf (τ : Tray) : Type 0 where
  pub wf : TrayWf τ
  pub sized : (i : ℕ) → Sized (pack_of τ i)
  pub uncounted : (i : ℕ) → Uncounted (pack_of τ i)

pub record TrayUndoing : Type 0 where
  -- the bytes of a well-formed tray are accepted, and give it back
  pub back : (τ : Tray) → TrayStateWf τ → tray_state_in (tray_state_bytes τ) ≡ Ok τ
  -- bytes that are accepted give a well-formed tray, and are its bytes
  pub forth : (b : List ℕ) → number_in (tray_state_in b) ≡ 0 → tray_state_bytes (tray_in (tray_state_in b)) ≡ b
  pub sound : (b : List ℕ) → number_in (tray_state_in b) ≡ 0 → TrayStateWf (tray_in (tray_state_in b))
