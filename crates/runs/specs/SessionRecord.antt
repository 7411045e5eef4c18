-- One record of a session: what it does to the state, its answer and its reply.
use Rattle.std.specs.Prelude.{Bool, true, List, ℕ}
use Rattle.state.specs.declared.Tick.{Tick}
use Rattle.gauge.specs.declared.Gauge.{Gauge}
use Rattle.gauge.specs.Gauge.{GaugeWf}
use Rattle.gauge.specs.Change.{changed_of}
use Rattle.gauge.specs.Act.{act_of, reply_of}
use Rattle.gauge.specs.Image.{image_of}
use Rattle.record.specs.declared.Event.{Event}
use Rattle.record.specs.declared.Event.TheVariants.{Image, Change, Transact}
use Rattle.record.specs.Record.{taken_of, timed_of, master_of, Taken}
use Rattle.runs.specs.Record.{Rec}
use Rattle.runs.specs.Run.{Did, silently}
use Rattle.runs.specs.declared.Session.{Session}
use Rattle.runs.specs.AnyRecord.{Steps, answered_by, record_by}

-- ---- the state

abbrev pub loaded_with : Gauge → Session
loaded_with gauge = record { loaded = true; gauge = gauge }

-- what holds of every session (a clause, as ChargeWf)
pub record SessionWf (σ : Session) : Type 0 where
  pub gauge : GaugeWf σ.gauge

-- the tick that is remembered
abbrev pub last_tick : Session → Tick
last_tick session = session.gauge.meter.flow.tick

-- ---- what a record does

-- what it asks, by whether an image was accepted and by the tick that is remembered
abbrev pub told_of : Bool → Tick → ℕ → List ℕ → Taken
told_of loaded last kind p = timed_of last (taken_of kind loaded p)

-- an event
abbrev pub event_did : Session → List ℕ → Event → Did Session
event_did session p (Image f) = silently (loaded_with (image_of f p)) 0
event_did session p (Change c) = silently (loaded_with (changed_of session.gauge c)) 0
event_did session p (Transact t) = record {
  state = loaded_with (act_of session.gauge t (master_of t p));
  answer = 0;
  reply = reply_of session.gauge t (master_of t p);
}

abbrev pub of_session : Steps Session
of_session = record { told = λ σ. told_of σ.loaded (last_tick σ); event = event_did }

-- a refusal leaves gauge and room unchanged
abbrev pub taken_did : Session → List ℕ → Taken → Did Session
taken_did = answered_by of_session

-- with so many bytes of reply room left
unfoldable pub did_of : Session → ℕ → Rec → Did Session
did_of session room r = record_by of_session session room r
