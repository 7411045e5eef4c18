-- One record of a run, of any state: what it asks in a state, what it then does, and what the code reads off it.
use Rattle.std.specs.Prelude.{List, ℕ, Ok, Err, Some, None}
use Rattle.record.specs.declared.Event.{Event}
use Rattle.record.specs.Record.{refusal_number, fitted_of, Taken}
use Rattle.runs.specs.Record.{Rec, whole, cut, rec_of, size_of}
use Rattle.runs.specs.Run.{Did, silently}
use Rattle.runs.specs.declared.Record.{Record}

pub record Steps (S : Type 0) : Type 0 where
  -- what a record of a kind and a payload asks in a state, if there is reply room for it
  pub told : S → ℕ → List ℕ → Taken
  -- what an event of a payload does to a state
  pub event : S → List ℕ → Event → Did S

module _ {S : Type 0} (k : Steps S) where
  -- a refusal leaves state and room unchanged
  abbrev pub answered_by : S → List ℕ → Taken → Did S
  answered_by σ p (Ok e) = k.event σ p e
  answered_by σ p (Err r) = silently σ (refusal_number r)

  -- with so many bytes of reply room left. 2: a record that is cut
  abbrev pub record_by : S → ℕ → Rec → Did S
  record_by σ room (whole kind p) = answered_by σ p (fitted_of room (k.told σ kind p))
  record_by σ room cut = silently σ 2

-- ---- what the code reads off a record

-- a record that asks nothing
abbrev pub refused_of : ℕ → ℕ → ℕ → Record
refused_of kind answer used = record { event = None; used = used; kind = kind; answer = answer }

abbrev pub taken_read : ℕ → ℕ → Taken → Record
taken_read kind used (Ok e) = record { event = Some e; used = used; kind = kind; answer = 0 }
taken_read kind used (Err r) = refused_of kind (refusal_number r) used

abbrev pub rec_read : (ℕ → List ℕ → Taken) → ℕ → ℕ → Rec → Record
rec_read told room used (whole kind p) = taken_read kind used (fitted_of room (told kind p))
rec_read told room used cut = refused_of 0 2 used

-- the record at the front, by what a record asks in the state, with so many bytes of reply room left
unfoldable pub front_by : (ℕ → List ℕ → Taken) → ℕ → List ℕ → Record
front_by told room l = rec_read told room (size_of l) (rec_of l)
