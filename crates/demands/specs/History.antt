-- THE HISTORY OF A PACK: what it goes through in a run, read off the records; of the gauge of a session, and of each slot of a tray.
use Rattle.std.specs.Prelude.{◌≡◌, Bool, true, false, List, [], ◌∷◌, ◌++◌, ℕ, ◌-◌, ltb, eqb, length, drop, Ok, Err}
use Rattle.numbers.specs.Choice.{pick}
use Rattle.state.specs.declared.Profile.{Profile}
use Rattle.bus.specs.declared.Transaction.{Transaction}
use Rattle.gauge.specs.declared.Gauge.{Gauge}
use Rattle.gauge.specs.Change.{changed_of}
use Rattle.gauge.specs.Act.{act_of}
use Rattle.gauge.specs.Image.{image_of}
use Rattle.record.specs.declared.Change.{Change as Changes}
use Rattle.record.specs.declared.Event.{Event}
use Rattle.record.specs.declared.Event.TheVariants.{Image, Change, Transact}
use Rattle.record.specs.Record.{master_of, fitted_of, Taken}
use Rattle.runs.specs.Record.{Rec, whole, cut, recs_of}
use Rattle.runs.specs.Run.{Did}
use Rattle.runs.specs.declared.Session.{Session}
use Rattle.runs.specs.AnyRecord.{Steps}
use Rattle.runs.specs.SessionRecord.{of_session}
use Rattle.tray_record.specs.declared.Tray.{Tray}
use Rattle.tray_record.specs.Tray.{pack_of, slot_in, Reach, one, every, nobody, tray_reach, of_tray}
use Rattle.demands.specs.Call.{Call, Within, Stopped}

-- ---- what a pack goes through

-- its image, of either profile, is accepted; a reading, a conversion, a sample or a power-on; a transaction, with the master's bytes
pub data Happening : Type 0 where
  imaged : Profile → List ℕ → Happening
  changed : Changes → Happening
  transacted : Transaction → List ℕ → Happening

abbrev pub happened : Gauge → Happening → Gauge
happened gauge (imaged f p) = image_of f p
happened gauge (changed c) = changed_of gauge c
happened gauge (transacted t master) = act_of gauge t master

-- one after the other
abbrev pub lived : Gauge → List Happening → Gauge
lived gauge [] = gauge
lived gauge (h ∷ hs) = lived (happened gauge h) hs

-- no image is accepted
abbrev pub NoImage : Happening → Type 0
NoImage (imaged f p) = ⊥
NoImage (changed c) = Unit
NoImage (transacted t master) = Unit

abbrev pub Imageless : List Happening → Type 0
Imageless [] = Unit
Imageless (h ∷ hs) = NoImage h × Imageless hs

-- ---- a pack that a state holds

pub record Pack (S : Type 0) : Type 0 where
  pub steps : Steps S
  pub gauge : S → Gauge
  -- its image was accepted
  pub there : S → Bool
  -- an event that is not refused comes to it
  pub hears : S → List ℕ → Event → Bool

-- the gauge of a session
abbrev pub of_gauge : Pack Session
of_gauge = record { steps = of_session; gauge = λ σ. σ.gauge; there = λ σ. σ.loaded; hears = λ σ p e. true }

-- of so many packs on the line those that hear a transaction
abbrev pub hears_of : Reach → ℕ → ℕ → Bool
hears_of (one i) count j = eqb j i
hears_of every count j = ltb j count
hears_of nobody count j = false

-- the next image is that of the first slot without a pack; a slot's event names its slot
abbrev pub slot_hears : ℕ → Tray → List ℕ → Event → Bool
slot_hears j tray p (Image f) = eqb j tray.count
slot_hears j tray p (Change c) = eqb j (slot_in p)
slot_hears j tray p (Transact t) = hears_of (tray_reach tray t (master_of t p)) tray.count j

abbrev pub of_slot : ℕ → Pack Tray
of_slot j = record { steps = of_tray; gauge = λ τ. pack_of τ j; there = λ τ. ltb j τ.count; hears = slot_hears j }

-- ---- what records bring to it

abbrev pub event_happens : List ℕ → Event → Happening
event_happens p (Image f) = imaged f p
event_happens p (Change c) = changed c
event_happens p (Transact t) = transacted t (master_of t p)

module _ {S : Type 0} (pack : Pack S) where
  -- a record that is refused brings nothing
  abbrev pub heard_by : S → List ℕ → Taken → List Happening
  heard_by σ p (Ok e) = pick (pack.hears σ p e) (event_happens p e ∷ []) []
  heard_by σ p (Err r) = []

  -- with so many bytes of reply room left
  abbrev pub heard_in : S → ℕ → Rec → List Happening
  heard_in σ room (whole kind p) = heard_by σ p (fitted_of room (pack.steps.told σ kind p))
  heard_in σ room cut = []

  module _ (did : S → ℕ → Rec → Did S) where
    abbrev pub heard_after : S → ℕ → List Rec → List Happening
    heard_after σ room [] = []
    heard_after σ room (r ∷ rs) = heard_in σ room r ++ heard_after (did σ room r).state (room - length (did σ room r).reply) rs

    -- from the moment at which the run of b was stopped after n records, as the call a was, to its end
    abbrev pub heard_since : ℕ → Call S → Call S → List Happening
    heard_since n a b = heard_after a.ran.state (length a.room - a.ran.replied) (drop n (recs_of b.bytes))

  -- the gauge that a call leaves
  abbrev pub left_by : Call S → Gauge
  left_by c = pack.gauge c.ran.state

module _ {S : Type 0} (did : S → ℕ → Rec → Did S) (start : S) (pack : Pack S) where
  -- in all of a run
  abbrev pub life_in : Call S → List Happening
  life_in c = heard_after pack did start (length c.room) (recs_of c.bytes)

  -- ---- and this is what the pack goes through: of the run b, stopped earlier, as a, after n records
  abbrev pub HistoryHolds : Type 0
  HistoryHolds =
      (n : ℕ) (a b : Call S) → Within did start b → Stopped did start n b a → left_by pack b ≡ lived (left_by pack a) (heard_since pack did n a b)
