-- DEMAND 2: exact.
--
-- "From an accepted pack image, every reply byte, register, flag and EEPROM byte after each event is what the DS2781 sheet, as condensed in
-- document 01, works out. The image taken out at any moment, read into a fresh gauge, gives the state that a power-on would have given there."
--
-- Document 02, of breakpoints that are crossed: "An image taken out after such a write and a copy may now be refused; demand 2's read-back holds
-- for the others."
use Rattle.std.specs.Prelude.{◌≡◌, true, false, List, [], ◌∷◌, ◌++◌, ℕ, ◌+◌, ◌-◌, ◌≤◌, ◌<◌, length, take}
use Rattle.state.specs.declared.Profile.{Profile}
use Rattle.state.specs.State.{image_size_of}
use Rattle.gauge.specs.Image.{size_for}
use Rattle.demands.specs.Images.{image_kind, profile_of}
use Rattle.slices.specs.Slices.{put}
use Rattle.params.specs.declared.Breaks.{Breaks}
use Rattle.params.specs.Params.{breaks_of}
use Rattle.gauge.specs.declared.Gauge.{Gauge}
use Rattle.gauge.specs.Gauge.{power_on_of}
use Rattle.record.specs.Record.{ordered_of}
use Rattle.runs.specs.Record.{Rec, whole, recs_of, record_of}
use Rattle.runs.specs.Run.{Did, Line, line_of, end_after, codes_of}
use Rattle.runs.specs.declared.Session.{Session}
use Rattle.runs.specs.SessionRecord.{did_of, loaded_with}
use Rattle.session_run.specs.SessionRun.{empty_of, TakenOut}
use Rattle.tray_record.specs.declared.Tray.{Tray}
use Rattle.tray_record.specs.Tray.{empty_tray, pack_of, tray_did}
use Rattle.tray_run.specs.TrayRun.{SlotOut}
use Rattle.demands.specs.Call.{Call, Within, got_of, lines_in, Told, Stopped, Taking}

-- ---- "after each event", of every run. A run that is stopped after n records is there for every n (`RunsExist` of Call.antt)

module _ {S : Type 0} (did : S → ℕ → Rec → Did S) (start : S) where
  -- stopped after n records, the state, and the lines that room and answers hold, are what the definitions give for these records
  pub record Moment (n : ℕ) (c d : Call S) : Type 0 where
    pub state : d.ran.state ≡ end_after did start (length c.room) (take n (recs_of c.bytes))
    pub got : got_of did start d ≡ take n (got_of did start c)
    pub told : Told did start d

  -- what the definition works out for a record from the state and the room that are left by those before it
  abbrev pub did_after : Call S → Rec → Did S
  did_after a r = did a.ran.state (length a.room - a.ran.replied) r

  -- is what the record did: the state, which is every register, flag and EEPROM byte; its answer; and its reply, which starts in the room
  -- where the last ended
  pub record Exact (r : Rec) (l : Line) (a b : Call S) : Type 0 where
    pub state : b.ran.state ≡ (did_after a r).state
    pub line : l ≡ line_of r (did_after a r)
    pub replies : b.replies ≡ put a.replies a.ran.replied (did_after a r).reply
    pub replied : b.ran.replied ≡ a.ran.replied + length (did_after a r).reply
    pub answered : b.told ≡ put a.told a.ran.lines (codes_of (l ∷ []))
    pub lines : b.ran.lines ≡ a.ran.lines + 1

  pub record AfterEach : Type 0 where
    pub moments : (n : ℕ) (c d : Call S) → Within did start c → Stopped did start n c d → Moment n c d
    pub events : (c : Call S) → Within did start c → (r : Rec) (l : Line) (a b : Call S) → Taking did start c r l a b → Exact r l a b

-- ---- "the image taken out at any moment, read into a fresh gauge", of any gauge

-- a session whose only record is the image of a profile that the first bytes of a room hold
pub record Fresh (f : Profile) (after : List ℕ) (e : Call Session) : Type 0 where
  pub run : Within did_of empty_of e
  pub image : e.bytes ≡ record_of (image_kind f) (take (image_size_of f) after)

-- the breakpoints in the EEPROM are not "TBP12 ≤ TBP23 ≤ TBP34 ≤ 40 as signed bytes"
abbrev pub eeprom_breaks : Gauge → Breaks
eeprom_breaks gauge = breaks_of gauge.meter.cells.block.eeprom

abbrev pub Crossed : Gauge → Type 0
Crossed gauge = ordered_of (eeprom_breaks gauge) ≡ false

-- what the fresh gauge answers to the image
abbrev pub AnswersImage : Profile → Call Session → ℕ → Type 0
AnswersImage profile e answer = lines_in did_of empty_of e ≡ record { kind = image_kind profile; answer = answer; reply = [] } ∷ []

-- it is refused, and the fresh gauge is as it was
pub record Declined (f : Profile) (e : Call Session) : Type 0 where
  pub refused : AnswersImage f e 10
  pub state : e.ran.state ≡ empty_of

-- "a power-on .. there": the same records with a power-on at their end, which leaves the gauge h
pub record PoweredOn {S : Type 0} (did : S → ℕ → Rec → Did S) (start : S) (powerOn : Rec) (Leaves : S → Gauge → Type 0) (d : Call S)
    (h : Gauge) : Type 0 where
  pub longer : Call S
  pub run : Within did start longer
  pub room : longer.room ≡ d.room
  pub last : recs_of longer.bytes ≡ recs_of d.bytes ++ (powerOn ∷ [])
  pub leaves : Leaves longer.ran.state h

-- it is accepted, and "gives the state that a power-on would have given there"
pub record Restored (g : Gauge) (There : Gauge → Type 0) (e : Call Session) : Type 0 where
  pub accepted : AnswersImage (profile_of g) e 0
  pub state : e.ran.state ≡ loaded_with (power_on_of g)
  pub there : (h : Gauge) → There h → e.ran.state ≡ loaded_with h

-- the answer is 10 exactly where the breakpoints are crossed, and it is what the fresh gauge tells
pub record ReadBack (g : Gauge) (There : Gauge → Type 0) (e : Call Session) : Type 0 where
  pub told : Told did_of empty_of e
  pub declined : Crossed g → Declined (profile_of g) e
  pub crossed : AnswersImage (profile_of g) e 10 → Crossed g
  pub restored : (Crossed g → ⊥) → Restored g There e

-- ---- of a session

-- `take_out` of the state that a run left, stopped anywhere after an image was accepted, into a room of 60 bytes or more, of kind 8 of 61
pub record Carried (d : Call Session) (room : List ℕ) (answer : ℕ) (after : List ℕ) : Type 0 where
  pub run : Within did_of empty_of d
  pub loaded : d.ran.state.loaded ≡ true
  pub fits : size_for d.ran.state.gauge ≤ length room
  pub out : TakenOut d.ran.state room answer after

abbrev pub PowersOn : Call Session → Gauge → Type 0
PowersOn = PoweredOn did_of empty_of (whole 5 []) (λ σ h. σ ≡ loaded_with h)

-- ---- of a slot

-- `take_out` of a slot that has a pack
pub record SlotCarried (d : Call Tray) (i : ℕ) (room : List ℕ) (answer : ℕ) (after : List ℕ) : Type 0 where
  pub run : Within tray_did empty_tray d
  pub pack : i < d.ran.state.count
  pub fits : size_for (pack_of d.ran.state i) ≤ length room
  pub out : SlotOut d.ran.state i room answer after

abbrev pub SlotPowersOn : ℕ → Call Tray → Gauge → Type 0
SlotPowersOn i = PoweredOn tray_did empty_tray (whole 21 (i ∷ [])) (λ τ h. pack_of τ i ≡ h)

-- ---- the demand

pub record Demand2 : Type 0 where
  pub events : AfterEach did_of empty_of
  pub images : (d : Call Session) (room : List ℕ) (answer : ℕ) (after : List ℕ) → Carried d room answer after
      → (answer ≡ 0) × ((e : Call Session) → Fresh (profile_of d.ran.state.gauge) after e → ReadBack d.ran.state.gauge (PowersOn d) e)

pub record TrayDemand2 : Type 0 where
  pub events : AfterEach tray_did empty_tray
  pub images : (d : Call Tray) (i : ℕ) (room : List ℕ) (answer : ℕ) (after : List ℕ) → SlotCarried d i room answer after
      → (answer ≡ 0) × ((e : Call Session) → Fresh (profile_of (pack_of d.ran.state i)) after e →
      ReadBack (pack_of d.ran.state i) (SlotPowersOn i d) e)

-- ---- and it speaks of something: an image of a profile is accepted and events follow, the image that is taken out then is read into a fresh gauge, and
-- it gives the state of the session with a power-on there, which is another one than it had

pub record ReadBackMet (f : Profile) : Type 0 where
  pub session : Call Session
  pub profile : profile_of session.ran.state.gauge ≡ f
  pub room : List ℕ
  pub answer : ℕ
  pub after : List ℕ
  pub carried : Carried session room answer after
  pub done : answer ≡ 0
  pub fresh : Call Session
  pub read : Fresh f after fresh
  pub accepted : AnswersImage f fresh 0
  pub there : Gauge
  pub powered : PowersOn session there
  pub same : fresh.ran.state ≡ loaded_with there
  pub another : there ≡ session.ran.state.gauge → ⊥

-- and of a slot of a tray, with a power-on of that slot
pub record SlotReadBackMet : Type 0 where
  pub tray : Call Tray
  pub slot : ℕ
  pub room : List ℕ
  pub answer : ℕ
  pub after : List ℕ
  pub carried : SlotCarried tray slot room answer after
  pub done : answer ≡ 0
  pub fresh : Call Session
  pub read : Fresh (profile_of (pack_of tray.ran.state slot)) after fresh
  pub accepted : AnswersImage (profile_of (pack_of tray.ran.state slot)) fresh 0
  pub there : Gauge
  pub powered : SlotPowersOn slot tray there
  pub gives : fresh.ran.state ≡ loaded_with there
  pub another : there ≡ pack_of tray.ran.state slot → ⊥

-- ---- every run that accepted an image can be carried on; there are some with breakpoints in order, and crossed

-- an image that is taken out of what a run left, and a fresh gauge that it is given to
pub record CarriedTo (d : Call Session) (room : List ℕ) : Type 0 where
  pub answer : ℕ
  pub after : List ℕ
  pub fresh : Call Session
  pub carried : Carried d room answer after
  pub given : Fresh (profile_of d.ran.state.gauge) after fresh

-- a run that accepted an image, and the same with a power-on at its end
pub record PoweredMet : Type 0 where
  pub call : Call Session
  pub run : Within did_of empty_of call
  pub loaded : call.ran.state.loaded ≡ true
  pub ordered : Crossed call.ran.state.gauge → ⊥
  pub left : Gauge
  pub powered : PowersOn call left

-- a run that leaves crossed breakpoints in the EEPROM
pub record CrossedMet : Type 0 where
  pub call : Call Session
  pub run : Within did_of empty_of call
  pub loaded : call.ran.state.loaded ≡ true
  pub crossed : Crossed call.ran.state.gauge

pub record Demand2Met : Type 0 where
  -- every run that accepted an image, and every room that is large enough
  pub carries : (d : Call Session) → Within did_of empty_of d → d.ran.state.loaded ≡ true → (room : List ℕ)
      → size_for d.ran.state.gauge ≤ length room → CarriedTo d room
  -- breakpoints in order, where a power-on may follow; and crossed, "after such a write and a copy"
  pub powered : PoweredMet
  pub crossed : CrossedMet

-- a slot that has a pack, and the same run with a power-on of it at its end
pub record SlotCarriedMet : Type 0 where
  pub call : Call Tray
  pub slot : ℕ
  pub room : List ℕ
  pub answer : ℕ
  pub after : List ℕ
  pub carried : SlotCarried call slot room answer after
  pub left : Gauge
  pub powered : SlotPowersOn slot call left
