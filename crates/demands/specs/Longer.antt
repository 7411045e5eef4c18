-- LONGER TRANSACTIONS: ".. it is proved once for both limits that a transaction allowed in both forms gives one answer."
use Rattle.std.specs.Prelude.{◌≡◌, List, [], ◌∷◌, map, ℕ, ◌/◌, ◌%◌, ◌≤◌, leb, length, get_or, drop, Ok, Err}
use Rattle.numbers.specs.Choice.{pick, both}
use Rattle.bus.specs.Ask.{asked_of}
use Rattle.replies.specs.Reply.{read_byte, listed}
use Rattle.gauge.specs.declared.Gauge.{Gauge}
use Rattle.record.specs.declared.Form.{Form}
use Rattle.record.specs.declared.Form.TheVariants.{Short, Long}
use Rattle.record.specs.declared.Kind.TheVariants.{Transaction}
use Rattle.record.specs.declared.Event.TheVariants.{Transact}
use Rattle.record.specs.declared.Refusal.TheVariants.{Count}
use Rattle.record.specs.Record.{limit_of, sized_of, transaction_of}
use Rattle.runs.specs.Record.{Rec, whole}
use Rattle.runs.specs.Run.{Did, Line, lines_after, end_after, replies_of}
use Rattle.runs.specs.SessionRecord.{loaded_with, did_of}
use Rattle.tray_record.specs.Tray.{tray_did}
use Rattle.demands.specs.Class.{class_of, tray_class}

-- ---- a transaction in a form

-- "New kind 7", beside kind 4
abbrev pub form_kind : Form → ℕ
form_kind Short = 4
form_kind Long = 7

-- the read count, the low byte first, and then the master bytes
abbrev pub payload_of : Form → ℕ → List ℕ → List ℕ
payload_of Short count master = count ∷ master
payload_of Long count master = (count % 256) ∷ (count / 256) ∷ master

abbrev pub record_in : Form → ℕ → List ℕ → Rec
record_in form count master = whole (form_kind form) (payload_of form count master)

-- "allowed": neither the read count nor the master bytes are more than the form takes
pub record AllowedIn (f : Form) (count : ℕ) (master : List ℕ) : Type 0 where
  pub reads : count ≤ limit_of f
  pub sends : length master ≤ limit_of f

-- two lists of records that differ in the forms of their transactions alone
pub data Reformed : List Rec → List Rec → Type 0 where
  none : Reformed [] []
  kept : {r : Rec} {rs ss : List Rec} → Reformed rs ss → Reformed (r ∷ rs) (r ∷ ss)
  reformed : (f g : Form) {count : ℕ} {master : List ℕ} {rs ss : List Rec} → AllowedIn f count master → AllowedIn g count master → Reformed rs ss
      → Reformed (record_in f count master ∷ rs) (record_in g count master ∷ ss)

-- ---- "gives one answer", in runs of any state

-- what a line tells but for the kind
abbrev pub answered : Line → ℕ × List ℕ
answered l = (l.answer, l.reply)

pub record OneAnswer {S : Type 0} (did : S → ℕ → Rec → Did S) : Type 0 where
  -- from every state and with every room: the same answer, reply and state after, and so as much room left
  pub records : (f g : Form) (count : ℕ) (master : List ℕ) → AllowedIn f count master → AllowedIn g count master
      → (σ : S) (room : ℕ) → did σ room (record_in f count master) ≡ did σ room (record_in g count master)
  -- and so of all records of a run
  pub lines : (σ : S) (room : ℕ) (rs ss : List Rec) → Reformed rs ss →
      map answered (lines_after did σ room rs) ≡ map answered (lines_after did σ room ss)
  pub ends : (σ : S) (room : ℕ) (rs ss : List Rec) → Reformed rs ss → end_after did σ room rs ≡ end_after did σ room ss

-- ---- "All three classes apply to kind 7"

abbrev pub OneClass : {C : Type 0} → (Rec → C) → Type 0
OneClass classes = (f g : Form) (count : ℕ) (master : List ℕ) → AllowedIn f count master → AllowedIn g count master
    → classes (record_in f count master) ≡ classes (record_in g count master)

-- ---- "Reading the whole map takes four transactions"

-- so many bytes from an address on, after CCh
abbrev pub reading : Form → ℕ → ℕ → Rec
reading form a count = record_in form count (0xcc ∷ 0x69 ∷ a ∷ [])

abbrev pub quarters : List Rec
quarters = reading Short 0x00 64 ∷ reading Short 0x40 64 ∷ reading Short 0x80 64 ∷ reading Short 0xc0 64 ∷ []

-- the bytes from 00h to FFh
abbrev pub whole_map : Gauge → List ℕ
whole_map gauge = listed (read_byte gauge.common gauge.label gauge.meter) 0 256

-- ---- "Kind 4 keeps its form and limits, so stored sessions mean what they meant": 01's own numbers

pub record AsBefore : Type 0 where
  -- 4: not "1 to 65" bytes
  pub sizes : (n : ℕ) → sized_of (Transaction Short) n ≡ both (leb 1 n) (leb n 65)
  -- 8: "read count above 64"
  pub asks : (p : List ℕ) → transaction_of Short p ≡ pick (leb (get_or p 0 0) 64) (Ok (Transact (asked_of 1 (get_or p 0 0) (drop 1 p)))) (Err Count)

-- ---- the theorem

pub record Longer : Type 0 where
  pub sessions : OneAnswer did_of
  pub trays : OneAnswer tray_did
  pub classes : (address : List ℕ) → OneClass (class_of address)
  pub tray_classes : (addresses : List (List ℕ)) → OneClass (tray_class addresses)
  -- kind 4 "keeps its form and limits"
  pub kept : AsBefore
  -- one transaction that reads 256 bytes is done: it says every byte of the map, and the state stays
  pub map_read : (g : Gauge) (room : ℕ) → 256 ≤ room
      → did_of (loaded_with g) room (reading Long 0x00 256) ≡ record { state = loaded_with g; answer = 0; reply = whole_map g }
  -- the four say the same together
  pub map_quarters : (g : Gauge) (room : ℕ) → 256 ≤ room → replies_of (lines_after did_of (loaded_with g) room quarters) ≡ whole_map g

-- and it speaks of something: two records that differ and have the longest that both forms allow, of which a gauge does each
pub record LongerMet : Type 0 where
  pub count : ℕ
  pub master : List ℕ
  pub full : (count ≡ 64) × (length master ≡ 64)
  pub short : AllowedIn Short count master
  pub long : AllowedIn Long count master
  pub differ : record_in Short count master ≡ record_in Long count master → ⊥
  pub done : (g : Gauge) → (did_of (loaded_with g) 64 (record_in Short count master)).answer ≡ 0
