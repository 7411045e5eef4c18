-- "Three classes" of document 01, of a record in a session whose image was accepted, and in a tray whose images were. A class looks at the
-- record and at the net addresses, and at nothing else.
use Rattle.std.specs.Prelude.{Bool, true, false, not, List, [], ◌∷◌, ℕ, zero, suc, ◌+◌, length, drop, leb, eqb, Ok, Err}
use Rattle.numbers.specs.Choice.{pick, both, either}
use Rattle.label.specs.Label.{in_label, in_block}
use Rattle.bus.specs.declared.Command.{Command}
use Rattle.bus.specs.declared.Command.TheVariants.{Read, Write, Copy, Recall, Lock, Nothing}
use Rattle.bus.specs.declared.Transaction.{Transaction}
use Rattle.replies.specs.Reply.{selected_of}
use Rattle.record.specs.declared.Event.{Event}
use Rattle.record.specs.declared.Change.{Change}
use Rattle.record.specs.declared.Change.TheVariants as change
use Rattle.record.specs.declared.Event.TheVariants as event
use Rattle.runs.specs.Record.{Rec, whole, cut}
use Rattle.record.specs.Record.{refusal_number, master_of, taken_of, Taken}
use Rattle.state.specs.State.{no_tick}
use Rattle.tray_record.specs.Tray.{tray_asked_at}
use Rattle.demands.specs.Sections.{Class, labelling, gauging, fence}

-- ---- what a transaction touches

-- n addresses from a upward, "up to FFh"
abbrev pub span_of : ℕ → ℕ → List ℕ
span_of a zero = []
span_of a (suc n) = pick (leb a 0xff) (a ∷ span_of (a + 1) n) []

-- "the whole block named", and nothing where the address is in no block
unfoldable pub block_of : ℕ → List ℕ
block_of a = pick (in_label a) (span_of 0x20 16) (pick (in_block a) (span_of 0x60 32) [])

-- "A read or write touches the addresses it runs over": a read as many as its count, a write as many as its bytes. "Copy, recall and lock
-- touch the whole block named." Other commands touch nothing
abbrev pub touched_by : Command → ℕ → ℕ → ℕ → List ℕ
touched_by Read a count bytes = span_of a count
touched_by Write a count bytes = span_of a bytes
touched_by Copy a count bytes = block_of a
touched_by Recall a count bytes = block_of a
touched_by Lock a count bytes = block_of a
touched_by Nothing a count bytes = []

-- whether a transaction of these master bytes selects a pack
abbrev pub Selects : Type 0
Selects = Transaction → List ℕ → Bool

-- "an unselected transaction, a net address read .. touches none"
unfoldable pub touched_of : Selects → Transaction → List ℕ → List ℕ
touched_of selects transaction master =
    pick (selects transaction master)
    (touched_by transaction.command transaction.address transaction.count (length (drop transaction.from master)))
    []

-- ---- the class of a transaction

abbrev pub some_of : List ℕ → Bool
some_of [] = false
some_of (a ∷ rest) = true

abbrev pub all_of : (ℕ → Bool) → List ℕ → Bool
all_of test [] = true
all_of test (a ∷ rest) = both (test a) (all_of test rest)

abbrev pub outside : ℕ → Bool
outside a = not (in_label a)

abbrev pub locks : Command → Bool
locks Read = false
locks Write = false
locks Copy = false
locks Recall = false
locks Lock = true
locks Nothing = false

-- "Label event: a transaction that touches some address, all in 20h..2Fh, and is no lock."
unfoldable pub labels_of : Command → List ℕ → Bool
labels_of command touched = both (some_of touched) (both (all_of in_label touched) (not (locks command)))

-- "Gauge event: .. a transaction touching nothing in 20h..2Fh. Fence: all others."
unfoldable pub touched_class : Command → List ℕ → Class
touched_class command touched =
    pick (labels_of command touched) labelling (pick (all_of outside touched) gauging fence)

-- ---- the class of a record

-- "Gauge event: a reading, a conversion, .."; a sample too, "refused with 11 too": by the tick, at which a class does not look
abbrev pub change_class : Change → Class
change_class (change.Reading volt temp) = gauging
change_class (change.Conversion raw) = gauging
change_class (change.Sample raw tick) = gauging
change_class change.PowerOn = fence

abbrev pub event_class : Selects → List ℕ → Event → Class
event_class selects p (event.Image f) = fence
event_class selects p (event.Change c) = change_class c
event_class selects p (event.Transact t) = touched_class t.command (touched_of selects t (master_of t p))

-- "Gauge event: .. a record refused with 3, 4 or 8"
abbrev pub refused_class : ℕ → Class
refused_class n = pick (either (eqb n 3) (either (eqb n 4) (eqb n 8))) gauging fence

abbrev pub taken_class : Selects → List ℕ → Taken → Class
taken_class selects p (Ok e) = event_class selects p e
taken_class selects p (Err r) = refused_class (refusal_number r)

-- by what a record of a kind and a payload asks. A cut record is answered with 2 and so is a fence
abbrev pub class_by : (ℕ → List ℕ → Taken) → Selects → Rec → Class
class_by asked selects (whole kind p) = taken_class selects p (asked kind p)
class_by asked selects cut = fence

-- ---- in a session: the image was accepted. It is a fence too, though it is judged here as one that comes after

abbrev pub session_asked : ℕ → List ℕ → Taken
session_asked kind p = taken_of kind true p

abbrev pub class_of : List ℕ → Rec → Class
class_of address = class_by session_asked (selected_of address)

-- ---- in a tray: as many images were accepted as there are addresses, and the opening is closed

-- a sample is judged as the first, so that none is refused with 11
abbrev pub tray_asked : ℕ → ℕ → List ℕ → Taken
tray_asked count kind p = tray_asked_at count true false no_tick kind p

-- "class is judged by the packs selected": the matched one, or all with CCh
abbrev pub some_selected : List (List ℕ) → Selects
some_selected [] t master = false
some_selected (address ∷ rest) t master = either (selected_of address t master) (some_selected rest t master)

abbrev pub tray_class : List (List ℕ) → Rec → Class
tray_class addresses = class_by (tray_asked (length addresses)) (some_selected addresses)
