-- What a record of a kind and a payload asks: a record is either an event or a numbered refusal.
use Rattle.std.specs.Prelude.{◌≡◌, ℕ, ◌+◌, ◌≤◌, Bool, true, false, not, List, ltb, leb, eqb, ℤ, pos, length, get_or, drop, Result, Ok, Err}
use Rattle.std.specs.Int.Signed.{le_z}
use Rattle.numbers.specs.Choice.{pick, both}
use Rattle.numbers.specs.Offset.{zero_at, offset32_of}
use Rattle.slices.specs.Slices.{part, pair_at, quad_at}
use Rattle.state.specs.declared.Tick.{Tick}
use Rattle.state.specs.State.{timely_of, family_of, image_size_of}
use Rattle.crc.specs.Crc.{crc_of}
use Rattle.state.specs.declared.Profile.{Profile}
use Rattle.state.specs.declared.Profile.TheVariants.{Ds2781, Ds2775}
use Rattle.params.specs.declared.Breaks.{Breaks}
use Rattle.bus.specs.declared.Transaction.{Transaction}
use Rattle.bus.specs.Ask.{asked_of}
use Rattle.record.specs.declared.Form.{Form}
use Rattle.record.specs.declared.Form.TheVariants.{Short, Long}
use Rattle.record.specs.declared.Kind.{Kind}
use Rattle.record.specs.declared.Kind.TheVariants as kind
use Rattle.record.specs.declared.Refusal.{Refusal}
use Rattle.record.specs.declared.Refusal.TheVariants as refusal
use Rattle.record.specs.declared.Change.{Change as Changes}
use Rattle.record.specs.declared.Change.TheVariants as change
use Rattle.record.specs.declared.Event.{Event}
use Rattle.record.specs.declared.Event.TheVariants.{Image, Change, Transact}
use Rattle.record.specs.Image.{image_address, image_breaks, image_locks}

-- a record is either an event or a numbered refusal
abbrev pub Taken : Type 0
Taken = Result Event Refusal

-- ---- the answer numbers

abbrev pub refusal_number : Refusal → ℕ
refusal_number refusal.Kind = 3
refusal_number refusal.Size = 4
refusal_number refusal.Order = 5
refusal_number refusal.Address = 6
refusal_number refusal.Locks = 7
refusal_number refusal.Count = 8
refusal_number refusal.Room = 9
refusal_number refusal.Breaks = 10
refusal_number refusal.Interval = 11
refusal_number refusal.Repeated = 12

abbrev pub taken_number : Taken → ℕ
taken_number (Ok e) = 0
taken_number (Err r) = refusal_number r

-- ---- the kinds

unfoldable pub kind_of : ℕ → Kind
kind_of n =
    pick (eqb n 1) (kind.Image Ds2781)
    (pick (eqb n 2) kind.Reading
    (pick (eqb n 3) kind.Conversion
    (pick (eqb n 4) (kind.Transaction Short)
    (pick (eqb n 5) kind.PowerOn
    (pick (eqb n 6) kind.Sample
    (pick (eqb n 7) (kind.Transaction Long)
    (pick (eqb n 8) (kind.Image Ds2775) kind.Unknown)))))))

-- 3: kind not 1 to 8
abbrev pub known_of : Kind → Bool
known_of (kind.Image f) = true
known_of kind.Reading = true
known_of kind.Conversion = true
known_of (kind.Transaction f) = true
known_of kind.PowerOn = true
known_of kind.Sample = true
known_of kind.Unknown = false

-- ---- the two forms of a transaction: up to 64 bytes in kind 4, "up to 256" in kind 7

-- "read count 1 byte", "a two-byte read count"
abbrev pub head_of : Form → ℕ
head_of Short = 1
head_of Long = 2

-- how many bytes are read at most, and how many master bytes there are at most
abbrev pub limit_of : Form → ℕ
limit_of Short = 64
limit_of Long = 256

abbrev pub read_count : Form → List ℕ → ℕ
read_count Short p = get_or p 0 0
read_count Long p = pair_at p 0

-- ---- size and order

-- 4: payload not 60, 8, 4, 1 to 65, 0, 6, 2 to 258, 61 bytes for kinds 1 to 8
abbrev pub sized_of : Kind → ℕ → Bool
sized_of (kind.Image f) n = eqb n (image_size_of f)
sized_of kind.Reading n = eqb n 8
sized_of kind.Conversion n = eqb n 4
sized_of (kind.Transaction f) n = both (leb (head_of f) n) (leb n (head_of f + limit_of f))
sized_of kind.PowerOn n = eqb n 0
sized_of kind.Sample n = eqb n 6
sized_of kind.Unknown n = false

-- 5: an event before an image was accepted, or an image after one was
abbrev pub due_of : Kind → Bool → Bool
due_of (kind.Image f) loaded = not loaded
due_of kind.Reading loaded = loaded
due_of kind.Conversion loaded = loaded
due_of (kind.Transaction f) loaded = loaded
due_of kind.PowerOn loaded = loaded
due_of kind.Sample loaded = loaded
due_of kind.Unknown loaded = false

-- both, in this order
abbrev pub size_front : Bool → Result Unit Refusal
size_front sized = pick sized (Ok tt) (Err refusal.Size)

abbrev pub due_front : Bool → Result Unit Refusal
due_front due = pick due (Ok tt) (Err refusal.Order)

-- ---- an image, judged by itself

-- first address byte 3Dh, of kind 8 32h ("6 asks the profile's family"), and the eighth the CRC of the first seven
unfoldable pub addressed_of : Profile → List ℕ → Bool
addressed_of profile address = both (eqb (get_or address 0 0) (family_of profile)) (eqb (get_or address 7 0) (crc_of (part 7 address 0)))

-- lock byte not above 3
abbrev pub lockable_of : List ℕ → Bool
lockable_of p = leb (image_locks p) 3

-- "TBP12 ≤ TBP23 ≤ TBP34 ≤ 40 as signed bytes"
unfoldable pub ordered_of : Breaks → Bool
ordered_of breaks = both (leb breaks.b12 breaks.b23) (both (leb breaks.b23 breaks.b34) (leb breaks.b34 (zero_at 7 + 40)))

abbrev pub ordered_z : ℤ → ℤ → ℤ → Bool
ordered_z b12 b23 b34 = both (le_z b12 b23) (both (le_z b23 b34) (le_z b34 (pos 40)))

-- 4, 6, 7, 12, 10: the first refusal that applies, in the order of checking. 12, "after 7 and before 10, for a repeated address": where another
-- pack of the tray has the image's address
unfoldable pub judged_among : Profile → Bool → List ℕ → Taken
judged_among profile again p =
    pick (eqb (length p) (image_size_of profile))
    (pick (addressed_of profile (image_address p))
    (pick (lockable_of p)
    (pick (not again)
    (pick (ordered_of (image_breaks p)) (Ok (Image profile)) (Err refusal.Breaks))
    (Err refusal.Repeated))
    (Err refusal.Locks))
    (Err refusal.Address))
    (Err refusal.Size)

-- by itself
abbrev pub judged_by : Profile → List ℕ → Taken
judged_by profile p = judged_among profile false p

-- an image of kind 1
abbrev pub judged_of : List ℕ → Taken
judged_of p = judged_by Ds2781 p

-- ---- what a payload says

-- a signed 32-bit count, as z + 2^31
abbrev pub count_at : List ℕ → ℕ → ℕ
count_at p at = offset32_of (quad_at p at)

-- the master bytes of a transaction
abbrev pub master_of : Transaction → List ℕ → List ℕ
master_of transaction p = drop transaction.start p

-- a read count, and then the master bytes
abbrev pub transaction_in : Form → List ℕ → Transaction
transaction_in form p = asked_of (head_of form) (read_count form p) (drop (head_of form) p)

-- 8: read count above 64, in kind 7 above 256
abbrev pub transaction_of : Form → List ℕ → Taken
transaction_of form p = pick (leb (read_count form p) (limit_of form)) (Ok (Transact (transaction_in form p))) (Err refusal.Count)

-- the event of a record of its kind's size, at its time; of an image by whether another pack has its address
abbrev pub event_of : Bool → Kind → List ℕ → Taken
event_of again (kind.Image f) p = judged_among f again p
event_of again kind.Reading p = Ok (Change (change.Reading (count_at p 0) (count_at p 4)))
event_of again kind.Conversion p = Ok (Change (change.Conversion (count_at p 0)))
event_of again (kind.Transaction f) p = transaction_of f p
event_of again kind.PowerOn p = Ok (Change change.PowerOn)
event_of again kind.Sample p = Ok (Change (change.Sample (count_at p 0) (pair_at p 4)))
event_of again kind.Unknown p = Err refusal.Kind

-- ---- the first refusal that applies, or the event

abbrev pub taken_by : Bool → Kind → Bool → List ℕ → Taken
taken_by again which loaded p =
    pick (known_of which)
    (pick (sized_of which (length p))
    (pick (due_of which loaded) (event_of again which p) (Err refusal.Order))
    (Err refusal.Size))
    (Err refusal.Kind)

-- 3 to 8 and 10, by the record and whether an image was accepted
unfoldable pub taken_of : ℕ → Bool → List ℕ → Taken
taken_of n loaded p = taken_by false (kind_of n) loaded p

-- ---- the refusals that the state decides

-- what comes at its time, by the tick that is remembered: a sample after 1 to 64 ticks, and anything else
abbrev pub change_timely : Tick → Changes → Bool
change_timely last (change.Reading volt temp) = true
change_timely last (change.Conversion raw) = true
change_timely last (change.Sample raw tick) = timely_of last tick
change_timely last change.PowerOn = true

abbrev pub event_timely : Tick → Event → Bool
event_timely last (Image f) = true
event_timely last (Change c) = change_timely last c
event_timely last (Transact t) = true

-- 11: the difference is 0 or above 64
abbrev pub timed_of : Tick → Taken → Taken
timed_of last (Ok e) = pick (event_timely last e) (Ok e) (Err refusal.Interval)
timed_of last (Err r) = Err r

-- how many bytes of the reply room an event asks
abbrev pub asks_of : Event → ℕ
asks_of (Image f) = 0
asks_of (Change c) = 0
asks_of (Transact t) = t.count

-- 9: reply room left is less than the read count
abbrev pub fitted_of : ℕ → Taken → Taken
fitted_of room (Ok e) = pick (ltb room (asks_of e)) (Err refusal.Room) (Ok e)
fitted_of room (Err r) = Err r

-- ---- what the payload of an event has: an image the bytes of its profile; a transaction its master bytes, and in them those to be written

pub record Mastered (t : Transaction) (p : List ℕ) : Type 0 where
  pub starts : t.start ≤ length p
  pub within : t.from ≤ length (master_of t p)
  pub near : t.start ≤ 2
  pub few : t.count ≤ 256

abbrev pub Fitting : Event → List ℕ → Type 0
Fitting (Image f) p = length p ≡ image_size_of f
Fitting (Change c) p = Unit
Fitting (Transact t) p = Mastered t p
