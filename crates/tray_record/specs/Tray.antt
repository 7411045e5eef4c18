-- A tray of one to eight packs on one line: its state, what a record asks of it, and what each event does.
use Rattle.std.specs.Prelude.{◌≡◌, Bool, true, false, List, ◌++◌, ℕ, zero, suc, ◌+◌, ◌≤◌, ltb, leb, eqb, length, get_or, set, take, drop, replicate}
use Rattle.std.specs.Prelude.{Err, Option, Some, None, is_some}
use Rattle.numbers.specs.Choice.{pick, both, either}
use Rattle.slices.specs.Slices.{pair_at}
use Rattle.state.specs.declared.Tick.{Tick}
use Rattle.bus.specs.declared.Rom.{Rom}
use Rattle.bus.specs.declared.Rom.TheVariants as rom
use Rattle.bus.specs.declared.Transaction.{Transaction}
use Rattle.bus.specs.Ask.{same_bytes}
use Rattle.state.specs.declared.Profile.TheVariants.{Ds2781, Ds2775}
use Rattle.state.specs.declared.Common.{Common}
use Rattle.state.specs.declared.Label.{Label}
use Rattle.state.specs.declared.Meter.{Meter}
use Rattle.replies.specs.Reply.{listed, replied_of}
use Rattle.gauge.specs.declared.Gauge.{Gauge}
use Rattle.gauge.specs.Gauge.{GaugeWf}
use Rattle.gauge.specs.Change.{changed_of}
use Rattle.gauge.specs.Act.{can_change, act_of, reply_of}
use Rattle.gauge.specs.Image.{image_of}
use Rattle.record.specs.declared.Form.TheVariants.{Short, Long}
use Rattle.record.specs.declared.Kind.{Kind}
use Rattle.record.specs.declared.Kind.TheVariants as kind
use Rattle.record.specs.declared.Refusal.TheVariants as refusal
use Rattle.record.specs.declared.Event.{Event}
use Rattle.record.specs.declared.Event.TheVariants.{Image, Change, Transact}
use Rattle.record.specs.Image.{image_size, image_address}
use Rattle.record.specs.Record.{taken_by, timed_of, master_of, Taken}
use Rattle.runs.specs.Record.{Rec}
use Rattle.runs.specs.Run.{Did, silently}
use Rattle.runs.specs.AnyRecord.{Steps, record_by}
use Rattle.tray_record.specs.declared.Tray.{Tray}
use Rattle.tray_record.specs.declared.Span.{Span}
use Rattle.tray_record.specs.Wire.{and_bytes}

-- ---- the state: how many packs there are, whether the opening is closed, and each pack by its parts

abbrev pub no_gauge : Gauge
no_gauge = image_of Ds2781 (replicate image_size 0)

-- before the first record
abbrev pub empty_tray : Tray
empty_tray = record {
  count = 0;
  closed = false;
  commons = replicate 8 no_gauge.common;
  labels = replicate 8 no_gauge.label;
  meters = replicate 8 no_gauge.meter;
}

-- the pack in a slot
abbrev pub pack_of : Tray → ℕ → Gauge
pack_of tray i = record {
  common = get_or tray.commons i no_gauge.common;
  label = get_or tray.labels i no_gauge.label;
  meter = get_or tray.meters i no_gauge.meter;
}

-- a tray with another pack in a slot, and all else as it was
abbrev pub stored_of : Tray → ℕ → Gauge → Tray
stored_of tray i gauge = record {
  count = tray.count;
  closed = tray.closed;
  commons = set tray.commons i gauge.common;
  labels = set tray.labels i gauge.label;
  meters = set tray.meters i gauge.meter;
}

-- "the first accepted event that is no image" closes the opening
abbrev pub closed_of : Tray → Tray
closed_of tray = record { count = tray.count; closed = true; commons = tray.commons; labels = tray.labels; meters = tray.meters }

-- "slots 0 upward as accepted"
abbrev pub pack_joined : Tray → Gauge → Tray
pack_joined tray gauge = record {
  count = tray.count + 1;
  closed = tray.closed;
  commons = set tray.commons tray.count gauge.common;
  labels = set tray.labels tray.count gauge.label;
  meters = set tray.meters tray.count gauge.meter;
}

-- ---- the search over the tray, which stops at the slot whose address matches

-- over so many slots from i on
abbrev pub search_from : List Common → Common → List ℕ → ℕ → ℕ → Option ℕ
search_from commons none address i zero = None
search_from commons none address i (suc n) =
    pick (same_bytes (get_or commons i none).address address) (Some i) (search_from commons none address (i + 1) n)

unfoldable pub search_of : List Common → ℕ → List ℕ → Option ℕ
search_of commons count address = search_from commons no_gauge.common address 0 count

-- ---- what a record asks

-- "Readings, conversions, kind 6 samples and power-ons come as kinds 18, 19, 22 and 21". 3: "any kind but 1, 4, 18, 19, 21, 22", and no longer
-- kinds 7 and 8
unfoldable pub tray_kind_of : ℕ → Kind
tray_kind_of n =
    pick (eqb n 1) (kind.Image Ds2781)
    (pick (eqb n 4) (kind.Transaction Short)
    (pick (eqb n 7) (kind.Transaction Long)
    (pick (eqb n 8) (kind.Image Ds2775)
    (pick (eqb n 18) kind.Reading
    (pick (eqb n 19) kind.Conversion
    (pick (eqb n 21) kind.PowerOn
    (pick (eqb n 22) kind.Sample kind.Unknown)))))))

-- "with a slot byte ahead of the old payload"
abbrev pub ahead_of : Kind → ℕ
ahead_of (kind.Image f) = 0
ahead_of kind.Reading = 1
ahead_of kind.Conversion = 1
ahead_of (kind.Transaction f) = 0
ahead_of kind.PowerOn = 1
ahead_of kind.Sample = 1
ahead_of kind.Unknown = 0

abbrev pub slot_in : List ℕ → ℕ
slot_in p = get_or p 0 0

-- 5: "any other event before an image, a slot without an image, or an image after the first accepted event that is no image, or after the eighth
-- image": what stands for an accepted image in a plain session
abbrev pub accepted_for : ℕ → Bool → Kind → List ℕ → Bool
accepted_for count closed (kind.Image f) p = either closed (leb 8 count)
accepted_for count closed kind.Reading p = ltb (slot_in p) count
accepted_for count closed kind.Conversion p = ltb (slot_in p) count
accepted_for count closed (kind.Transaction f) p = ltb 0 count
accepted_for count closed kind.PowerOn p = ltb (slot_in p) count
accepted_for count closed kind.Sample p = ltb (slot_in p) count
accepted_for count closed kind.Unknown p = false

-- by whether an accepted pack has the image's address, and by the slot's tick. 4 asks "9, 5, 1, 7 bytes": one more than the old payload has
abbrev pub tray_asked_by : ℕ → Bool → Bool → Tick → Kind → List ℕ → Taken
tray_asked_by count closed again last which p =
    pick (leb (ahead_of which) (length p)) (timed_of last (taken_by again which (accepted_for count closed which p) (drop (ahead_of which) p)))
    (Err refusal.Size)

abbrev pub tray_asked_at : ℕ → Bool → Bool → Tick → ℕ → List ℕ → Taken
tray_asked_at count closed again last n p = tray_asked_by count closed again last (tray_kind_of n) p

-- 12: "for a repeated address"
abbrev pub again_of : Tray → List ℕ → Bool
again_of tray p = is_some (search_of tray.commons tray.count (image_address p))

-- each pack has a tick of its own
abbrev pub slot_tick : Tray → List ℕ → Tick
slot_tick tray p = (pack_of tray (slot_in p)).meter.flow.tick

abbrev pub tray_told : Tray → ℕ → List ℕ → Taken
tray_told tray n p = tray_asked_at tray.count tray.closed (again_of tray p) (slot_tick tray p) n p

-- ---- what a transaction does

-- the address is the 8 bytes after the first
unfoldable pub matched_of : List Common → ℕ → List ℕ → Option ℕ
matched_of commons count master = pick (ltb (length master) 9) None (search_of commons count (take 8 (drop 1 master)))

-- whom a transaction reaches: the pack in a slot alone, every pack, or nobody
pub data Reach : Type 0 where
  one : ℕ → Reach
  every : Reach
  nobody : Reach

-- whom a Match reaches: "For Match, the search over the tray stops at the slot whose address matches"; where no pack has the address, nobody
abbrev pub reach_found : Option ℕ → Reach
reach_found (Some i) = one i
reach_found None = nobody

-- CCh, 33h and 39h go to every pack, any other first byte and none to nobody
abbrev pub reach_by : Rom → Option ℕ → Reach
reach_by rom.Skip found = every
reach_by rom.Match found = reach_found found
reach_by rom.Net33 found = every
reach_by rom.Net39 found = every
reach_by rom.Quiet found = nobody

abbrev pub tray_reach : Tray → Transaction → List ℕ → Reach
tray_reach tray transaction master = reach_by transaction.rom (matched_of tray.commons tray.count master)

module _ (t : Transaction) (master : List ℕ) where
  -- a pack carries it out by itself
  abbrev pub acted_at : Tray → ℕ → Tray → Tray
  acted_at tray i acted = stored_of acted i (act_of (pack_of tray i) t master)

  -- the first n packs do
  abbrev pub acted_first : Tray → ℕ → Tray
  acted_first tray zero = tray
  acted_first tray (suc n) = acted_at tray n (acted_first tray n)

  -- "each reply byte is the bitwise AND of theirs"
  abbrev pub wired_first : Tray → ℕ → List ℕ
  wired_first tray zero = listed (λ i. 0xff) 0 t.count
  wired_first tray (suc n) = and_bytes (wired_first tray n) (reply_of (pack_of tray n) t master)

  -- where it reaches nobody nothing happens, and every reply byte is FFh
  abbrev pub tray_acted : Reach → Tray → Tray
  tray_acted (one i) tray = acted_at tray i tray
  tray_acted every tray = acted_first tray tray.count
  tray_acted nobody tray = tray

  abbrev pub tray_reply : Reach → Tray → List ℕ
  tray_reply (one i) tray = reply_of (pack_of tray i) t master
  tray_reply every tray = wired_first tray tray.count
  tray_reply nobody tray = listed (λ i. 0xff) 0 t.count

-- ---- what an event does

abbrev pub tray_event : Tray → List ℕ → Event → Did Tray
tray_event tray p (Image f) = silently (pack_joined tray (image_of f p)) 0
tray_event tray p (Change c) = silently (closed_of (stored_of tray (slot_in p) (changed_of (pack_of tray (slot_in p)) c))) 0
tray_event tray p (Transact t) =
    let master = master_of t p in
    let reach = tray_reach tray t master in
    record { state = closed_of (tray_acted t master reach tray); answer = 0; reply = tray_reply t master reach tray }

abbrev pub of_tray : Steps Tray
of_tray = record { told = tray_told; event = tray_event }

-- with so many bytes of reply room left
unfoldable pub tray_did : Tray → ℕ → Rec → Did Tray
tray_did tray room r = record_by of_tray tray room r

-- ---- what the code looks at first of the record at the front

-- the slot that it names, where a tray can have it
unfoldable pub named_slot : List ℕ → ℕ
named_slot l = pick (ltb 4 (length l)) (pick (ltb (get_or l 4 0) 8) (get_or l 4 0) 0) 0

-- whether it is an image, long enough for its address
unfoldable pub image_at : List ℕ → Bool
image_at l = pick (ltb (length l) (4 + image_size)) false (either (eqb (pair_at l 2) 1) (eqb (pair_at l 2) 8))

-- ---- a transaction, as the code carries it out: slot by slot

-- the slots that it reaches
abbrev pub reach_span : ℕ → Reach → Span
reach_span count (one i) = record { first = i; stop = i + 1 }
reach_span count every = record { first = 0; stop = count }
reach_span count nobody = record { first = 0; stop = 0 }

-- whether the packs there are selected: all but by a net address read
abbrev pub selecting_of : Rom → Bool
selecting_of rom.Skip = true
selecting_of rom.Match = true
selecting_of rom.Net33 = false
selecting_of rom.Net39 = false
selecting_of rom.Quiet = false

-- whether they can change
abbrev pub changing_of : Transaction → Bool
changing_of t = both (selecting_of t.rom) (can_change t.command)

-- the reply of one of them, by its parts
abbrev pub answer_of : Transaction → Common → Label → Meter → List ℕ
answer_of t common label meter = replied_of (selecting_of t.rom) common label meter t

-- FFh alone
abbrev pub line_high : Transaction → List ℕ
line_high t = listed (λ i. 0xff) 0 t.count

module _ (t : Transaction) where
  -- the room: the first reply stands at its front as it is, and each further one is ANDed onto that
  abbrev pub on_line : Bool → List ℕ → List ℕ → List ℕ
  on_line true reply room = reply ++ drop t.count room
  on_line false reply room = and_bytes room reply

  -- the scratch room, by way of which a further one comes
  abbrev pub beside_line : Bool → List ℕ → List ℕ → List ℕ
  beside_line true reply scratch = scratch
  beside_line false reply scratch = reply ++ drop t.count scratch

  -- with no slot before the stop no pack replies, and every byte is FFh
  abbrev pub unheard_of : ℕ → List ℕ → List ℕ
  unheard_of zero room = line_high t ++ drop t.count room
  unheard_of (suc n) room = room

-- ---- what holds of every tray: eight places, of which the first are packs, each well-formed (a clause, as ChargeWf)

pub record TrayWf (τ : Tray) : Type 0 where
  pub few : τ.count ≤ 8
  pub sizes : (length τ.commons ≡ 8) × (length τ.labels ≡ 8) × (length τ.meters ≡ 8)
  pub packs : (i : ℕ) → GaugeWf (pack_of τ i)
