-- A tray session: the run of its records from the state before the first, and the image taken out of a slot.
use Rattle.std.specs.Prelude.{◌≡◌, Option, Some, None, Bool, false, List, ℕ, Result, ltb, leb, length}
use Rattle.numbers.specs.Choice.{pick, both}
use Rattle.gauge.specs.declared.Gauge.{Gauge}
use Rattle.gauge.specs.Image.{size_for, room_after}
use Rattle.record.specs.declared.Refusal.{Refusal}
use Rattle.record.specs.declared.Refusal.TheVariants.{Order, Room}
use Rattle.record.specs.Record.{refusal_number}
use Rattle.runs.specs.Out.{out_by}
use Rattle.runs.specs.Record.{recs_of}
use Rattle.runs.specs.Run.{Line, lines_after}
use Rattle.tray_record.specs.declared.Tray.{Tray}
use Rattle.tray_record.specs.Tray.{empty_tray, pack_of, tray_did}

-- the lines of a whole tray session, with so much reply room
unfoldable pub tray_lines : List ℕ → ℕ → List Line
tray_lines s room = lines_after tray_did empty_tray room (recs_of s)

-- ---- the image taken out of a slot: 5 for a slot without an image, from 8 on too, then 9 for a room under 60, or under 61

abbrev pub slot_held : Tray → ℕ → Bool
slot_held tray i = both (ltb i 8) (ltb i tray.count)

-- the pack of a slot that a word names; of a slot that no tray has there is none
abbrev pub named_held : Option ℕ → Tray → Bool
named_held (Some i) tray = slot_held tray i
named_held None tray = false

abbrev pub named_pack : Option ℕ → Tray → Gauge
named_pack (Some i) tray = pack_of tray i
named_pack None tray = pack_of tray 8

abbrev pub slot_out_number : Tray → ℕ → List ℕ → ℕ
slot_out_number tray i room =
    pick (slot_held tray i) (pick (leb (size_for (pack_of tray i)) (length room)) 0 (refusal_number Room)) (refusal_number Order)

-- the same as a value: the image's size, or the refusal
abbrev pub slot_out_of : Tray → ℕ → List ℕ → Result ℕ Refusal
slot_out_of tray i room = out_by (slot_held tray i) (leb (size_for (pack_of tray i)) (length room)) (size_for (pack_of tray i))

-- nothing is written on a refusal
abbrev pub slot_out_room : Tray → ℕ → List ℕ → List ℕ
slot_out_room tray i room = pick (slot_held tray i) (room_after (leb (size_for (pack_of tray i)) (length room)) (pack_of tray i) room) room

pub record SlotOut (τ : Tray) (i : ℕ) (room : List ℕ) (answer : ℕ) (after : List ℕ) : Type 0 where
  pub number : answer ≡ slot_out_number τ i room
  pub written : after ≡ slot_out_room τ i room
