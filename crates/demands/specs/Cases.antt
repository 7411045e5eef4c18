-- THE THREE CLASSES of document 01, at their edges: records, each with its class, in one table for sessions and one for trays.
--
-- "A read or write touches the addresses it runs over, up to FFh; copy, recall and lock touch the whole block named; an unselected transaction, a net
-- address read or a refused one touches none. Label event: a transaction that touches some address, all in 20h..2Fh, and is no lock. Gauge event: a
-- reading, a conversion, a record refused with 3, 4 or 8, or a transaction touching nothing in 20h..2Fh. Fence: all others."
use Rattle.std.specs.Prelude.{◌≡◌, List, [], ◌∷◌, ◌++◌, map, ℕ, replicate, Err}
use Rattle.record.specs.declared.Form.TheVariants.{Long}
use Rattle.record.specs.declared.Refusal.TheVariants.{Breaks, Repeated}
use Rattle.runs.specs.Record.{Rec, whole, cut}
use Rattle.demands.specs.Longer.{record_in, reading}
use Rattle.demands.specs.Sections.{Class, labelling, gauging, fence}
use Rattle.demands.specs.Class.{Selects, taken_class, class_of, tray_class}

abbrev pub own_address : List ℕ
own_address = 0x3d ∷ 1 ∷ 2 ∷ 3 ∷ 4 ∷ 5 ∷ 6 ∷ 0xac ∷ []

-- a transaction of the gauge that CCh selects: read count, command, address, and bytes after it
abbrev skips : ℕ → ℕ → ℕ → List ℕ → Rec
skips count command address bytes = whole 4 (count ∷ 0xcc ∷ command ∷ address ∷ bytes)

-- a read of two bytes at 20h from the gauge with this address
abbrev matches : List ℕ → Rec
matches address = whole 4 (2 ∷ 0x55 ∷ (address ++ (0x69 ∷ 0x20 ∷ [])))

-- of kind 7: reads of the whole map, from 30h past FFh, and all in the label; writes of the label, over 1Fh and 20h, and from 30h past FFh; a copy and
-- a lock of block 0; 257 master bytes and a read count that is cut, refused with 4; a read count of 257, with 8
abbrev long_cases : List (Rec × Class)
long_cases =
    (reading Long 0x00 256, fence)
    ∷ (reading Long 0x30 256, gauging)
    ∷ (reading Long 0x20 16, labelling)
    ∷ (record_in Long 0 (0xcc ∷ 0x6c ∷ 0x20 ∷ replicate 16 0), labelling)
    ∷ (record_in Long 0 (0xcc ∷ 0x6c ∷ 0x1f ∷ replicate 200 0), fence)
    ∷ (record_in Long 0 (0xcc ∷ 0x6c ∷ 0x30 ∷ replicate 253 0), gauging)
    ∷ (record_in Long 0 (0xcc ∷ 0x48 ∷ 0x20 ∷ []), labelling)
    ∷ (record_in Long 0 (0xcc ∷ 0x6a ∷ 0x20 ∷ []), fence)
    ∷ (record_in Long 2 (0xcc ∷ 0x69 ∷ 0x20 ∷ replicate 254 0), gauging)
    ∷ (whole 7 (2 ∷ []), gauging)
    ∷ (reading Long 0x20 257, gauging)
    ∷ []

-- of kind 8: an image of its size, refused with 5; one of the size of kind 1, with 4. A read and a write at 1Eh
abbrev camera_cases : List (Rec × Class)
camera_cases =
    (whole 8 (replicate 61 0), fence)
    ∷ (whole 8 (replicate 60 0), gauging)
    ∷ (skips 1 0x69 0x1e [], gauging)
    ∷ (skips 0 0x6c 0x1e (1 ∷ []), gauging)
    ∷ long_cases

abbrev pub class_cases : List (Rec × Class)
class_cases =
    -- reads: all in the label; over 1Fh and 20h; over 2Fh and 30h; up to 1Fh; from 30h; past FFh; of count 0
    (skips 16 0x69 0x20 [], labelling)
    ∷ (skips 2 0x69 0x1f [], fence)
    ∷ (skips 2 0x69 0x2f [], fence)
    ∷ (skips 32 0x69 0x00 [], gauging)
    ∷ (skips 64 0x69 0x30 [], gauging)
    ∷ (skips 64 0x69 0xff [], gauging)
    ∷ (skips 0 0x69 0x20 [], gauging)
    -- writes: in the label, by the bytes and not by the read count; over its ends; outside; no data byte
    ∷ (skips 64 0x6c 0x2f (1 ∷ []), labelling)
    ∷ (skips 0 0x6c 0x1f (1 ∷ 2 ∷ []), fence)
    ∷ (skips 0 0x6c 0x2f (1 ∷ 2 ∷ []), fence)
    ∷ (skips 0 0x6c 0x10 (1 ∷ 2 ∷ []), gauging)
    ∷ (skips 0 0x6c 0x10 (1 ∷ 2 ∷ 3 ∷ 4 ∷ 5 ∷ []), gauging)
    ∷ (skips 0 0x6c 0x14 (1 ∷ []), gauging)
    ∷ (skips 0 0x6c 0xff (1 ∷ 2 ∷ []), gauging)
    ∷ (skips 0 0x6c 0x20 [], gauging)
    -- copy, recall and lock: of block 0, of block 1, of none
    ∷ (skips 0 0x48 0x2f [], labelling)
    ∷ (skips 0 0xb8 0x20 [], labelling)
    ∷ (skips 0 0x6a 0x20 [], fence)
    ∷ (skips 0 0x48 0x60 [], gauging)
    ∷ (skips 0 0xb8 0x7f [], gauging)
    ∷ (skips 0 0x6a 0x60 [], gauging)
    ∷ (skips 0 0x48 0x30 [], gauging)
    ∷ (skips 0 0xb8 0x80 [], gauging)
    ∷ (skips 0 0x6a 0x1f [], gauging)
    -- selected by the own address, and by another; net address reads; another command; a missing address; no master byte
    ∷ (matches own_address, labelling)
    ∷ (matches (replicate 8 0), gauging)
    ∷ (whole 4 (8 ∷ 0x33 ∷ 0x69 ∷ 0x20 ∷ []), gauging)
    ∷ (whole 4 (8 ∷ 0x39 ∷ []), gauging)
    ∷ (skips 2 0x99 0x20 [], gauging)
    ∷ (whole 4 (2 ∷ 0xcc ∷ 0x69 ∷ []), gauging)
    ∷ (whole 4 (2 ∷ []), gauging)
    -- readings, conversions and samples; power-on
    ∷ (whole 2 (replicate 8 0), gauging)
    ∷ (whole 3 (replicate 4 0), gauging)
    ∷ (whole 6 (replicate 6 0), gauging)
    ∷ (whole 5 [], fence)
    -- refused with 3, with 4 (whatever the kind), and with 8; an image, refused with 5; a cut record
    ∷ (whole 0x63 [], gauging)
    ∷ (whole 1 [], gauging)
    ∷ (whole 5 (0 ∷ []), gauging)
    ∷ (whole 6 (replicate 7 0), gauging)
    ∷ (skips 65 0x69 0x20 [], gauging)
    ∷ (whole 1 (replicate 60 0), fence)
    ∷ (cut, fence)
    ∷ camera_cases

-- Of a tray of two packs, by both addresses

abbrev pub second_address : List ℕ
second_address = 0x3d ∷ 1 ∷ 2 ∷ 3 ∷ 4 ∷ 5 ∷ 7 ∷ 0xf2 ∷ []

abbrev pub tray_class_cases : List (Rec × Class)
tray_class_cases =
    -- a transaction that the first, the second, each or neither is selected by; net address reads
    (matches own_address, labelling)
    ∷ (matches second_address, labelling)
    ∷ (skips 16 0x69 0x20 [], labelling)
    ∷ (skips 2 0x69 0x1f [], fence)
    ∷ (skips 0 0x6a 0x20 [], fence)
    ∷ (skips 2 0x69 0x0e [], gauging)
    ∷ (matches (replicate 8 0), gauging)
    ∷ (whole 4 (8 ∷ 0x33 ∷ 0x69 ∷ 0x20 ∷ []), gauging)
    -- kinds 18, 19, 22 and 21, of a slot with a pack; of a slot without one they are refused with 5
    ∷ (whole 18 (1 ∷ replicate 8 0), gauging)
    ∷ (whole 19 (1 ∷ replicate 4 0), gauging)
    ∷ (whole 22 (1 ∷ replicate 6 0), gauging)
    ∷ (whole 21 (1 ∷ []), fence)
    ∷ (whole 18 (2 ∷ replicate 8 0), fence)
    ∷ (whole 22 (8 ∷ replicate 6 0), fence)
    -- refused with 3 (kinds 2, 3, 5 and 6 too), with 4 and with 8; an image after the opening; a cut record
    ∷ (whole 2 (replicate 8 0), gauging)
    ∷ (whole 5 [], gauging)
    ∷ (whole 6 (replicate 6 0), gauging)
    ∷ (whole 21 [], gauging)
    ∷ (whole 18 (replicate 8 0), gauging)
    ∷ (whole 1 [], gauging)
    ∷ (skips 65 0x69 0x20 [], gauging)
    ∷ (whole 1 (replicate 60 0), fence)
    ∷ (cut, fence)
    ∷ camera_cases

-- ---- the theorem

pub record ClassesHold : Type 0 where
  pub session : map (λ c. class_of own_address c.0) class_cases ≡ map (λ c. c.1) class_cases
  pub tray : map (λ c. tray_class (own_address ∷ second_address ∷ []) c.0) tray_class_cases ≡ map (λ c. c.1) tray_class_cases
  -- a record that is refused with 10, or with 12 before the opening is closed. Once an image was accepted there is none in a session
  pub crossed : (selects : Selects) (p : List ℕ) → taken_class selects p (Err Breaks) ≡ fence
  pub repeated : (selects : Selects) (p : List ℕ) → taken_class selects p (Err Repeated) ≡ fence
