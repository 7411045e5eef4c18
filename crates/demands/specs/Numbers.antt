-- EACH NUMBER, WHEN AND ONLY WHEN: "Answer numbers, in order of checking" of document 01, with what document 02 adds and changes.
--
-- "0 done. 1 session over 32,768 bytes; nothing is run. 2 1 to 3 bytes left where a header is due, or payload runs past the end; the session stops.
-- 3 kind not 1 to 5. 4 payload not 60, 8, 4, 1 to 65, 0 bytes for kinds 1 to 5. 5 an event before an image was accepted, or an image after one was.
-- 6 first address byte not 3Dh, or the eighth not the CRC of the first seven. 7 lock byte above 3. 8 read count above 64. 9 reply room left is less
-- than the read count. The first that applies is given."
--
-- Each case is said here anew, from the bytes of the record and what the state remembers, with the papers' own numbers. These definitions are used that the
-- code is proved by, too: the CRC (`crc_of`), the elapsed ticks (`elapsed_of`), whether two rows of eight bytes are equal (`same_bytes`), a number of two
-- bytes, low byte first (`pair_at`), the integer of a signed byte (`value`), and what is found in a state: whether an image was accepted, the tick that is
-- remembered, how many packs a tray has, which is in a slot, and whether its opening is closed.
use Rattle.std.specs.Prelude.{◌≡◌, Bool, true, false, not, List, [], ◌∷◌, ℕ, zero, suc, ◌+◌, ◌-◌, ◌≤◌, ◌<◌, ltb, leb, eqb, ℤ, pos, length, get_or, take}
use Rattle.std.specs.Int.Signed.{le_z}
use Rattle.numbers.specs.Choice.{pick, both, either}
use Rattle.numbers.specs.Offset.{value, offset8_of}
use Rattle.slices.specs.Slices.{part, pair_at}
use Rattle.crc.specs.Crc.{crc_of}
use Rattle.state.specs.declared.Tick.{Tick}
use Rattle.state.specs.State.{elapsed_of}
use Rattle.bus.specs.Ask.{same_bytes}
use Rattle.runs.specs.Record.{Rec, whole, cut, rec_of}
use Rattle.runs.specs.Run.{Did, Line, outcome_number}
use Rattle.runs.specs.declared.Session.{Session}
use Rattle.runs.specs.SessionRecord.{last_tick, did_of}
use Rattle.session_run.specs.SessionRun.{empty_of}
use Rattle.tray_record.specs.declared.Tray.{Tray}
use Rattle.tray_record.specs.Tray.{empty_tray, pack_of, slot_in, tray_did}
use Rattle.demands.specs.Call.{Call, Allowed, Within, Taking}
use Rattle.demands.specs.Images.{is_image}
use Rattle.demands.specs.Alone.{slot_event}

-- ---- numbers and their cases

pub record Case : Type 0 where
  pub number : ℕ
  pub applies : Bool

-- "when, and only when"; "the first that applies is given": where no case before it applies, the answer is the number of a case exactly where that case
-- applies. Where none does, it is 0
abbrev pub OnlyWhen : ℕ → List Case → Type 0
OnlyWhen answer [] = answer ≡ 0
OnlyWhen answer (c ∷ cs) =
    (c.applies ≡ true → answer ≡ c.number) × (answer ≡ c.number → c.applies ≡ true) × (c.applies ≡ false → OnlyWhen answer cs)

-- ---- 2: "1 to 3 bytes left where a header is due, or payload runs past the end", of the bytes that are left, one at least: where none is left there is
-- no record

abbrev pub runs_short : List ℕ → Bool
runs_short s = either (ltb (length s) 4) (ltb (length s) (4 + pair_at s 0))

-- ---- 3 and 4: the kinds that there are, and how many bytes each has

pub data Size : Type 0 where
  exactly : ℕ → Size
  between : ℕ → ℕ → Size

abbrev pub size_fits : Size → ℕ → Bool
size_fits (exactly n) bytes = eqb bytes n
size_fits (between low high) bytes = both (leb low bytes) (leb bytes high)

-- "60, 8, 4, 1 to 65, 0 bytes for kinds 1 to 5"; kinds 6 to 8: "4 asks 6 bytes", "2 to 258 bytes", "61 bytes"
abbrev pub session_kinds : List (ℕ × Size)
session_kinds =
    (1, exactly 60) ∷ (2, exactly 8) ∷ (3, exactly 4) ∷ (4, between 1 65) ∷ (5, exactly 0) ∷ (6, exactly 6) ∷ (7, between 2 258) ∷ (8, exactly 61) ∷ []

-- "3 for any kind but 1, 4, 18, 19, 21, 22", nor 7 and 8; "4 asks 9, 5, 1, 7 bytes for the last four"
abbrev pub tray_kinds : List (ℕ × Size)
tray_kinds =
    (1, exactly 60) ∷ (4, between 1 65) ∷ (7, between 2 258) ∷ (8, exactly 61) ∷ (18, exactly 9) ∷ (19, exactly 5) ∷ (21, exactly 1) ∷ (22, exactly 7) ∷ []

abbrev pub kind_among : List (ℕ × Size) → ℕ → Bool
kind_among [] kind = false
kind_among (k ∷ ks) kind = either (eqb kind k.0) (kind_among ks kind)

abbrev pub missized : List (ℕ × Size) → ℕ → ℕ → Bool
missized [] kind bytes = false
missized (k ∷ ks) kind bytes = either (both (eqb kind k.0) (not (size_fits k.1 bytes))) (missized ks kind bytes)

-- ---- 5

-- "an event before an image was accepted, or an image after one was"
abbrev pub out_of_turn : Bool → ℕ → Bool
out_of_turn accepted kind = pick (is_image kind) accepted (not accepted)

-- "an image after the first accepted event that is no image, or after the eighth image"; "any other event before an image, a slot without an image"
abbrev pub tray_out_of_turn : Tray → ℕ → List ℕ → Bool
tray_out_of_turn tray kind p =
    pick (is_image kind) (either tray.closed (leb 8 tray.count))
    (either (eqb tray.count 0) (both (slot_event kind) (leb tray.count (slot_in p))))

-- ---- 6, 7, 12 and 10, of images

-- "first address byte not 3Dh", in kind 8 not 32h, "or the eighth not the CRC of the first seven"
abbrev pub misaddressed : ℕ → List ℕ → Bool
misaddressed kind p =
    both (is_image kind)
    (either (not (eqb (get_or p 0 0) (pick (eqb kind 1) 0x3d 0x32))) (not (eqb (get_or p 7 0) (crc_of (take 7 p)))))

-- "lock byte above 3": the last of the 60 bytes
abbrev pub locked_above3 : ℕ → List ℕ → Bool
locked_above3 kind p = both (is_image kind) (ltb 3 (get_or p 59 0))

-- so many slots from i on have one that is such
abbrev pub some_slot : (ℕ → Bool) → ℕ → ℕ → Bool
some_slot such i zero = false
some_slot such i (suc n) = either (such i) (some_slot such (i + 1) n)

-- "for a repeated address": a pack that was accepted has these eight bytes
abbrev pub address_repeats : Tray → ℕ → List ℕ → Bool
address_repeats tray kind p = both (is_image kind) (some_slot (λ i. same_bytes (pack_of tray i).common.address (take 8 p)) 0 tray.count)

abbrev pub signed_byte : ℕ → ℤ
signed_byte b = value 7 (offset8_of b)

-- "TBP12 ≤ TBP23 ≤ TBP34 ≤ 40 as signed bytes", which stand at 7Eh, 7Dh and 7Ch; block 1, from 60h on, are the bytes from 24 on
abbrev pub breaks_rise : List ℕ → Bool
breaks_rise p =
    let tbp12 = signed_byte (get_or p 54 0) in
    let tbp23 = signed_byte (get_or p 53 0) in
    let tbp34 = signed_byte (get_or p 52 0) in
    both (le_z tbp12 tbp23) (both (le_z tbp23 tbp34) (le_z tbp34 (pos 40)))

abbrev pub breaks_cross : ℕ → List ℕ → Bool
breaks_cross kind p = both (is_image kind) (not (breaks_rise p))

-- ---- 11: "when the difference is 0 or above 64", of the kind that is a sample, by the tick that is remembered and the sample's own

abbrev pub ticks_off : ℕ → Tick → ℕ → ℕ → Bool
ticks_off sample last kind tick = both (eqb kind sample) (either (eqb (elapsed_of last tick) 0) (ltb 64 (elapsed_of last tick)))

-- ---- 8 and 9, of transactions: "read count above 64", of kind 7 "above 256"; "reply room left is less than the read count"

abbrev pub count_above : ℕ → List ℕ → Bool
count_above kind p = either (both (eqb kind 4) (ltb 64 (get_or p 0 0))) (both (eqb kind 7) (ltb 256 (pair_at p 0)))

abbrev pub room_short : ℕ → ℕ → List ℕ → Bool
room_short room kind p = either (both (eqb kind 4) (ltb room (get_or p 0 0))) (both (eqb kind 7) (ltb room (pair_at p 0)))

-- ---- the order of checking, of a record of a kind and a payload, in a state and with so many bytes of reply room left

-- 10: "after 7 and before 8"; 11: "after 10"
abbrev pub session_cases : Session → ℕ → ℕ → List ℕ → List Case
session_cases σ room kind p =
    record { number = 3; applies = not (kind_among session_kinds kind) }
    ∷ record { number = 4; applies = missized session_kinds kind (length p) }
    ∷ record { number = 5; applies = out_of_turn σ.loaded kind }
    ∷ record { number = 6; applies = misaddressed kind p }
    ∷ record { number = 7; applies = locked_above3 kind p }
    ∷ record { number = 10; applies = breaks_cross kind p }
    ∷ record { number = 11; applies = ticks_off 6 (last_tick σ) kind (pair_at p 4) }
    ∷ record { number = 8; applies = count_above kind p }
    ∷ record { number = 9; applies = room_short room kind p }
    ∷ []

-- 12: "after 7 and before 10". A sample's tick stands behind its slot byte and its raw current, and is held against that slot's
abbrev pub tray_cases : Tray → ℕ → ℕ → List ℕ → List Case
tray_cases τ room kind p =
    record { number = 3; applies = not (kind_among tray_kinds kind) }
    ∷ record { number = 4; applies = missized tray_kinds kind (length p) }
    ∷ record { number = 5; applies = tray_out_of_turn τ kind p }
    ∷ record { number = 6; applies = misaddressed kind p }
    ∷ record { number = 7; applies = locked_above3 kind p }
    ∷ record { number = 12; applies = address_repeats τ kind p }
    ∷ record { number = 10; applies = breaks_cross kind p }
    ∷ record { number = 11; applies = ticks_off 22 (pack_of τ (slot_in p)).meter.flow.tick kind (pair_at p 5) }
    ∷ record { number = 8; applies = count_above kind p }
    ∷ record { number = 9; applies = room_short room kind p }
    ∷ []

-- ---- the theorem

module _ {S : Type 0} (did : S → ℕ → Rec → Did S) (start : S) (cases : S → ℕ → ℕ → List ℕ → List Case) where
  -- 2 and then the others, of the record at the front of the bytes that are left: a payload length (2 bytes), a kind (2 bytes), then the payload
  abbrev pub front_cases : S → ℕ → List ℕ → List Case
  front_cases σ room s = record { number = 2; applies = runs_short s } ∷ cases σ room (pair_at s 2) (part (pair_at s 0) s 4)

  pub record Numbers : Type 0 where
    -- 1: "session over 32,768 bytes", and no other
    pub over : (c : Call S) → Allowed did start c → 32768 < length c.bytes → outcome_number c.ran.outcome ≡ 1
    pub within : (c : Call S) → Allowed did start c → length c.bytes ≤ 32768 → outcome_number c.ran.outcome ≡ 0
    -- in any state, with any room left
    pub records : (σ : S) (room : ℕ) (s : List ℕ) → 0 < length s → OnlyWhen (did σ room (rec_of s)).answer (front_cases σ room s)
    -- and so of each line of a run, by the state and the room that the records before it leave
    pub lines : (c : Call S) → Within did start c → (kind : ℕ) (p : List ℕ) (l : Line) (a b : Call S) → Taking did start c (whole kind p) l a b
        → OnlyWhen l.answer (cases a.ran.state (length a.room - a.ran.replied) kind p)
    pub cuts : (c : Call S) → Within did start c → (l : Line) (a b : Call S) → Taking did start c cut l a b → l.answer ≡ 2

-- of sessions and of trays
pub record EachNumber : Type 0 where
  pub session : Numbers did_of empty_of session_cases
  pub tray : Numbers tray_did empty_tray tray_cases
