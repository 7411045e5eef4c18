-- THE CHARGE BOOKS CLOSE, request [14] of document 02.
--
-- "Over any run of accepted events with no power-on, no ACR write, no full or empty correction and no clamp at either end, the final count (ACR ×
-- 4,096 + fraction) less the first equals the sum, over the conversions in the history, of what each counted plus AB as it stood then; the
-- conversions that add nothing are those [7] names. The sum is defined from events and shadow bytes, not from the count."
--
-- Stated of any two moments of any run and of any pack that it holds. History.antt says what the pack went through between them.
use Rattle.std.specs.Prelude.{◌≡◌, Bool, true, false, not, List, [], ◌∷◌, ◌++◌, ℕ, zero, suc, ◌+◌, ◌-◌, ◌*◌, ◌%◌, ◌^◌, eqb, ℤ, pos, ◌+ℤ◌, ◌-ℤ◌, drop, replicate}
use Rattle.std.specs.Int.Signed.{le_z}
use Rattle.numbers.specs.Choice.{pick, both}
use Rattle.numbers.specs.Offset.{value, clamp_z, joined_of}
use Rattle.state.specs.declared.Profile.{Profile}
use Rattle.state.specs.declared.Tick.{Tick}
use Rattle.state.specs.State.{tick_of, elapsed_of, acr_of, fraction_of}
use Rattle.params.specs.Params.{nben_of, counting_of, capacity_of}
use Rattle.conversion.specs.Conversion.{set_of, marked_of, filled_of, convert_of, charge_in, corrects_full, current_z, blanked_z}
use Rattle.state.specs.declared.Meter.{Meter}
use Rattle.reading.specs.Reading.{read_of, corrects_empty, emptied_in}
use Rattle.block1.specs.Block1.{reaches_of, byte_for}
use Rattle.bus.specs.declared.Command.{Command}
use Rattle.bus.specs.declared.Command.TheVariants.{Read, Write, Copy, Recall, Lock, Nothing}
use Rattle.bus.specs.declared.Transaction.{Transaction}
use Rattle.replies.specs.Reply.{selected_of}
use Rattle.gauge.specs.declared.Gauge.{Gauge}
use Rattle.gauge.specs.Act.{act_of}
use Rattle.record.specs.declared.Change.TheVariants.{Reading, Conversion, Sample, PowerOn}
use Rattle.runs.specs.Record.{Rec}
use Rattle.runs.specs.Run.{Did}
use Rattle.demands.specs.Call.{Call, Within, Stopped}
use Rattle.demands.specs.History.{Happening, imaged, changed, transacted, happened, Pack, heard_since, left_by}

-- ---- "the conversions in the history": each conversion, and each of a sample's n

-- what happened, and the shadow bytes of block 1 as they stood then
pub record Entry : Type 0 where
  pub what : Happening
  pub shadow : List ℕ

-- a conversion of a raw current, which is kept as z + 2^31
pub record Converts : Type 0 where
  pub raw : ℕ
  pub shadow : List ℕ

-- by the tick that is remembered
abbrev pub conversions_by : Tick → List ℕ → Happening → List Converts
conversions_by last shadow (imaged f p) = []
conversions_by last shadow (changed (Reading volt temp)) = []
conversions_by last shadow (changed (Conversion raw)) = record { raw = raw; shadow = shadow } ∷ []
conversions_by last shadow (changed (Sample raw tick)) = replicate (elapsed_of last tick) (record { raw = raw; shadow = shadow })
conversions_by last shadow (changed PowerOn) = []
conversions_by last shadow (transacted t master) = []

abbrev pub tick_after : Tick → Happening → Tick
tick_after last (imaged f p) = last
tick_after last (changed (Reading volt temp)) = last
tick_after last (changed (Conversion raw)) = last
tick_after last (changed (Sample raw tick)) = tick_of tick
tick_after last (changed PowerOn) = last
tick_after last (transacted t master) = last

abbrev pub conversions_in : Tick → List Entry → List Converts
conversions_in last [] = []
conversions_in last (e ∷ es) = conversions_by last e.shadow e.what ++ conversions_in (tick_after last e.what) es

-- ---- "the sum .. of what each counted plus AB as it stood then": signed numbers, from the raw currents and the shadow bytes alone

-- what a conversion takes of those before it: the previous c, how many there were since power-on, modulo 1,024, and the mark after an ACR write; and
-- of its pack the profile. It is that of a run with no ACR write and no power-on, so a conversion alone changes it
pub record Ledger : Type 0 where
  pub profile : Profile
  pub last : ℤ
  pub made : ℕ
  pub mark : Bool

module _ (k : Ledger) (x : Converts) where
  -- c = raw + COB, clamped; on the 1024th the previous c
  abbrev pub booked_c : ℤ
  booked_c = pick (eqb k.made 1023) k.last (current_z (value 31 x.raw) (value 7 (counting_of x.shadow).cob))

  -- what it counts after blanking, plus AB. "The first conversion after an ACR write .. adds nothing to the count, AB included."
  abbrev pub booked : ℤ
  booked = pick k.mark (pos 0) (blanked_z k.profile (nben_of x.shadow) booked_c +ℤ value 7 (counting_of x.shadow).ab)

  abbrev pub ledger_after : Ledger
  ledger_after = record { profile = k.profile; last = booked_c; made = (k.made + 1) % 1024; mark = false }

abbrev pub booked_sum : Ledger → List Converts → ℤ
booked_sum k [] = pos 0
booked_sum k (x ∷ xs) = booked k x +ℤ booked_sum (ledger_after k x) xs

-- ---- what is taken of the gauge: the shadow bytes before each event, and where the run starts

abbrev pub entries_of : Gauge → List Happening → List Entry
entries_of gauge [] = []
entries_of gauge (h ∷ hs) = record { what = h; shadow = gauge.meter.cells.block.shadow } ∷ entries_of (happened gauge h) hs

-- the previous c is kept as z + 2^15
abbrev pub ledger_of : Meter → Ledger
ledger_of meter =
    record { profile = meter.cells.profile; last = value 15 meter.flow.trace.last; made = meter.flow.average.made; mark = meter.charge.mark }

abbrev pub sum_over : Gauge → List Happening → ℤ
sum_over gauge hs = booked_sum (ledger_of gauge.meter) (conversions_in gauge.meter.flow.tick (entries_of gauge hs))

-- "defined from events and shadow bytes, not from the count": it is the same for the same gauge with any other count
abbrev pub recounted : Gauge → ℕ → Gauge
recounted gauge n =
    let m = gauge.meter in
    let c = m.charge in
    record {
      common = gauge.common;
      label = gauge.label;
      meter = record {
        cells = m.cells;
        charge = record { count = n; age = c.age; aging = c.aging; learnf = c.learnf; mark = c.mark };
        cycles = m.cycles;
        flow = m.flow;
        shown = m.shown;
      };
    }

abbrev pub FromEvents : Type 0
FromEvents = (g : Gauge) (n : ℕ) (hs : List Happening) → sum_over (recounted g n) hs ≡ sum_over g hs

-- "ACR × 4,096 + fraction"
abbrev pub count_in : Meter → ℤ
count_in meter = pos (acr_of meter.charge.count * 4096 + fraction_of meter.charge.count)

-- ---- where the books are not kept

-- "no clamp at either end": what the count would come to stays in 0..2^28 - 1
abbrev pub unclamped : ℤ → Bool
unclamped z = both (le_z (pos 0) z) (le_z z (pos (2 ^ 28 - 1)))

abbrev pub converts_now : Meter → ℕ → Converts
converts_now meter raw = record { raw = raw; shadow = meter.cells.block.shadow }

-- what the count would come to with a conversion
abbrev pub count_with : Meter → ℕ → ℤ
count_with meter raw = count_in meter +ℤ booked (ledger_of meter) (converts_now meter raw)

-- "no full .. correction", of each of so many conversions
abbrev pub steady : Meter → ℕ → ℕ → Bool
steady meter raw zero = true
steady meter raw (suc n) =
    both (not (corrects_full meter raw))
    (both (unclamped (count_with meter raw)) (steady (convert_of meter raw) raw n))

-- "no ACR write": the pack is selected, and a write runs over 10h and 11h
abbrev pub is_write : Command → Bool
is_write Read = false
is_write Write = true
is_write Copy = false
is_write Recall = false
is_write Lock = false
is_write Nothing = false

abbrev pub writes_acr : Gauge → Transaction → List ℕ → Bool
writes_acr gauge transaction master =
    let bytes = drop transaction.from master in
    both (selected_of gauge.common.address transaction master)
    (both (is_write transaction.command) (both (reaches_of transaction.address bytes 0x10) (reaches_of transaction.address bytes 0x11)))

abbrev pub acr_written : Transaction → List ℕ → ℕ
acr_written transaction master =
    let bytes = drop transaction.from master in joined_of (byte_for transaction.address bytes 0x10) (byte_for transaction.address bytes 0x11)

abbrev pub keeps_books : Gauge → Happening → Bool
keeps_books gauge (imaged f p) = false
keeps_books gauge (changed (Reading volt temp)) = not (corrects_empty gauge.meter volt temp)
keeps_books gauge (changed (Conversion raw)) = steady gauge.meter raw 1
keeps_books gauge (changed (Sample raw tick)) = steady gauge.meter raw (elapsed_of gauge.meter.flow.tick tick)
keeps_books gauge (changed PowerOn) = false
keeps_books gauge (transacted t master) = not (writes_acr gauge t master)

abbrev pub BooksKept : Gauge → List Happening → Type 0
BooksKept gauge [] = Unit
BooksKept gauge (h ∷ hs) = (keeps_books gauge h ≡ true) × BooksKept (happened gauge h) hs

-- one of so many conversions is a full correction, or would take the count out of its range
pub data Unsteady : Meter → ℕ → ℕ → Type 0 where
  full_here : {m : Meter} {raw n : ℕ} → corrects_full m raw ≡ true → Unsteady m raw (suc n)
  clamp_here : {m : Meter} {raw n : ℕ} → unclamped (count_in m +ℤ booked (ledger_of m) (converts_now m raw)) ≡ false → Unsteady m raw (suc n)
  further : {m : Meter} {raw n : ℕ} → Unsteady (convert_of m raw) raw n → Unsteady m raw (suc n)

-- what ends the books: an image, a power-on, or an event that sets ACR or clamps
pub data EndsBooks : Gauge → Happening → Type 0 where
  at_image : {g : Gauge} {f : Profile} {p : List ℕ} → EndsBooks g (imaged f p)
  at_empty : {g : Gauge} {volt temp : ℕ} → corrects_empty g.meter volt temp ≡ true → EndsBooks g (changed (Reading volt temp))
  at_conversion : {g : Gauge} {raw : ℕ} → Unsteady g.meter raw 1 → EndsBooks g (changed (Conversion raw))
  at_sample : {g : Gauge} {raw tick : ℕ} → Unsteady g.meter raw (elapsed_of g.meter.flow.tick tick) → EndsBooks g (changed (Sample raw tick))
  at_power_on : {g : Gauge} → EndsBooks g (changed PowerOn)
  at_write : {g : Gauge} {t : Transaction} {master : List ℕ} → writes_acr g t master ≡ true → EndsBooks g (transacted t master)

-- ---- and where they are not, there is a reason: each of these sets ACR, or clamps

pub record NoWider : Type 0 where
  -- the books are kept over every other event
  pub ended : (g : Gauge) (h : Happening) → keeps_books g h ≡ false → EndsBooks g h
  -- conversions over which the books are not kept, a 1,024th or not, have one of the two
  pub unsteady : (m : Meter) (raw n : ℕ) → steady m raw n ≡ false → Unsteady m raw n
  -- step 6 fills the charge that steps 1 to 5 leave
  pub full : (m : Meter) (raw : ℕ) → corrects_full m raw ≡ true
      → (convert_of m raw).charge ≡ filled_of (charge_in m raw) m.shown.model.full (capacity_of m.cells.block.shadow).full40
  -- ACR is E
  pub empty : (m : Meter) (volt temp : ℕ) → corrects_empty m volt temp ≡ true → (read_of m volt temp).charge ≡ emptied_in m volt temp
  -- ACR is what was written, and the next conversion will find the mark
  pub written : (g : Gauge) (t : Transaction) (master : List ℕ) → writes_acr g t master ≡ true
      → (act_of g t master).meter.charge ≡ marked_of (set_of g.meter.charge (acr_written t master) false)
  -- the count stops at the end that it would leave its range by, and so it moves by something else than what is booked
  pub clamped : (m : Meter) (raw : ℕ) → corrects_full m raw ≡ false → unclamped (count_in m) ≡ true → unclamped (count_with m raw) ≡ false
      → (count_in (convert_of m raw) ≡ clamp_z (pos 0) (pos (2 ^ 28 - 1)) (count_with m raw)) × (count_in (convert_of m raw) ≡ count_with m raw → ⊥)

-- ---- the theorem

module _ {S : Type 0} (did : S → ℕ → Rec → Did S) (start : S) (pack : Pack S) where
  -- of the run b, stopped earlier, as a, after n records
  abbrev pub BooksClose : Type 0
  BooksClose = (n : ℕ) (a b : Call S) → Within did start b → Stopped did start n b a → BooksKept (left_by pack a) (heard_since pack did n a b)
      → count_in (left_by pack b).meter -ℤ count_in (left_by pack a).meter ≡ sum_over (left_by pack a) (heard_since pack did n a b)

  -- and it speaks of something: there are such moments with a sum that is not 0
  pub record BooksMet : Type 0 where
    pub taken : ℕ
    pub first : Call S
    pub second : Call S
    pub run : Within did start second
    pub stopped : Stopped did start taken second first
    pub kept : BooksKept (left_by pack first) (heard_since pack did taken first second)
    pub sum : sum_over (left_by pack first) (heard_since pack did taken first second) ≡ pos 0 → ⊥

  -- and such moments between which there is the 1,024th conversion since power-on alone: it is booked by the c before it, plus AB, and not by its own
  -- raw current
  pub record BooksOver1024th : Type 0 where
    pub taken : ℕ
    pub first : Call S
    pub second : Call S
    pub run : Within did start second
    pub stopped : Stopped did start taken second first
    pub raw : ℕ
    pub since : heard_since pack did taken first second ≡ changed (Conversion raw) ∷ []
    pub made : (left_by pack first).meter.flow.average.made ≡ 1023
    pub kept : BooksKept (left_by pack first) (heard_since pack did taken first second)
    pub sum : sum_over (left_by pack first) (heard_since pack did taken first second)
        ≡ value 15 (left_by pack first).meter.flow.trace.last +ℤ value 7 (counting_of (left_by pack first).meter.cells.block.shadow).ab
    pub other : current_z (value 31 raw) (value 7 (counting_of (left_by pack first).meter.cells.block.shadow).cob)
        ≡ value 15 (left_by pack first).meter.flow.trace.last → ⊥
