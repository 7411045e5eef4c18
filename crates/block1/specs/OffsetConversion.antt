-- THE OFFSET CONVERSION, request [7] of document 02, of the meter: in figures, one table under one statement, and as rules of every meter.
--
-- "On the 1024th, the previous c is shown, averaged and counted; the raw value is ignored. The first conversion after an ACR write, by bus only, shows
-- and averages its c but adds nothing to the count, AB included. Where both fall together the first rule gives c, the second the adding. The image
-- carries neither, power-on clears both".
use Rattle.std.specs.Prelude.{◌≡◌, true, false, List, [], ◌∷◌, ℕ, zero, suc, ◌+◌, ◌-◌, ◌*◌}
use Rattle.numbers.specs.Choice.{pick, both}
use Rattle.numbers.specs.Offset.{zero_at}
use Rattle.params.specs.Params.{nben_of, counting_of, capacity_of}
use Rattle.state.specs.declared.Cells.{Cells}
use Rattle.state.specs.declared.Meter.{Meter}
use Rattle.state.specs.State.{no_flow, powered_of}
use Rattle.conversion.specs.Conversion.{current_of, traced_of, blanked_of, grown_of, aged_of, cycled_of, filled_of, averaged_of, next_made, with_charge}
use Rattle.conversion.specs.Conversion.{with_flow}
use Rattle.conversion.specs.Conversion.{convert_of, charge_in, corrects_full}
use Rattle.reading.specs.Reading.{read_of}
use Rattle.reading.specs.Figures.{M, with_byte, plus_count, powered, read_at, Figure, ◌is◌}
use Rattle.block1.specs.Block1.{reaches_of, meter_written_of, meter_copied_of, meter_recalled_of, meter_locked_of}

-- ---- the meters

-- M with COB 5 and AB 3
abbrev block : List ℕ
block = with_byte (with_byte M 0x7b 5) 0x61 3

-- a conversion whose raw value and COB come to c
abbrev current : ℕ → Meter → Meter
current c m = convert_of m (plus_count c - 5)

abbrev currents : ℕ → ℕ → Meter → Meter
currents zero c m = m
currents (suc n) c m = currents n c (current c m)

-- ACR 1234h written over the bus
abbrev written : Meter → Meter
written m = meter_written_of m 0x10 (0x12 ∷ 0x34 ∷ [])

-- 1,022 conversions, the last six of 1,000; then one of 2,000, the 1024th with an outlier, and one of 3,000
abbrev at1022 : Meter
at1022 =
    with_flow (powered block 5000 128) (record {
      trace = record { last = zero_at 15 + 1000; before = zero_at 15 + 1000; any = true; two = true };
      average = record { made = 1022; sum = 6 * (zero_at 15 + 1000); iavg = zero_at 15 + 1000; known = true };
      since = no_flow.since;
      tick = no_flow.tick;
    })

abbrev at1023 : Meter
at1023 = current 2000 at1022

abbrev at1024 : Meter
at1024 = current 20000 at1023

abbrev at1025 : Meter
at1025 = current 3000 at1024

-- the write, the conversion after it, and the one after that
abbrev wrote : Meter
wrote = written (currents 3 1000 (powered block 5000 128))

abbrev after1 : Meter
after1 = current 1000 wrote

abbrev after2 : Meter
after2 = current 1000 after1

-- the write comes before the 1024th
abbrev both1024 : Meter
both1024 = current 20000 (written at1023)

-- AC 1 and an age counter of 32
abbrev old : Meter
old = with_charge (powered (with_byte block 0x63 1) 5000 128) (record { count = 5000 * 4096; age = 32; aging = 128; learnf = false; mark = false })

-- what a meter has
abbrev pub shown_in : Meter → ℕ
shown_in m = m.flow.trace.last

abbrev count : Meter → ℕ
count m = m.charge.count

abbrev pub made_in : Meter → ℕ
made_in m = m.flow.average.made

abbrev mark : Meter → ℕ
mark m = pick m.charge.mark 1 0

-- ---- the table

-- ACR 1234h, fraction 0
abbrev acr1234 : ℕ
acr1234 = 0x1234 * 4096

abbrev pub offset_figures : List Figure
offset_figures =
    -- W7.1. So many conversions since a power-on; then the 1023rd, 1024th and 1025th, modulo 1,024
    (made_in (currents 1022 1000 (powered block 5000 128)) ∷ made_in at1022 ∷ [] is 1022 ∷ 1022 ∷ []) ∷
    (made_in at1023 ∷ made_in at1024 ∷ made_in at1025 ∷ [] is 1023 ∷ 0 ∷ 1 ∷ []) ∷
    -- W7.5. The 1024th shows what the 1023rd did: neither its raw value nor COB is used
    (shown_in at1023 ∷ shown_in at1024 ∷ shown_in at1025 ∷ [] is (zero_at 15 + 2000) ∷ (zero_at 15 + 2000) ∷ (zero_at 15 + 3000) ∷ []) ∷
    -- W7.6. It is counted, with AB, and averaged: six c of 1,000 and two of 2,000; and it is one of the last two
    (count at1023 ∷ count at1024 ∷ count at1025 ∷ [] is (5000 * 4096 + 2003) ∷ (5000 * 4096 + 2003 + 2003)
    ∷ (5000 * 4096 + 2003 + 2003 + 3003) ∷ []) ∷
    (at1024.flow.average.iavg ∷ at1025.flow.trace.before ∷ [] is (zero_at 15 + 1250) ∷ (zero_at 15 + 2000) ∷ []) ∷
    -- W7.2, W7.9. The write sets the mark and the conversion after it uses it up
    (mark wrote ∷ mark after1 ∷ mark after2 ∷ [] is 1 ∷ 0 ∷ 0 ∷ []) ∷
    -- W7.7. That conversion adds neither c nor AB, and the one after it adds both
    (count wrote ∷ count after1 ∷ count after2 ∷ [] is acr1234 ∷ acr1234 ∷ (acr1234 + 1000 + 3) ∷ []) ∷
    -- W7.8. It shows and averages its c, and ageing is looked at
    (shown_in after1 ∷ after1.flow.average.sum ∷ [] is (zero_at 15 + 1000) ∷ (4 * (zero_at 15 + 1000)) ∷ []) ∷
    ((current 1000 (written old)).charge.aging ∷ (current 1000 (written old)).charge.age ∷ [] is 127 ∷ 0 ∷ []) ∷
    -- W7.3. A reading leaves the mark, and 11h without 10h sets none
    (mark (read_at (plus_count 320) wrote) ∷ mark (meter_written_of after2 0x11 (0x34 ∷ [])) ∷ [] is 1 ∷ 0 ∷ []) ∷
    -- W7.10. Both together: the c before is shown and nothing is added; the next adds its own
    (shown_in both1024 ∷ count both1024 ∷ count (current 3000 both1024) ∷ [] is (zero_at 15 + 2000) ∷ acr1234 ∷ (acr1234 + 3000 + 3) ∷ []) ∷
    -- W7.11. The write does not restart the count of conversions, and the conversion after it is one of them
    (made_in wrote ∷ made_in after1 ∷ made_in (written at1023) ∷ made_in both1024 ∷ [] is 3 ∷ 4 ∷ 1023 ∷ 0 ∷ []) ∷
    []

-- ---- the rules

-- a write runs over 10h and 11h, and so sets ACR
abbrev pub sets_acr : ℕ → List ℕ → Type 0
sets_acr a bytes = both (reaches_of a bytes 0x10) (reaches_of a bytes 0x11) ≡ true

abbrev pub leaves_acr : ℕ → List ℕ → Type 0
leaves_acr a bytes = both (reaches_of a bytes 0x10) (reaches_of a bytes 0x11) ≡ false

-- both are as they were
pub record SameOffset (after before : Meter) : Type 0 where
  pub made : made_in after ≡ made_in before
  pub mark : after.charge.mark ≡ before.charge.mark

-- what a conversion does with its c, and with the mark
pub record OffsetSteps : Type 0 where
  -- "shown, averaged and counted": of every conversion, the 1024th too, the c that is shown is the later of the last two CURRENTs, goes into the run of
  -- eight that IAVG is the average of, and is counted, with blanking and AB as they stand, unless the mark is set; full, where it is found, sets ACR
  pub traced : (m : Meter) (raw : ℕ) → (convert_of m raw).flow.trace ≡ traced_of m.flow.trace (shown_in (convert_of m raw))
  pub averaged : (m : Meter) (raw : ℕ) → (convert_of m raw).flow.average ≡ averaged_of m.flow.average (shown_in (convert_of m raw))
  pub counted : (m : Meter) (raw : ℕ) → m.charge.mark ≡ false → corrects_full m raw ≡ false → (convert_of m raw).charge.count
      ≡ grown_of m.charge.count (blanked_of m.cells.profile (nben_of m.cells.block.shadow) (shown_in (convert_of m raw)))
      (counting_of m.cells.block.shadow).ab
  -- a conversion that finds the mark does the other steps as ever, with ACR fallen by 0: the age counter is looked at, the cycle counter goes on from its
  -- rest, and full may be found
  pub age_counter : (m : Meter) (raw : ℕ) → m.charge.mark ≡ true → corrects_full m raw ≡ false
      → (convert_of m raw).charge.age ≡ (aged_of (counting_of m.cells.block.shadow).ac m.charge.age m.charge.aging).age
  pub ages : (m : Meter) (raw : ℕ) → m.charge.mark ≡ true → corrects_full m raw ≡ false
      → (convert_of m raw).charge.aging ≡ (aged_of (counting_of m.cells.block.shadow).ac m.charge.age m.charge.aging).aging
  pub cycles_on_lem : (m : Meter) (raw : ℕ) → m.charge.mark ≡ true
      → (convert_of m raw).cycles ≡ cycled_of m.cells.profile (capacity_of m.cells.block.shadow).full40 m.cycles 0
  pub finds_full : (m : Meter) (raw : ℕ) → corrects_full m raw ≡ true
      → (convert_of m raw).charge ≡ filled_of (charge_in m raw) m.shown.model.full (capacity_of m.cells.block.shadow).full40

pub record OffsetRules : Type 0 where
  -- "a conversion count since power-on, modulo 1,024": each conversion counts one, no reading and no write does
  pub counts : (m : Meter) (raw : ℕ) → made_in (convert_of m raw) ≡ next_made (made_in m)
  pub read_counts_none : (m : Meter) (volt temp : ℕ) → made_in (read_of m volt temp) ≡ made_in m
  pub write_counts_none : (m : Meter) (a : ℕ) (bytes : List ℕ) → made_in (meter_written_of m a bytes) ≡ made_in m
  -- "On the 1024th, the previous c is shown ..; the raw value is ignored"; on every other c is raw + COB
  pub previous : (m : Meter) (raw : ℕ) → made_in m ≡ 1023 → shown_in (convert_of m raw) ≡ shown_in m
  pub ignored : (m : Meter) (raw other : ℕ) → made_in m ≡ 1023 → convert_of m raw ≡ convert_of m other
  pub own : (m : Meter) (raw : ℕ) → (made_in m ≡ 1023 → ⊥) → shown_in (convert_of m raw) ≡ current_of raw (counting_of m.cells.block.shadow).cob
  -- "a mark after an ACR write", "by bus only": no other write or command, no reading and no correction sets it, and a conversion uses it up
  pub marks : (m : Meter) (a : ℕ) (bytes : List ℕ) → sets_acr a bytes → (meter_written_of m a bytes).charge.mark ≡ true
  pub marks_only : (m : Meter) (a : ℕ) (bytes : List ℕ) → leaves_acr a bytes → (meter_written_of m a bytes).charge.mark ≡ m.charge.mark
  pub copy_leaves_both : (m : Meter) (a : ℕ) → SameOffset (meter_copied_of m a) m
  pub recall_leaves_both : (m : Meter) (a : ℕ) → SameOffset (meter_recalled_of m a) m
  pub lock_leaves_both : (m : Meter) (a : ℕ) → SameOffset (meter_locked_of m a) m
  pub read_leaves_mark : (m : Meter) (volt temp : ℕ) → (read_of m volt temp).charge.mark ≡ m.charge.mark
  pub used : (m : Meter) (raw : ℕ) → (convert_of m raw).charge.mark ≡ false
  -- and "adds nothing to the count, AB included", unless it finds full, which sets ACR
  pub adds_nothing : (m : Meter) (raw : ℕ) → m.charge.mark ≡ true → corrects_full m raw ≡ false → (convert_of m raw).charge.count ≡ m.charge.count
  -- the other steps
  pub steps : OffsetSteps
  -- "power-on clears both"
  pub power_on_count : (c : Cells) → made_in (powered_of c) ≡ 0
  pub power_on_mark : (c : Cells) → (powered_of c).charge.mark ≡ false
