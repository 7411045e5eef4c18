-- The bus bytes as rules of every gauge, proved.
use mathlib.Core.Path.{◌≡◌, refl, sym, ap, ◌∙◌}
use mathlib.Core.Bool.{Bool, true, false}
use mathlib.Core.List.{List, [], ◌∷◌, ◌++◌}
use Prim.Native.Nat.{ℕ, zero, suc, ◌+◌, ◌-◌, ◌≤◌, ◌<◌}
use borrow.Author.Tests.{eqb-true, le-leb, lt-ltb}
use lib.Dec.{ltb, eqb}
use lib.ListN.{length, get_or, take}
use Rattle.numbers.specs.Choice.{both, either, but_not}
use Rattle.numbers.proofs.Bounds.{picked}
use Rattle.params.specs.Params.{rnaop_of}
use Rattle.slices.specs.Slices.{laid_of}
use Rattle.state.specs.declared.Common.{Common}
use Rattle.state.specs.declared.Label.{Label}
use Rattle.state.specs.declared.Meter.{Meter}
use Rattle.state.specs.declared.Profile.{Profile}
use Rattle.state.specs.State.{counts_cycles, powered_of, restarted_of}
use Rattle.label.specs.Label.{in_label, in_block, label_written_of, label_copied_of, label_recalled_of, common_locked_of}
use Rattle.block1.specs.Block1.{with_cells, with_locks, reaches_of, cycles_written_of, block_written_of, meter_written_of, block_copied_of, meter_copied_of}
use Rattle.block1.specs.Block1.{block_recalled_of, meter_recalled_of, meter_locked_of}
use Rattle.block1.proofs.Kept.{written_locked, copied_locked, cycles_uncounted, cycles_locked}
use Rattle.label.proofs.Kept.{but_none, label_written_locked, label_copied_locked}
use Rattle.bus.specs.declared.Rom.{Rom}
use Rattle.bus.specs.declared.Rom.TheVariants.{Net33, Net39, Skip, Match, Quiet}
use Rattle.bus.specs.declared.Transaction.{Transaction}
use Rattle.bus.specs.Ask.{rom_by, rom_of, asked_at, asked_by, asked_of}
use Rattle.bus.proofs.Laws.{own_own, own_only, asked_placed}
use Rattle.replies.specs.declared.Source.{Source}
use Rattle.replies.specs.declared.Source.TheVariants.{Address, Idle}
use Rattle.replies.specs.Reply.{selected_by, selected_of, net_source_of, net_byte, source_byte, listed}
use Rattle.gauge.specs.declared.Gauge.{Gauge}
use Rattle.gauge.specs.Gauge.{written_of, copied_of, recalled_of, locked_of, power_on_of}
use Rattle.gauge.specs.Act.{act_of, reply_of}
use Rattle.gauge.proofs.Kept.{saved_untouched, address_kept, no_block, save_ignores_locks}
use Rattle.demands.specs.Images.{profile_of}
use Rattle.demands.specs.Bus.{first_byte, selects, all_high, BusRules}

-- The first byte says who is selected

module _ (start count : ℕ) (master : List ℕ) where
  at_rom : (rom : Rom) (at : ℕ) → (asked_at start count rom at master).rom ≡ rom
  unfolding asked_at
  at_rom rom at = picked (λ (t : Transaction). t.rom ≡ rom) (ltb (length master) (at + 2)) _ _ (λ e. refl) (λ e. refl)

  by_rom : (rom : Rom) → (asked_by start count master rom).rom ≡ rom
  by_rom Skip = at_rom Skip 1
  by_rom Match = at_rom Match 9
  by_rom Net33 = refl
  by_rom Net39 = refl
  by_rom Quiet = refl

  asked_rom : (asked_of start count master).rom ≡ rom_of master
  unfolding asked_of
  asked_rom = by_rom (rom_of master)

  selected_by_lem : (address : List ℕ) → selects address start count master ≡ selected_by (rom_of master) address master
  unfolding selected_of
  selected_by_lem address = ap (λ (rom : Rom). selected_by rom address master) asked_rom

match_selects : (address rest : List ℕ) (start count : ℕ) → length address ≡ 8 → selects address start count (0x55 ∷ (address ++ rest)) ≡ true
unfolding rom_by
match_selects address rest start count size = selected_by_lem start count (0x55 ∷ (address ++ rest)) address ∙ own_own address rest size

match_only : (address rest : List ℕ) (start count : ℕ) → selects address start count (0x55 ∷ rest) ≡ true → take 8 rest ≡ address
unfolding rom_by
match_only address rest start count e = own_only address (0x55 ∷ rest) (sym (selected_by_lem start count (0x55 ∷ rest) address) ∙ e)

skip_selects : (address rest : List ℕ) (start count : ℕ) → selects address start count (0xcc ∷ rest) ≡ true
unfolding rom_by
skip_selects address rest start count = selected_by_lem start count (0xcc ∷ rest) address

-- what the first byte is by what it is not
first_rom : (P : Rom → Type 0) (b : ℕ) → (b ≡ 0x33 → P Net33) → (b ≡ 0x39 → P Net39) → (b ≡ 0xcc → P Skip) → (b ≡ 0x55 → P Match) → P Quiet → P (rom_by b)
unfolding rom_by
first_rom P b net33 net39 skip match quiet =
    picked P (eqb b 0x33) Net33 _ (λ e. net33 (eqb-true b 0x33 e)) (λ e.
    picked P (eqb b 0x39) Net39 _ (λ e. net39 (eqb-true b 0x39 e)) (λ e.
    picked P (eqb b 0xcc) Skip _ (λ e. skip (eqb-true b 0xcc e)) (λ e.
    picked P (eqb b 0x55) Match Quiet (λ e. match (eqb-true b 0x55 e)) (λ e. quiet))))

others_none : (address master : List ℕ) (start count : ℕ) → (first_byte master ≡ 0xcc → ⊥) → (first_byte master ≡ 0x55 → ⊥)
    → selects address start count master ≡ false
others_none address [] start count skip match = selected_by_lem start count [] address
others_none address (b ∷ rest) start count skip match =
    selected_by_lem start count (b ∷ rest) address
    ∙ first_rom (λ (rom : Rom). selected_by rom address (b ∷ rest) ≡ false) b (λ e. refl) (λ e. refl) (λ e. absurd (skip e)) (λ e. absurd (match e)) refl

-- A reply of nothing is FFh

idle_high : (common : Common) (label : Label) (meter : Meter) (n i : ℕ) → listed (source_byte common label meter Idle) i n ≡ all_high n
unfolding source_byte
idle_high common label meter zero i = refl
idle_high common label meter (suc n) i = ap (λ (l : List ℕ). 0xff ∷ l) (idle_high common label meter n (i + 1))

module _ (g : Gauge) (start count : ℕ) (master : List ℕ) where
  abbrev rnaop : Bool
  rnaop = rnaop_of g.meter.cells.block.shadow

  sourced : (source : Source) → selects g.common.address start count master ≡ false → net_source_of (rom_of master) rnaop ≡ source
      → reply_of g (asked_of start count master) master ≡ listed (source_byte g.common g.label g.meter source) 0 count
  unfolding reply_of
  sourced source none from = rw (none, asked_rom start count master, from, (asked_placed start count master).counts) refl

  quiet_high : selects g.common.address start count master ≡ false → net_source_of (rom_of master) rnaop ≡ Idle
      → reply_of g (asked_of start count master) master ≡ all_high count
  quiet_high none idle = sourced Idle none idle ∙ idle_high g.common g.label g.meter count 0

unselected_high : (g : Gauge) (start count : ℕ) (master : List ℕ) → (first_byte master ≡ 0x33 → ⊥) → (first_byte master ≡ 0x39 → ⊥)
    → selects g.common.address start count master ≡ false → reply_of g (asked_of start count master) master ≡ all_high count
unselected_high g start count [] net33 net39 none = quiet_high g start count [] none refl
unselected_high g start count (b ∷ rest) net33 net39 none =
    quiet_high g start count (b ∷ rest) none
    (first_rom (λ (rom : Rom). net_source_of rom (rnaop g start count (b ∷ rest)) ≡ Idle) b
    (λ e. absurd (net33 e)) (λ e. absurd (net39 e)) (λ e. refl) (λ e. refl) refl)

-- The net address reads

net_33h : (g : Gauge) (start count : ℕ) (rest : List ℕ) → rnaop_of g.meter.cells.block.shadow ≡ false
    → reply_of g (asked_of start count (0x33 ∷ rest)) (0x33 ∷ rest) ≡ listed (net_byte g.common.address) 0 count
unfolding rom_by source_byte
net_33h g start count rest e =
    sourced g start count (0x33 ∷ rest) Address (selected_by_lem start count (0x33 ∷ rest) g.common.address) (rw e refl)

net_39h : (g : Gauge) (start count : ℕ) (rest : List ℕ) → rnaop_of g.meter.cells.block.shadow ≡ true
    → reply_of g (asked_of start count (0x39 ∷ rest)) (0x39 ∷ rest) ≡ listed (net_byte g.common.address) 0 count
unfolding rom_by source_byte
net_39h g start count rest e =
    sourced g start count (0x39 ∷ rest) Address (selected_by_lem start count (0x39 ∷ rest) g.common.address) (rw e refl)

wrong_33h : (g : Gauge) (start count : ℕ) (rest : List ℕ) → rnaop_of g.meter.cells.block.shadow ≡ true
    → reply_of g (asked_of start count (0x33 ∷ rest)) (0x33 ∷ rest) ≡ all_high count
unfolding rom_by
wrong_33h g start count rest e = quiet_high g start count (0x33 ∷ rest) (selected_by_lem start count (0x33 ∷ rest) g.common.address) (rw e refl)

wrong_39h : (g : Gauge) (start count : ℕ) (rest : List ℕ) → rnaop_of g.meter.cells.block.shadow ≡ false
    → reply_of g (asked_of start count (0x39 ∷ rest)) (0x39 ∷ rest) ≡ all_high count
unfolding rom_by
wrong_39h g start count rest e = quiet_high g start count (0x39 ∷ rest) (selected_by_lem start count (0x39 ∷ rest) g.common.address) (rw e refl)

unselected : (g : Gauge) (t : Transaction) (master : List ℕ) → selected_of g.common.address t master ≡ false → act_of g t master ≡ g
unfolding act_of
unselected g t master e = rw e refl

label_shut : (g : Gauge) (a : ℕ) (bytes : List ℕ) → g.common.bl0 ≡ true
    → ((written_of g a bytes).label ≡ g.label) × ((copied_of g a).label ≡ g.label)
unfolding written_of copied_of
label_shut g a bytes e = (label_written_locked g.label g.common.bl0 a bytes e, label_copied_locked g.label g.common.bl0 a e)

block_shut : (g : Gauge) (a : ℕ) (bytes : List ℕ) → g.meter.cells.locks.bl1 ≡ true
    → ((written_of g a bytes).meter.cells.block ≡ g.meter.cells.block) × ((copied_of g a).meter.cells.block ≡ g.meter.cells.block)
unfolding written_of copied_of meter_written_of meter_copied_of
block_shut g a bytes e = (
  written_locked g.meter.cells.block g.meter.cells.locks.bl1 a bytes e,
  copied_locked g.meter.cells.block g.meter.cells.locks.bl1 a e,
)

counter_shut : (g : Gauge) (a : ℕ) (bytes : List ℕ) → g.meter.cells.locks.bl1 ≡ true → (written_of g a bytes).meter.cycles ≡ g.meter.cycles
unfolding written_of meter_written_of
counter_shut g a bytes e = cycles_locked g.meter.cycles g.meter.cells a bytes e

counter_none : (g : Gauge) (a : ℕ) (bytes : List ℕ) → counts_cycles (profile_of g) ≡ false → (written_of g a bytes).meter.cycles ≡ g.meter.cycles
unfolding written_of meter_written_of
counter_none g a bytes e = cycles_uncounted g.meter.cycles g.meter.cells a bytes e

-- Unlocked, a write and a copy reach a block, and a recall does whatever is locked

module _ (g : Gauge) (a : ℕ) where
  label_written : (bytes : List ℕ) → g.common.bl0 ≡ false
      → (written_of g a bytes).label ≡ record { shadow = laid_of 0x20 0x30 g.label.shadow a bytes; eeprom = g.label.eeprom }
  unfolding written_of label_written_of
  label_written bytes e = rw e refl

  block_written : (bytes : List ℕ) → g.meter.cells.locks.bl1 ≡ false → (written_of g a bytes).meter.cells.block
      ≡ record { shadow = laid_of 0x60 0x80 g.meter.cells.block.shadow a bytes; eeprom = g.meter.cells.block.eeprom }
  unfolding written_of meter_written_of block_written_of
  block_written bytes e = rw e refl

  label_copied : g.common.bl0 ≡ false → in_label a ≡ true → (copied_of g a).label ≡ record { shadow = g.label.shadow; eeprom = g.label.shadow }
  unfolding copied_of label_copied_of
  label_copied e here = rw (e, here) refl

  block_copied : g.meter.cells.locks.bl1 ≡ false → in_block a ≡ true
      → (copied_of g a).meter.cells.block ≡ record { shadow = g.meter.cells.block.shadow; eeprom = g.meter.cells.block.shadow }
  unfolding copied_of meter_copied_of block_copied_of
  block_copied e here = rw (e, here) refl

  label_recalled : in_label a ≡ true → (recalled_of g a).label ≡ record { shadow = g.label.eeprom; eeprom = g.label.eeprom }
  unfolding recalled_of label_recalled_of
  label_recalled here = rw here refl

  block_recalled : in_block a ≡ true
      → (recalled_of g a).meter.cells.block ≡ record { shadow = g.meter.cells.block.eeprom; eeprom = g.meter.cells.block.eeprom }
  unfolding recalled_of meter_recalled_of block_recalled_of
  block_recalled here = rw here refl

  counter_written : (bytes : List ℕ) → counts_cycles (profile_of g) ≡ true → g.meter.cells.locks.bl1 ≡ false → a ≤ 0x1e → 0x1e < a + length bytes
      → (written_of g a bytes).meter.cycles ≡ record { count = get_or bytes (0x1e - a) 0; rest = g.meter.cycles.rest }
  unfolding written_of meter_written_of cycles_written_of reaches_of
  counter_written bytes counts unlocked from to = rw (le-leb a 0x1e from, lt-ltb 0x1e (a + length bytes) to, counts, unlocked) refl

  counter_left : ((copied_of g a).meter.cycles ≡ g.meter.cycles) × ((recalled_of g a).meter.cycles ≡ g.meter.cycles)
  unfolding copied_of recalled_of meter_copied_of meter_recalled_of
  counter_left = (refl, refl)

-- A lock

either_set : (t : Bool) → either t true ≡ true
either_set true = refl
either_set false = refl

module _ (g : Gauge) (a : ℕ) where
  label_locks : g.meter.cells.locks.lock ≡ true → in_label a ≡ true
      → ((locked_of g a).common.bl0 ≡ true) × ((locked_of g a).meter.cells.locks.lock ≡ false)
  unfolding locked_of common_locked_of meter_locked_of
  label_locks e here = (rw (e, here) (either_set g.common.bl0), rw (e, here) refl)

  block_locks : g.meter.cells.locks.lock ≡ true → in_block a ≡ true → (locked_of g a).meter.cells.locks ≡ record { lock = false; bl1 = true }
  unfolding locked_of meter_locked_of
  block_locks e here = rw (e, here, either_set g.meter.cells.locks.bl1, either_set (in_label a)) refl

  lock_needs_bit : g.meter.cells.locks.lock ≡ false → locked_of g a ≡ g
  unfolding locked_of common_locked_of meter_locked_of
  lock_needs_bit e = λ i. record {
    common = record { address = g.common.address; bl0 = none g.common.bl0 (in_label a) i };
    label = g.label;
    meter = with_cells g.meter (with_locks g.meter.cells (record { lock = kept i; bl1 = none g.meter.cells.locks.bl1 (in_block a) i }));
  }
    where
      none : (s t : Bool) → either s (both g.meter.cells.locks.lock t) ≡ s
      none true t = refl
      none false t = rw e refl

      kept : but_not g.meter.cells.locks.lock (either (in_label a) (in_block a)) ≡ g.meter.cells.locks.lock
      kept = rw e (but_none (either (in_label a) (in_block a)))

alike : (m n : Meter) → m.cells.profile ≡ n.cells.profile → m.cells.block.eeprom ≡ n.cells.block.eeprom
    → m.cells.saved ≡ n.cells.saved → m.cells.locks.bl1 ≡ n.cells.locks.bl1 → restarted_of m ≡ restarted_of n
unfolding powered_of
alike m n profile eeprom saved bl1 = λ i. powered_of (record {
  profile = profile i;
  block = record { shadow = eeprom i; eeprom = eeprom i };
  locks = record { lock = false; bl1 = bl1 i };
  saved = saved i;
})

outlive : (g : Gauge) → ((power_on_of g).common.bl0 ≡ g.common.bl0) × ((power_on_of g).meter.cells.locks.bl1 ≡ g.meter.cells.locks.bl1)
unfolding power_on_of powered_of
outlive g = (refl, refl)

pub bus_rules : BusRules
bus_rules = record {
  own = own_own;
  own_only = own_only;
  match_selects = match_selects;
  match_only = match_only;
  net_33h = net_33h;
  net_39h = net_39h;
  skip_selects = skip_selects;
  others_select_none = others_none;
  unselected = unselected;
  unselected_high = unselected_high;
  wrong_33h_high = wrong_33h;
  wrong_39h_high = wrong_39h;
  no_block = λ g a label block. no_block g a label block;
  label_locked = label_shut;
  block_locked = block_shut;
  label_written = label_written;
  block_written = block_written;
  label_copied = label_copied;
  block_copied = block_copied;
  label_recalled = label_recalled;
  block_recalled = block_recalled;
  counter_written = counter_written;
  counter_locked = counter_shut;
  counter_none = counter_none;
  counter_left = counter_left;
  label_locks = label_locks;
  block_locks = block_locks;
  lock_needs_bit = lock_needs_bit;
  saved_untouched = saved_untouched;
  save_ignores_locks = save_ignores_locks;
  address_kept = λ g c. (address_kept (λ (f : Profile) (address : List ℕ). address ≡ g.common.address)).change g c refl;
  address_acted = λ g t master. (address_kept (λ (f : Profile) (address : List ℕ). address ≡ g.common.address)).act g t master refl;
  profile_kept = λ g c. (address_kept (λ (f : Profile) (address : List ℕ). f ≡ profile_of g)).change g c refl;
  profile_acted = λ g t master. (address_kept (λ (f : Profile) (address : List ℕ). f ≡ profile_of g)).act g t master refl;
  locks_outlive = outlive;
  power_on_alike = alike;
}
