-- THE BUS BYTES of document 01, as rules of every gauge: whom the first byte and an address select, what copy and recall carry, and what a transaction, a lock
-- and a power-on cannot change.
use Rattle.std.specs.Prelude.{◌≡◌, Bool, true, false, List, ◌∷◌, ◌++◌, ℕ, ◌+◌, ◌-◌, ◌≤◌, ◌<◌, length, get_or, take, drop, replicate}
use Rattle.params.specs.Params.{rnaop_of}
use Rattle.slices.specs.Slices.{laid_of}
use Rattle.state.specs.declared.Common.{Common}
use Rattle.state.specs.declared.Locks.{Locks}
use Rattle.state.specs.declared.Meter.{Meter}
use Rattle.state.specs.State.{counts_cycles, restarted_of}
use Rattle.block1.specs.Block1.{with_cells, with_locks}
use Rattle.label.specs.Label.{in_label, in_block}
use Rattle.bus.specs.declared.Transaction.{Transaction}
use Rattle.bus.specs.Ask.{own_of, asked_of}
use Rattle.replies.specs.Reply.{selected_of, net_byte, listed}
use Rattle.record.specs.declared.Change.{Change}
use Rattle.gauge.specs.declared.Gauge.{Gauge}
use Rattle.gauge.specs.Gauge.{written_of, copied_of, recalled_of, locked_of, reading_of, power_on_of}
use Rattle.gauge.specs.Change.{changed_of}
use Rattle.gauge.specs.Act.{act_of, reply_of}
use Rattle.demands.specs.Images.{profile_of}

-- the first of the master's bytes; where there is none, 0, which is none of the four that mean something
abbrev pub first_byte : List ℕ → ℕ
first_byte master = get_or master 0 0

-- whether the master's bytes select the gauge of an address, in a record of either form: with any start and read count
abbrev pub selects : List ℕ → ℕ → ℕ → List ℕ → Bool
selects address start count master = selected_of address (asked_of start count master) master

-- a reply of so many bytes, all FFh
abbrev pub all_high : ℕ → List ℕ
all_high count = replicate count 0xff

-- a gauge with other locks
abbrev pub relocked_as : Gauge → Common → Locks → Gauge
relocked_as gauge common locks = record { common = common; label = gauge.label; meter = with_cells gauge.meter (with_locks gauge.meter.cells locks) }

pub record BusRules : Type 0 where
  -- "55h with the 8 own address bytes selects": these and no others. "All else: nothing happens"
  pub own : (address rest : List ℕ) → length address ≡ 8 → own_of address (0x55 ∷ (address ++ rest)) ≡ true
  pub own_only : (address master : List ℕ) → own_of address master ≡ true → take 8 (drop 1 master) ≡ address
  pub match_selects : (address rest : List ℕ) (start count : ℕ) → length address ≡ 8 → selects address start count (0x55 ∷ (address ++ rest)) ≡ true
  pub match_only : (address rest : List ℕ) (start count : ℕ) → selects address start count (0x55 ∷ rest) ≡ true → take 8 rest ≡ address
  -- "33h (RNAOP 0) or 39h (RNAOP 1) .. replies the 8 address bytes, then FFh"
  pub net_33h : (g : Gauge) (start count : ℕ) (rest : List ℕ) → rnaop_of g.meter.cells.block.shadow ≡ false
      → reply_of g (asked_of start count (0x33 ∷ rest)) (0x33 ∷ rest) ≡ listed (net_byte g.common.address) 0 count
  pub net_39h : (g : Gauge) (start count : ℕ) (rest : List ℕ) → rnaop_of g.meter.cells.block.shadow ≡ true
      → reply_of g (asked_of start count (0x39 ∷ rest)) (0x39 ∷ rest) ≡ listed (net_byte g.common.address) 0 count
  -- "CCh selects": every gauge. No other first byte selects any, nor does a transaction without one
  pub skip_selects : (address rest : List ℕ) (start count : ℕ) → selects address start count (0xcc ∷ rest) ≡ true
  pub others_select_none : (address master : List ℕ) (start count : ℕ) → (first_byte master ≡ 0xcc → ⊥) → (first_byte master ≡ 0x55 → ⊥)
      → selects address start count master ≡ false
  -- "All else: nothing happens, every reply byte FFh.": of a gauge that is not selected, but for the net address reads; and of these the one that RNAOP
  -- does not allow
  pub unselected : (g : Gauge) (t : Transaction) (master : List ℕ) → selected_of g.common.address t master ≡ false → act_of g t master ≡ g
  pub unselected_high : (g : Gauge) (start count : ℕ) (master : List ℕ) → (first_byte master ≡ 0x33 → ⊥) → (first_byte master ≡ 0x39 → ⊥)
      → selects g.common.address start count master ≡ false → reply_of g (asked_of start count master) master ≡ all_high count
  pub wrong_33h_high : (g : Gauge) (start count : ℕ) (rest : List ℕ) → rnaop_of g.meter.cells.block.shadow ≡ true
      → reply_of g (asked_of start count (0x33 ∷ rest)) (0x33 ∷ rest) ≡ all_high count
  pub wrong_39h_high : (g : Gauge) (start count : ℕ) (rest : List ℕ) → rnaop_of g.meter.cells.block.shadow ≡ false
      → reply_of g (asked_of start count (0x39 ∷ rest)) (0x39 ∷ rest) ≡ all_high count
  -- "For copy, recall and lock an address in no block does nothing."
  pub no_block : (g : Gauge) (a : ℕ) → in_label a ≡ false → in_block a ≡ false → (copied_of g a ≡ g) × (recalled_of g a ≡ g) × (locked_of g a ≡ g)
  -- "Dropped: .. locked"; "copy: .. if unlocked": neither reaches a locked block
  pub label_locked : (g : Gauge) (a : ℕ) (bytes : List ℕ) → g.common.bl0 ≡ true
      → ((written_of g a bytes).label ≡ g.label) × ((copied_of g a).label ≡ g.label)
  pub block_locked : (g : Gauge) (a : ℕ) (bytes : List ℕ) → g.meter.cells.locks.bl1 ≡ true
      → ((written_of g a bytes).meter.cells.block ≡ g.meter.cells.block) × ((copied_of g a).meter.cells.block ≡ g.meter.cells.block)
  -- and an unlocked one takes both: a write lays its bytes over the shadow, and a copy at an address of the block carries the whole shadow to the EEPROM
  pub label_written : (g : Gauge) (a : ℕ) (bytes : List ℕ) → g.common.bl0 ≡ false
      → (written_of g a bytes).label ≡ record { shadow = laid_of 0x20 0x30 g.label.shadow a bytes; eeprom = g.label.eeprom }
  pub block_written : (g : Gauge) (a : ℕ) (bytes : List ℕ) → g.meter.cells.locks.bl1 ≡ false → (written_of g a bytes).meter.cells.block
      ≡ record { shadow = laid_of 0x60 0x80 g.meter.cells.block.shadow a bytes; eeprom = g.meter.cells.block.eeprom }
  pub label_copied : (g : Gauge) (a : ℕ) → g.common.bl0 ≡ false → in_label a ≡ true
      → (copied_of g a).label ≡ record { shadow = g.label.shadow; eeprom = g.label.shadow }
  pub block_copied : (g : Gauge) (a : ℕ) → g.meter.cells.locks.bl1 ≡ false → in_block a ≡ true
      → (copied_of g a).meter.cells.block ≡ record { shadow = g.meter.cells.block.shadow; eeprom = g.meter.cells.block.shadow }
  -- "recall: EEPROM to shadow, locked or not"
  pub label_recalled : (g : Gauge) (a : ℕ) → in_label a ≡ true → (recalled_of g a).label ≡ record { shadow = g.label.eeprom; eeprom = g.label.eeprom }
  pub block_recalled : (g : Gauge) (a : ℕ) → in_block a ≡ true
      → (recalled_of g a).meter.cells.block ≡ record { shadow = g.meter.cells.block.eeprom; eeprom = g.meter.cells.block.eeprom }
  -- [12]: the cycle counter "is writable only while block 1 is unlocked", its rest stays; a DS2781 has none; and neither copy nor recall reaches it
  pub counter_written : (g : Gauge) (a : ℕ) (bytes : List ℕ) → counts_cycles (profile_of g) ≡ true → g.meter.cells.locks.bl1 ≡ false
      → a ≤ 0x1e → 0x1e < a + length bytes → (written_of g a bytes).meter.cycles ≡ record { count = get_or bytes (0x1e - a) 0; rest = g.meter.cycles.rest }
  pub counter_locked : (g : Gauge) (a : ℕ) (bytes : List ℕ) → g.meter.cells.locks.bl1 ≡ true → (written_of g a bytes).meter.cycles ≡ g.meter.cycles
  pub counter_none : (g : Gauge) (a : ℕ) (bytes : List ℕ) → counts_cycles (profile_of g) ≡ false → (written_of g a bytes).meter.cycles ≡ g.meter.cycles
  pub counter_left : (g : Gauge) (a : ℕ) → ((copied_of g a).meter.cycles ≡ g.meter.cycles) × ((recalled_of g a).meter.cycles ≡ g.meter.cycles)
  -- "6Ah lock: if the LOCK bit is 1, lock the block and clear LOCK.": and else nothing
  pub label_locks : (g : Gauge) (a : ℕ) → g.meter.cells.locks.lock ≡ true → in_label a ≡ true
      → ((locked_of g a).common.bl0 ≡ true) × ((locked_of g a).meter.cells.locks.lock ≡ false)
  pub block_locks : (g : Gauge) (a : ℕ) → g.meter.cells.locks.lock ≡ true → in_block a ≡ true
      → (locked_of g a).meter.cells.locks ≡ record { lock = false; bl1 = true }
  pub lock_needs_bit : (g : Gauge) (a : ℕ) → g.meter.cells.locks.lock ≡ false → locked_of g a ≡ g
  -- "Saved cells belong to neither block and no lock covers them.": no transaction changes them, and a reading saves the same whatever is locked
  pub saved_untouched : (g : Gauge) (t : Transaction) (master : List ℕ) → (act_of g t master).meter.cells.saved ≡ g.meter.cells.saved
  pub save_ignores_locks : (g : Gauge) (common : Common) (locks : Locks) (volt temp : ℕ)
      → (reading_of (relocked_as g common locks) volt temp).meter.cells.saved ≡ (reading_of g volt temp).meter.cells.saved
  -- no event changes the address, or the profile that the image picked
  pub address_kept : (g : Gauge) (c : Change) → (changed_of g c).common.address ≡ g.common.address
  pub address_acted : (g : Gauge) (t : Transaction) (master : List ℕ) → (act_of g t master).common.address ≡ g.common.address
  pub profile_kept : (g : Gauge) (c : Change) → profile_of (changed_of g c) ≡ profile_of g
  pub profile_acted : (g : Gauge) (t : Transaction) (master : List ℕ) → profile_of (act_of g t master) ≡ profile_of g
  -- "BL1 and BL0 .. outlive every power-on"; and of a meter nothing else does but the profile, the EEPROM of block 1 and the saved cells
  pub locks_outlive : (g : Gauge) → ((power_on_of g).common.bl0 ≡ g.common.bl0) × ((power_on_of g).meter.cells.locks.bl1 ≡ g.meter.cells.locks.bl1)
  pub power_on_alike : (m n : Meter) → m.cells.profile ≡ n.cells.profile → m.cells.block.eeprom ≡ n.cells.block.eeprom
      → m.cells.saved ≡ n.cells.saved → m.cells.locks.bl1 ≡ n.cells.locks.bl1 → restarted_of m ≡ restarted_of n
