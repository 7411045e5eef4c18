-- What a write, a copy, a recall and a lock do to the meter: what gauge events touch is a function of the meter.
use Rattle.std.specs.Prelude.{ℕ, ◌+◌, ◌-◌, ◌/◌, ◌%◌, ◌≡◌, Bool, false, List, eqb, leb, ltb, length, get_or}
use Rattle.numbers.specs.Choice.{pick, both, either, but_not}
use Rattle.numbers.specs.Offset.{joined_of}
use Rattle.slices.specs.Slices.{laid_of}
use Rattle.state.specs.declared.Charge.{Charge}
use Rattle.conversion.specs.Conversion.{set_of, marked_of, with_flags}
use Rattle.state.specs.State.{counts_cycles}
use Rattle.state.specs.declared.Cycles.{Cycles}
use Rattle.state.specs.declared.Flags.{Flags}
use Rattle.state.specs.declared.Block.{Block}
use Rattle.state.specs.declared.Locks.{Locks}
use Rattle.state.specs.declared.Cells.{Cells}
use Rattle.state.specs.declared.Meter.{Meter}
use Rattle.label.specs.Label.{in_label, in_block}

-- ---- a meter with its cells replaced, and cells with a part replaced

abbrev pub with_cells : Meter → Cells → Meter
with_cells meter cells = record { cells = cells; charge = meter.charge; cycles = meter.cycles; flow = meter.flow; shown = meter.shown }

abbrev pub with_block : Cells → Block → Cells
with_block cells block = record { profile = cells.profile; block = block; locks = cells.locks; saved = cells.saved }

abbrev pub with_locks : Cells → Locks → Cells
with_locks cells locks = record { profile = cells.profile; block = cells.block; locks = locks; saved = cells.saved }

-- ---- 6Ch: bytes written from the address a upward. A write runs upward and nothing wraps, so that it reaches each address at most once

unfoldable pub reaches_of : ℕ → List ℕ → ℕ → Bool
reaches_of a bytes x = both (leb a x) (ltb x (a + length bytes))

-- the byte for an address that it reaches
abbrev pub byte_for : ℕ → List ℕ → ℕ → ℕ
byte_for a bytes x = get_or bytes (x - a) 0

abbrev pub bit_in : ℕ → ℕ → Bool
bit_in b weight = eqb (b / weight % 2) 1

-- 01h clears PORF if bit 1 is 0
unfoldable pub porf_written_of : Bool → ℕ → List ℕ → Bool
porf_written_of porf a bytes = pick (reaches_of a bytes 0x01) (both porf (bit_in (byte_for a bytes 0x01) 2)) porf

-- 10h is held within its transaction and 11h after it sets ACR, clears the fraction and LEARNF. 11h without 10h is dropped: a write that
-- starts at 11h does not reach 10h. "a mark after an ACR write": the next conversion adds nothing
unfoldable pub acr_written_of : Charge → ℕ → List ℕ → Charge
acr_written_of charge a bytes =
    pick (both (reaches_of a bytes 0x10) (reaches_of a bytes 0x11))
    (marked_of (set_of charge (joined_of (byte_for a bytes 0x10) (byte_for a bytes 0x11)) false))
    charge

-- 1Fh takes bit 6 (LOCK) only
unfoldable pub lock_written_of : Bool → ℕ → List ℕ → Bool
lock_written_of lock a bytes = pick (reaches_of a bytes 0x1f) (bit_in (byte_for a bytes 0x1f) 64) lock

-- 1Eh: the cycle counter of a profile that has one is "writable only while block 1 is unlocked"; the rest stays
unfoldable pub cycles_written_of : Cycles → Cells → ℕ → List ℕ → Cycles
cycles_written_of cycles cells a bytes =
    pick (both (reaches_of a bytes 0x1e) (but_not (counts_cycles cells.profile) cells.locks.bl1))
    (record { count = byte_for a bytes 0x1e; rest = cycles.rest })
    cycles

-- 60h..7Fh, unless locked
unfoldable pub block_written_of : Block → Bool → ℕ → List ℕ → Block
block_written_of block locked a bytes =
    pick locked block (record { shadow = laid_of 0x60 0x80 block.shadow a bytes; eeprom = block.eeprom })

abbrev pub cells_written_of : Cells → ℕ → List ℕ → Cells
cells_written_of cells a bytes = record {
  profile = cells.profile;
  block = block_written_of cells.block cells.locks.bl1 a bytes;
  locks = record { lock = lock_written_of cells.locks.lock a bytes; bl1 = cells.locks.bl1 };
  saved = cells.saved;
}

abbrev pub flags_written_of : Flags → ℕ → List ℕ → Flags
flags_written_of flags a bytes = record { porf = porf_written_of flags.porf a bytes; chgtf = flags.chgtf; aef = flags.aef; sef = flags.sef }

-- all else is dropped, a byte at 14h too: no host sets AS
unfoldable pub meter_written_of : Meter → ℕ → List ℕ → Meter
meter_written_of meter a bytes = record {
  cells = cells_written_of meter.cells a bytes;
  charge = acr_written_of meter.charge a bytes;
  cycles = cycles_written_of meter.cycles meter.cells a bytes;
  flow = meter.flow;
  shown = with_flags meter.shown (flags_written_of meter.shown.flags a bytes);
}

-- ---- 48h and B8h at the address a

-- shadow to EEPROM if it is block 1's, unless locked
unfoldable pub block_copied_of : Block → Bool → ℕ → Block
block_copied_of block locked a = pick (but_not (in_block a) locked) (record { shadow = block.shadow; eeprom = block.shadow }) block

-- EEPROM to shadow if it is block 1's, locked or not
unfoldable pub block_recalled_of : Block → ℕ → Block
block_recalled_of block a = pick (in_block a) (record { shadow = block.eeprom; eeprom = block.eeprom }) block

-- a meter with another block 1
abbrev pub reblocked_of : Meter → Block → Meter
reblocked_of meter block = with_cells meter (with_block meter.cells block)

unfoldable pub meter_copied_of : Meter → ℕ → Meter
meter_copied_of meter a = reblocked_of meter (block_copied_of meter.cells.block meter.cells.locks.bl1 a)

unfoldable pub meter_recalled_of : Meter → ℕ → Meter
meter_recalled_of meter a = reblocked_of meter (block_recalled_of meter.cells.block a)

-- ---- 6Ah at the address a: if LOCK is 1, the block's lock bit is set and LOCK cleared

-- LOCK is the meter's, for block 0 too; the lock bit of block 0 is not
abbrev pub locks_locked_of : Locks → ℕ → Locks
locks_locked_of locks a = record {
  lock = but_not locks.lock (either (in_label a) (in_block a));
  bl1 = either locks.bl1 (both locks.lock (in_block a));
}

unfoldable pub meter_locked_of : Meter → ℕ → Meter
meter_locked_of meter a = with_cells meter (with_locks meter.cells (locks_locked_of meter.cells.locks a))

-- ---- the size of block 1

pub record BlockSized (b : Block) : Type 0 where
  pub shadow : length b.shadow ≡ 32
  pub eeprom : length b.eeprom ≡ 32
