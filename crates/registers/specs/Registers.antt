-- What a read finds: table 2 of 001 with document 01's rules. Two-byte registers stand high byte first.
use Rattle.std.specs.Prelude.{ℕ, ◌+◌, ◌-◌, ◌*◌, ◌/◌, ◌%◌, ◌^◌, Bool, List, [], ◌∷◌, ltb, get_or, set}
use Rattle.numbers.specs.Choice.{pick}
use Rattle.numbers.specs.Offset.{zero_at}
use Rattle.state.specs.declared.Flags.{Flags}
use Rattle.state.specs.State.{counts_cycles, acr_of, fraction_of}
use Rattle.state.specs.declared.Cycles.{Cycles}
use Rattle.state.specs.declared.Cells.{Cells}
use Rattle.state.specs.declared.Locks.{Locks}
use Rattle.state.specs.declared.Meter.{Meter}
use Rattle.state.specs.declared.Common.{Common}
use Rattle.label.specs.Label.{in_block}
use Rattle.registers.specs.declared.Pair.{Pair}

-- the two bytes of a register
abbrev pub upper_of : ℕ → ℕ
upper_of x = x / 256

abbrev pub lower_of : ℕ → ℕ
lower_of x = x % 256

-- a signed register in two's complement, of a number that is kept as z + 2^15
abbrev pub word_of : ℕ → ℕ
word_of x = (x + zero_at 15) % 2 ^ 16

-- a flag in its place
abbrev pub flag_of : Bool → ℕ → ℕ
flag_of on weight = pick on weight 0

-- 01h: CHGTF, AEF, SEF, LEARNF in bits 7 to 4 and PORF in bit 1; UVF and the reserved bits read 0
unfoldable pub status_of : Flags → Bool → ℕ
status_of flags learnf =
    flag_of flags.chgtf 128 + flag_of flags.aef 64 + flag_of flags.sef 32 + flag_of learnf 16 + flag_of flags.porf 2

-- 1Eh: the cycle counter; FFh where the profile has none
abbrev pub cycle_byte : Cells → Cycles → ℕ
cycle_byte cells cycles = pick (counts_cycles cells.profile) cycles.count 0xff

-- 1Fh: LOCK in bit 6, BL1 and BL0 in bits 1 and 0; EEC and the reserved bits read 0
unfoldable pub eeprom_of : Common → Locks → ℕ
eeprom_of common locks = flag_of locks.lock 64 + flag_of locks.bl1 2 + flag_of common.bl0 1

-- VOLT is the count × 32; TEMP too, and a temperature kept as z + 2^10 times 32 is one kept as z + 2^15
abbrev pub volt_register : Meter → ℕ
volt_register meter = meter.shown.reading.volt * 32

abbrev pub temp_word_of : ℕ → ℕ
temp_word_of temp = word_of (temp * 32)

abbrev pub temp_register : Meter → ℕ
temp_register meter = temp_word_of meter.shown.reading.temp

-- ACRL is the 12-bit fraction × 16
abbrev pub acrl_register : Meter → ℕ
acrl_register meter = fraction_of meter.charge.count * 16

-- 00h to 1Fh, a line a register
unfoldable pub registers_of : Common → Meter → List ℕ
registers_of common meter =
    0xff
    ∷ status_of meter.shown.flags meter.charge.learnf
    ∷ upper_of meter.shown.results.raac ∷ lower_of meter.shown.results.raac
    ∷ upper_of meter.shown.results.rsac ∷ lower_of meter.shown.results.rsac
    ∷ meter.shown.results.rarc
    ∷ meter.shown.results.rsrc
    ∷ upper_of (word_of meter.flow.average.iavg) ∷ lower_of (word_of meter.flow.average.iavg)
    ∷ upper_of (temp_register meter) ∷ lower_of (temp_register meter)
    ∷ upper_of (volt_register meter) ∷ lower_of (volt_register meter)
    ∷ upper_of (word_of meter.flow.trace.last) ∷ lower_of (word_of meter.flow.trace.last)
    ∷ upper_of (acr_of meter.charge.count) ∷ lower_of (acr_of meter.charge.count)
    ∷ upper_of (acrl_register meter) ∷ lower_of (acrl_register meter)
    ∷ meter.charge.aging
    ∷ 0x00
    ∷ upper_of meter.shown.model.full ∷ lower_of meter.shown.model.full
    ∷ upper_of meter.shown.model.ae ∷ lower_of meter.shown.model.ae
    ∷ upper_of meter.shown.model.se ∷ lower_of meter.shown.model.se
    ∷ 0xff ∷ 0xff
    ∷ cycle_byte meter.cells meter.cycles
    ∷ eeprom_of common meter.cells.locks
    ∷ []

-- the two bytes of a register, and those of two registers of one byte
abbrev pub pair_of : ℕ → Pair
pair_of x = record { high = upper_of x; low = lower_of x }

abbrev pub two_of : ℕ → ℕ → Pair
two_of high low = record { high = high; low = low }

-- what stands at an address and behind it
abbrev pub register_of : Common → Meter → ℕ → Pair
register_of common meter at = two_of (get_or (registers_of common meter) at 0) (get_or (registers_of common meter) (at + 1) 0)

-- the bytes from 00h on with such a pair put in at an address
abbrev pub put_of : List ℕ → ℕ → Pair → List ℕ
put_of bytes at pair = set (set bytes at pair.high) (at + 1) pair.low

-- the byte at an address, by the common part and the meter: a register below 20h, a byte of block 1's shadow at 60h..7Fh, and FFh at any other,
-- past FFh too. The label's bytes at 20h..2Fh are not here: `read_byte` of `replies` takes them first
unfoldable pub meter_byte : Common → Meter → ℕ → ℕ
meter_byte common meter a =
    pick (ltb a 0x20) (get_or (registers_of common meter) a 0)
    (pick (in_block a) (get_or meter.cells.block.shadow (a - 0x60) 0) 0xff)
