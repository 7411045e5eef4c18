-- The parameters of block 1, by table 3 of 001. A definition takes the 32 shadow bytes from 60h on. Parameter bytes are unsigned but
-- for COB, AB and the breakpoints, which are kept as z + 2^7; two-byte parameters stand high byte first.
use Rattle.std.specs.Prelude.{ℕ, ◌+◌, ◌-◌, ◌/◌, ◌%◌, Bool, List, leb, eqb, get_or}
use Rattle.numbers.specs.Offset.{offset8_of, joined_of}
use Rattle.params.specs.declared.Counting.{Counting}
use Rattle.params.specs.declared.Limits.{Limits}
use Rattle.params.specs.declared.Capacity.{Capacity}
use Rattle.params.specs.declared.Breaks.{Breaks}
use Rattle.params.specs.declared.Slopes.{Slopes}
use Rattle.params.specs.declared.Curves.{Curves}

-- the byte at an address of block 1
abbrev pub byte_at : List ℕ → ℕ → ℕ
byte_at block address = get_or block (address - 0x60) 0

-- a signed byte, and two bytes high byte first
abbrev pub signed_at : List ℕ → ℕ → ℕ
signed_at block address = offset8_of (byte_at block address)

abbrev pub joined_at : List ℕ → ℕ → ℕ → ℕ
joined_at block high low = joined_of (byte_at block high) (byte_at block low)

-- 60h CONTROL: NBEN is bit 7, RNAOP bit 4
abbrev pub nben_of : List ℕ → Bool
nben_of block = leb 128 (byte_at block 0x60)

abbrev pub rnaop_of : List ℕ → Bool
rnaop_of block = eqb (byte_at block 0x60 / 16 % 2) 1

-- what a count is worked out with: NBEN, AB, AC, COB
abbrev pub counting_of : List ℕ → Counting
counting_of block = record {
  nben = nben_of block;
  ab = signed_at block 0x61;
  ac = joined_at block 0x62 0x63;
  cob = signed_at block 0x7b;
}

-- VCHG, IMIN, VAE, IAE
abbrev pub limits_of : List ℕ → Limits
limits_of block = record {
  vchg = byte_at block 0x64;
  imin = byte_at block 0x65;
  vae = byte_at block 0x66;
  iae = byte_at block 0x67;
}

-- RSNSP, Full40
abbrev pub capacity_of : List ℕ → Capacity
capacity_of block = record { rsnsp = byte_at block 0x69; full40 = joined_at block 0x6a 0x6b }

-- TBP34, TBP23, TBP12
abbrev pub breaks_of : List ℕ → Breaks
breaks_of block = record { b34 = signed_at block 0x7c; b23 = signed_at block 0x7d; b12 = signed_at block 0x7e }

-- the slopes of a line, which stand from segment 4 to 1
abbrev pub slopes_of : List ℕ → ℕ → Slopes
slopes_of block address = record {
  s4 = byte_at block address;
  s3 = byte_at block (address + 1);
  s2 = byte_at block (address + 2);
  s1 = byte_at block (address + 3);
}

-- the breakpoints, byte 68h and the slopes of Full, AE and SE
abbrev pub curves_of : List ℕ → Curves
curves_of block = record {
  breaks = breaks_of block;
  start = byte_at block 0x68;
  full = slopes_of block 0x6c;
  ae = slopes_of block 0x70;
  se = slopes_of block 0x74;
}
