-- What the code tests of the bytes of a gauge: that each flag is 0 or 1, and each number within its bound.
use Rattle.std.specs.Prelude.{Bool, true, List, ℕ, zero, suc, ◌+◌, ◌*◌, ◌%◌, ◌^◌, eqb, leb, ltb, get_or}
use Rattle.std.specs.Int.Bits.{bit_and}
use Rattle.numbers.specs.Choice.{both}
use Rattle.slices.specs.Slices.{pair_at, quad_at}
use Rattle.state_bytes.specs.Layout.{flag_in, plain_at}
use Rattle.state_bytes.specs.State.{profile_in, uncounted_by, sound_meter, gauge_layout}

-- the gauge from an index on is well-formed, and its flags are 0 or 1
abbrev pub sound_place : List ℕ → ℕ → Bool
sound_place b at = both (sound_meter (gauge_layout.at b at).meter) (plain_at b (gauge_layout.flags_from at))

-- and so is each of n gauges that stand one behind the other from an index on, the first i left out
abbrev pub sound_places : List ℕ → ℕ → ℕ → ℕ → Bool
sound_places b from i zero = true
sound_places b from i (suc n) = both (sound_place b (from + i * 170)) (sound_places b from (i + 1) n)

-- ---- bytes below a power of two: their upper bits are 0, which is tested of eight at once

-- the number of eight bytes at an index, the low byte first
abbrev pub octet_at : List ℕ → ℕ → ℕ
octet_at s at = quad_at s at + 2 ^ 32 * quad_at s (at + 4)

-- no bit of a mask is set
unfoldable pub clear_of : ℕ → ℕ → Bool
clear_of word mask = eqb (bit_and word mask) 0

-- BL0, the profile, LOCK and BL1; the count, LEARNF and the mark; the flags of the currents and of the lowest voltage; how many conversions were made,
-- the flags of the average and of the tick; the voltage, the temperature and the flags that are shown
unfoldable pub clear_octets : List ℕ → ℕ → Bool
clear_octets s at =
    both (clear_of (octet_at s (at + 40)) 0xfefefe00000000fe)
    (both (clear_of (octet_at s (at + 112)) 0x00fefef000000000)
    (both (clear_of (octet_at s (at + 123)) 0x00fefe00000000fe)
    (both (clear_of (octet_at s (at + 134)) 0xfe0000fefc000000) (clear_of (octet_at s (at + 162)) 0xfefefefefef800fc))))

-- ---- numbers that have another bound

-- FULL; the age counter, below 32 × 65,535; AS; the sum of the currents; and a profile without a cycle counter counts none
unfoldable pub sound_numbers : List ℕ → ℕ → Bool
sound_numbers s at =
    both (leb (pair_at s (at + 149)) 16384)
    (both (ltb (quad_at s (at + 119)) 2097120)
    (both (leb 63 (get_or s (at + 112) 0))
    (both (leb (get_or s (at + 112) 0) 128)
    (both (leb (quad_at s (at + 132)) (65535 * (get_or s (at + 136) 0 % 8)))
    (uncounted_by (profile_in (flag_in (get_or s (at + 45) 0)))
    (record { count = get_or s (at + 144) 0; rest = quad_at s (at + 145) })
    (get_or s (at + 44) 0))))))
