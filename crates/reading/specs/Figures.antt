-- FIGURES TO HOLD. "Marked (*) are proved of the definitions, as one table under one statement": `Hold figures`.
--
-- The table has three parts. `paper_figures` are the cases that document 01 marks with *, in its order: the numbers of F12 and F13 are those of request [1]
-- of document 02, those of F8 and F9 are of request [6], and W6.2 and W12.5, figures of requests [6] and [12], stand beside the cases that they are like.
-- `cycle_figures` are of the cycle counter of request [12]. The rest, at large numbers, are our own.
--
-- A row is a sentence: what the definitions give and, after `is`, what it is to be.
use Rattle.std.specs.Prelude.{◌≡◌, Bool, true, false, List, [], ◌∷◌, ◌++◌, map, ℕ, ◌+◌, ◌-◌, ◌*◌, ◌/◌, ◌%◌, ◌^◌, set}
use Rattle.numbers.specs.Offset.{zero_at}
use Rattle.state.specs.declared.Profile.{Profile}
use Rattle.state.specs.declared.Profile.TheVariants.{Ds2781, Ds2775}
use Rattle.state.specs.declared.Cycles.{Cycles}
use Rattle.conversion.specs.Conversion.{aged_full_of, with_charge, with_cycles, convert_of, all_converted}
use Rattle.state.specs.declared.Charge.{Charge}
use Rattle.state.specs.State.{acr_of, fraction_of, powered_of}
use Rattle.reading.specs.Reading.{degrees_of, read_of}
use Rattle.state.specs.declared.Meter.{Meter}

-- ---- model M

-- The bytes of block 1 by their address. What M leaves open is 0, but for VCHG and IMIN, which are 1 so that full can be found.
abbrev pub M : List ℕ
M =
    -- 60h: CONTROL, AB, AC high and low, VCHG, IMIN, VAE, IAE
    0 ∷ 0 ∷ 0 ∷ 0 ∷ 1 ∷ 1 ∷ 0 ∷ 0 ∷
    -- 68h: byte 68h, RSNSP, Full40 high and low (10,000 is 2710h), the Full slopes 4 to 1
    4 ∷ 50 ∷ 0x27 ∷ 0x10 ∷ 10 ∷ 20 ∷ 30 ∷ 40 ∷
    -- 70h: the AE slopes 4 to 1, the SE slopes 4 to 1
    5 ∷ 10 ∷ 20 ∷ 30 ∷ 1 ∷ 2 ∷ 3 ∷ 4 ∷
    -- 78h: three bytes of no effect, COB, TBP34, TBP23, TBP12, a byte of no effect
    0 ∷ 0 ∷ 0 ∷ 0 ∷ 18 ∷ 0 ∷ (256 - 12) ∷ 0 ∷ []

-- the same block, but for the byte at an address
abbrev pub with_byte : List ℕ → ℕ → ℕ → List ℕ
with_byte block address byte = set block (address - 0x60) byte

-- M with NBEN, and with AC 1
abbrev noiseless : List ℕ
noiseless = with_byte M 0x60 0x80

abbrev aging : List ℕ
aging = with_byte M 0x63 1

-- a model whose every step takes segment 4: at 0 °C FULL has fallen to 8,192, and AE is 16 × 250 + 40 × 25
abbrev steep : List ℕ
steep = with_byte (with_byte (with_byte (with_byte M 0x7c 0x80) 0x6c 255) 0x68 250) 0x70 25

-- ---- the meters and the events

-- a signed count, as an event takes it
abbrev pub plus_count : ℕ → ℕ
plus_count n = zero_at 31 + n

abbrev pub minus_count : ℕ → ℕ
minus_count n = zero_at 31 - n

-- after a power-on of a profile with this block, ACR and AS
abbrev pub powered_by : Profile → List ℕ → ℕ → ℕ → Meter
powered_by f block acr aging =
    powered_of (record {
      profile = f;
      block = record { shadow = block; eeprom = block };
      locks = record { lock = false; bl1 = false };
      saved = record { acr = acr; aging = aging; cycles = 0 };
    })

abbrev pub powered : List ℕ → ℕ → ℕ → Meter
powered = powered_by Ds2781

-- a reading at a temperature, with a voltage of 4 × VCHG + 1
abbrev pub read_at : ℕ → Meter → Meter
read_at t m = read_of m (plus_count 5) t

abbrev seven : ℕ → List ℕ
seven raw = raw ∷ raw ∷ raw ∷ raw ∷ raw ∷ raw ∷ raw ∷ []

-- full is found: an average of 1 and one of 32 × IMIN - 1, with a reading between them. The count rests, since such c are blanked
abbrev filled : ℕ → Meter → Meter
filled t m = all_converted (plus_count 31 ∷ seven (plus_count 31)) (read_at t (all_converted (plus_count 1 ∷ seven (plus_count 1)) m))

-- what a meter has
abbrev acr : Meter → ℕ
acr m = acr_of m.charge.count

abbrev fraction : Meter → ℕ
fraction m = fraction_of m.charge.count

abbrev aged_full : Meter → ℕ
aged_full m = aged_full_of m.shown.model.full m.charge.aging

abbrev degrees : Meter → ℕ
degrees m = degrees_of m.shown.reading.temp

-- ---- the table

pub record Figure : Type 0 where
  pub given : List ℕ
  pub said : List ℕ

infix 60 ◌is◌
abbrev pub ◌is◌ : List ℕ → List ℕ → Figure
a is b = record { given = a; said = b }

-- in every row, what is given is what is said
abbrev pub Hold : List Figure → Type 0
Hold [] = Unit {0}
Hold (f ∷ more) = (f.given ≡ f.said) × Hold more

abbrev temperatures : List ℕ
temperatures = plus_count (8 * 40) ∷ plus_count (8 * 18) ∷ plus_count (8 * 0) ∷ minus_count (8 * 12) ∷ minus_count (8 * 20) ∷ []

-- M, ACR 5,000, read at a temperature
abbrev read_m : ℕ → Meter
read_m t = read_at t (powered M 5000 128)

abbrev full_at : ℕ → ℕ
full_at t = (read_m t).shown.model.full

abbrev degrees_at : ℕ → ℕ
degrees_at t = degrees (read_m t)

abbrev warm : Meter
warm = read_m (plus_count (8 * 40))

-- M, 0 °C, AS 122, LEARNF 0, full found
abbrev cold : Meter
cold = filled (plus_count (8 * 0)) (powered M 5000 122)

-- FULL 16384, Full40 10,000, ACR 9,000 and LEARNF, full found
abbrev taught : Meter
taught = filled (plus_count (8 * 40)) (with_charge (powered M 9000 128) (record { count = 9000 * 4096; age = 0; aging = 128; learnf = true; mark = false }))

-- ACR 100, fraction 0: the count after a conversion
abbrev counted_by : Profile → List ℕ → ℕ → ℕ
counted_by f block raw = (convert_of (powered_by f block 100 128) raw).charge.count

abbrev counted : List ℕ → ℕ → ℕ
counted = counted_by Ds2781

abbrev fallen : Meter
fallen = convert_of (powered M 100 128) (minus_count 1)

-- with AC 1 and counter 31
abbrev aged : Meter
aged = convert_of (with_charge (powered aging 100 128) (record { count = 100 * 4096; age = 31; aging = 128; learnf = false; mark = false })) (minus_count 1)

-- ACR 100, with a mark or without
abbrev hundred : Bool → Charge
hundred mark = record { count = 100 * 4096; age = 0; aging = 128; learnf = false; mark = mark }

-- a profile with this Full40 and cycle counter: the counter and its rest after a conversion in which ACR falls by 8, or not at all where it
-- is the first after an ACR write
abbrev cycled_by : Bool → Profile → ℕ → Cycles → List ℕ
cycled_by mark f full40 y =
    let m = convert_of (with_charge (with_cycles (powered_by f (with_byte (with_byte M 0x6a 0) 0x6b full40) 100 128) y) (hundred mark))
    (minus_count (8 * 4096)) in
    m.cycles.count ∷ m.cycles.rest ∷ []

abbrev cycled : Profile → ℕ → Cycles → List ℕ
cycled = cycled_by false

abbrev marked : Profile → ℕ → Cycles → List ℕ
marked = cycled_by true

abbrev at : ℕ → ℕ → Cycles
at count rest = record { count = count; rest = rest }

-- AS 63, N > 0
abbrev worn : Meter
worn = read_at (plus_count (8 * 0)) (powered steep 9000 63)

-- ---- large numbers: where a number of 16 bits, or of a few more, would wrap

-- the same block, but for the two bytes from an address on, the high one first
abbrev with_pair : List ℕ → ℕ → ℕ → List ℕ
with_pair block address pair = with_byte (with_byte block address (pair / 256)) (address + 1) (pair % 256)

-- M with this Full40, and with this AC
abbrev sized : ℕ → List ℕ
sized full40 = with_pair M 0x6a full40

abbrev aging_by : ℕ → List ℕ
aging_by ac = with_pair M 0x62 ac

-- ACR 100, a DS2775 with this Full40 and so much fallen since the last step: the counter and the rest after a conversion in which ACR falls by 8
abbrev fallen_by : ℕ → ℕ → List ℕ
fallen_by full40 rest =
    let m = convert_of (with_cycles (powered_by Ds2775 (sized full40) 100 128) (at 0 rest)) (minus_count (8 * 4096)) in
    m.cycles.count ∷ m.cycles.rest ∷ []

-- ACR 100, this AC and so much in the age counter: AS and the counter after such a conversion
abbrev aged_by : ℕ → ℕ → List ℕ
aged_by ac age =
    let m = convert_of (with_charge (powered (aging_by ac) 100 128) (record { count = 100 * 4096; age = age; aging = 128; learnf = false; mark = false }))
    (minus_count (8 * 4096)) in
    m.charge.aging ∷ m.charge.age ∷ []

-- FULL 16384, this Full40, this ACR and LEARNF, full found
abbrev taught_by : ℕ → ℕ → Meter
taught_by full40 acr =
    filled (plus_count (8 * 40))
    (with_charge (powered (sized full40) acr 128) (record { count = acr * 4096; age = 0; aging = 128; learnf = true; mark = false }))

-- AS learnt at this Full40, from each ACR
abbrev learnt_at : ℕ → List ℕ → List ℕ
learnt_at full40 acrs = map (λ acr. (taught_by full40 acr).charge.aging) acrs

-- M with the largest Full40 and RSNSP, at 40 °C and this ACR
abbrev largest : ℕ → Meter
largest acr = read_at (plus_count (8 * 40)) (powered (with_byte (sized 65535) 0x69 255) acr 128)

abbrev pub paper_figures : List Figure
paper_figures =
    -- F3 to F7. M at 40, 18, 0, -12, -20 °C: FULL, AE, SE
    (map full_at temperatures is 16384 ∷ 16164 ∷ 15804 ∷ 15444 ∷ 15124 ∷ []) ∷
    (map (λ t. (read_m t).shown.model.ae) temperatures is 64 ∷ 174 ∷ 354 ∷ 594 ∷ 834 ∷ []) ∷
    (map (λ t. (read_m t).shown.model.se) temperatures is 0 ∷ 22 ∷ 58 ∷ 94 ∷ 126 ∷ []) ∷
    -- F8 to F10. Temperature count -1 is 0 °C: FULL 15804. Counts 319 and 320 are 40 °C: FULL 16384
    (map degrees_at (minus_count 1 ∷ plus_count 319 ∷ plus_count 320 ∷ []) is zero_at 7 ∷ (zero_at 7 + 40) ∷ (zero_at 7 + 40) ∷ []) ∷
    (map full_at (minus_count 1 ∷ plus_count 319 ∷ plus_count 320 ∷ []) is 15804 ∷ 16384 ∷ 16384 ∷ []) ∷
    -- W6.2. Count 4 is 1 °C, 3 and -4 are 0, -5 is -1, 31 is 4; the ends are -128 and 128
    (map degrees_at (plus_count 4 ∷ plus_count 3 ∷ minus_count 4 ∷ minus_count 5 ∷ plus_count 31 ∷ []) is (zero_at 7 + 1) ∷ zero_at 7 ∷ zero_at 7 ∷
    (zero_at 7 - 1)
    ∷ (zero_at 7 + 4) ∷ []) ∷
    (map degrees_at (minus_count 1024 ∷ plus_count 1023 ∷ []) is (zero_at 7 - 128) ∷ (zero_at 7 + 128) ∷ []) ∷
    -- F11. M, 40 °C, ACR 5,000: RARC 49, RSRC 50, RAAC 968, RSAC 976
    (warm.shown.results.rarc ∷ warm.shown.results.rsrc ∷ warm.shown.results.raac ∷ warm.shown.results.rsac ∷ [] is 49 ∷ 50 ∷ 968
    ∷ 976 ∷ []) ∷
    -- F12. M, 0 °C, AS 122, LEARNF 0, full found: AF 15063, ACR 9194, then RARC 100
    (aged_full cold ∷ acr cold ∷ (read_at (plus_count (8 * 0)) cold).shown.results.rarc ∷ [] is 15063 ∷ 9194 ∷ 100 ∷ []) ∷
    -- F13. Learn: FULL 16384, Full40 10,000, ACR 9,000 gives AS 115, ACR 8985
    (taught.charge.aging ∷ acr taught ∷ [] is 115 ∷ 8985 ∷ []) ∷
    -- F14 to F17. Blanking: 63 to 0, 64 to 64; with NBEN -15 to 0, -16 to -16
    (counted M (plus_count 63) ∷ counted M (plus_count 64) ∷ [] is (100 * 4096 + 0) ∷ (100 * 4096 + 64) ∷ []) ∷
    (counted noiseless (minus_count 15) ∷ counted noiseless (minus_count 16) ∷ [] is (100 * 4096 - 0) ∷ (100 * 4096 - 16) ∷ []) ∷
    -- W12.5. In the DS2775 profile with NBEN -16 to 0, -17 to -17; without NBEN -16 stays
    (counted_by Ds2775 noiseless (minus_count 16) ∷ counted_by Ds2775 noiseless (minus_count 17) ∷ counted_by Ds2775 M (minus_count 16) ∷ [] is (100 * 4096 - 0)
    ∷ (100 * 4096 - 17) ∷ (100 * 4096 - 16) ∷ []) ∷
    -- F18. ACR 100, fraction 0, c -1, AB 0, NBEN 0: ACR 99, fraction 4095
    (acr fallen ∷ fraction fallen ∷ [] is 99 ∷ 4095 ∷ []) ∷
    -- F19. With AC 1 and counter 31, AS 128 becomes 127
    (aged.charge.aging ∷ [] is 127 ∷ []) ∷
    -- F20. One c of -1 and seven of 0: IAVG -1
    ((all_converted (minus_count 1 ∷ seven (plus_count 0)) (powered M 100 128)).flow.average.iavg ∷ [] is (zero_at 15 - 1) ∷ []) ∷
    -- F21. AF 4032, AE 5000: RARC 0
    (aged_full worn ∷ worn.shown.model.ae ∷ worn.shown.results.rarc ∷ [] is 4032 ∷ 5000 ∷ 0 ∷ []) ∷
    []

-- the cycle counter of request [12]
abbrev pub cycle_figures : List Figure
cycle_figures =
    -- W12.8, W12.9. As many steps of twice Full40 as fit, the rest carried
    (cycled Ds2775 3 (at 0 0) is 1 ∷ 2 ∷ []) ∷
    (cycled Ds2775 3 (at 1 5) is 3 ∷ 1 ∷ []) ∷
    (cycled Ds2775 10 (at 7 11) is 7 ∷ 19 ∷ []) ∷
    -- W12.10. The counter stops at 255, and the steps are taken off
    (cycled Ds2775 3 (at 254 4) is 255 ∷ 0 ∷ []) ∷
    -- W12.11. With Full40 = 0 the rest is zeroed
    (cycled Ds2775 0 (at 7 11) is 7 ∷ 0 ∷ []) ∷
    -- and at the first conversion after an ACR write, which adds no fall to it: zeroed with Full40 = 0, stepped or kept all the same above
    (marked Ds2775 0 (at 7 11) is 7 ∷ 0 ∷ []) ∷
    (marked Ds2775 3 (at 7 11) is 8 ∷ 5 ∷ []) ∷
    (marked Ds2775 10 (at 7 11) is 7 ∷ 11 ∷ []) ∷
    -- W12.6. There is none in the DS2781
    (cycled Ds2781 3 (at 0 0) is 0 ∷ 0 ∷ []) ∷
    []

-- our own, at large numbers: falls
abbrev pub large_falls : List Figure
large_falls =
    -- W12.8, W12.9. Full40 65,535 with 131,069 fallen: no step, rest 131,069; with 131,070 one step, rest 0; with 131,072 one step, rest 2
    (fallen_by 65535 131061 is 0 ∷ 131069 ∷ []) ∷
    (fallen_by 65535 131062 is 1 ∷ 0 ∷ []) ∷
    (fallen_by 65535 131064 is 1 ∷ 2 ∷ []) ∷
    -- 65,536 and 65,543 fallen are carried; Full40 32,768, which has a step of 65,536; and 65,536 steps at once
    (fallen_by 65535 65528 is 0 ∷ 65536 ∷ []) ∷
    (fallen_by 40000 65535 is 0 ∷ 65543 ∷ []) ∷
    (fallen_by 32768 65527 is 0 ∷ 65535 ∷ []) ∷
    (fallen_by 32768 65528 is 1 ∷ 0 ∷ []) ∷
    (fallen_by 1 131064 is 255 ∷ 0 ∷ []) ∷
    []

-- ages
abbrev pub large_ages : List Figure
large_ages =
    -- C16. The age counter at 2^16, 2^17, 2^18 and 2^20
    (aged_by 65535 65528 is 128 ∷ 65536 ∷ []) ∷
    (aged_by 65535 131064 is 128 ∷ 131072 ∷ []) ∷
    (aged_by 65535 262136 is 128 ∷ 262144 ∷ []) ∷
    (aged_by 65535 1048568 is 128 ∷ 1048576 ∷ []) ∷
    -- C17. AC 65,535 at 2,097,119 and 2,097,120; AC 1,025 at 32,799 and 32,800; AC 32,769, of which 32 × AC is above 2^20
    (aged_by 65535 2097111 is 128 ∷ 2097119 ∷ []) ∷
    (aged_by 65535 2097112 is 127 ∷ 0 ∷ []) ∷
    (aged_by 1025 32791 is 128 ∷ 32799 ∷ []) ∷
    (aged_by 1025 32792 is 127 ∷ 0 ∷ []) ∷
    (aged_by 32769 1048599 is 128 ∷ 1048607 ∷ []) ∷
    (aged_by 32769 1048600 is 127 ∷ 0 ∷ []) ∷
    []

-- and what is worked out of the largest
abbrev pub large_results : List Figure
large_results =
    -- C30. Full40 60,000: ACR 60,000, 50,000 and 32,768 teach AS 128, 106 and 69
    (learnt_at 60000 (60000 ∷ 50000 ∷ 32768 ∷ []) is 128 ∷ 106 ∷ 69 ∷ []) ∷
    -- C31. Quotients of 256, 2^15, 2^16, 2^17 and 2^20 are moved to 128
    (learnt_at 1 (2 ∷ 256 ∷ 512 ∷ 1024 ∷ 8192 ∷ []) is 128 ∷ 128 ∷ 128 ∷ 128 ∷ 128 ∷ []) ∷
    -- C34. Full40 65,535 and AS 128: ACR 65,535
    (acr (taught_by 65535 65535) ∷ [] is 65535 ∷ []) ∷
    -- R31, R34. ACR, Full40 and RSNSP the largest: RARC 100, RSRC 100, RAAC 65,024, RSAC 65,279
    ((largest 65535).shown.results.rarc ∷ (largest 65535).shown.results.rsrc ∷ (largest 65535).shown.results.raac ∷ (largest 65535).shown.results.rsac ∷ []
    is 100 ∷ 100 ∷ 65024 ∷ 65279 ∷ []) ∷
    -- C24. Eight c of 32,767 and of -32,768
    ((all_converted (plus_count 32767 ∷ seven (plus_count 32767)) (powered M 100 128)).flow.average.iavg ∷ [] is (zero_at 15 + 32767) ∷ []) ∷
    ((all_converted (minus_count 32768 ∷ seven (minus_count 32768)) (powered M 100 128)).flow.average.iavg ∷ [] is 0 ∷ []) ∷
    -- C14. The count stops at 2^28 - 1 and at 0
    ((convert_of (powered M 65535 128) (plus_count 32767)).charge.count ∷ (convert_of (powered M 7 128) (minus_count 32768)).charge.count ∷ []
    is (2 ^ 28 - 1) ∷ 0 ∷ []) ∷
    []

abbrev pub large_figures : List Figure
large_figures = large_falls ++ (large_ages ++ large_results)

abbrev pub figures : List Figure
figures = paper_figures ++ (cycle_figures ++ large_figures)
