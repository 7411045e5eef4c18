-- The theorems on signed numbers, words, good lines, images out and the cycle counter, each at the edge of its premises.
use mathlib.Core.Path.{◌≡◌}
use mathlib.Core.Bool.{true}
use mathlib.Core.List.{List, ◌++◌}
use Prim.Native.Nat.{ℕ, suc, ◌+◌, ◌-◌, ◌≤◌}
use native.Mathlib.Omega.{arith}
use lib.IntN.{ℤ, pos, ◌+ℤ◌, ◌*ℤ◌}
use lib.ListN.{length, get_or, take, drop}
use Rattle.numbers.specs.Offset.{div_z, value, signed}
use Rattle.slices.specs.Slices.{put, laid_of, quad_at}
use Rattle.params.specs.Params.{byte_at, signed_at}
use Rattle.state.specs.declared.Common.{Common}
use Rattle.state.specs.declared.Cycles.{Cycles}
use Rattle.state.specs.declared.Meter.{Meter}
use Rattle.state.specs.declared.Profile.TheVariants.{Ds2775}
use Rattle.conversion.specs.Conversion.{share_up_of, cycled_of}
use Rattle.conversion.proofs.Meaning.{conversion_means}
use Rattle.registers.specs.Meaning.{register_at}
use Rattle.registers.proofs.Meaning.{registers_mean}
use Rattle.record.specs.Image.{image_breaks}
use Rattle.record.specs.Record.{count_at, ordered_of, ordered_z}
use Rattle.record.proofs.Meaning.{record_means}
use Rattle.gauge.specs.Image.{size_for}
use Rattle.intel_hex.specs.Line.{good, hex_line_text, data_record, placed_of, checked_line_of}
use Rattle.intel_hex.proofs.RoundTrip.{good_lines}
use Rattle.runs.specs.declared.Session.{Session}
use Rattle.session_run.specs.SessionRun.{TakenOut}
use Rattle.tray_record.specs.declared.Tray.{Tray}
use Rattle.tray_record.specs.Tray.{pack_of}
use Rattle.tray_run.specs.TrayRun.{slot_held, SlotOut}
use Rattle.demands.specs.TakeOut.{RefusedOut, WrittenOut}
use Rattle.demands.specs.Words.{RoundedDown}
use Rattle.demands.specs.Cycles.{Cycled}
use Rattle.demands.proofs.TakeOut.{out_answers}
use Rattle.demands.proofs.Words.{words_mean}
use Rattle.demands.proofs.Cycles.{cycle_rules}

-- bytes up to 255
abbrev UpTo255 : List ℕ → Type 0
UpTo255 s = (i : ℕ) → get_or s i 0 ≤ 255

-- SIGNED NUMBERS: a parameter of 255, registers of 65,535, records of bytes up to 255
pub parameter_of_255 : (block : List ℕ) (address : ℕ) → byte_at block address ≡ 255 → value 7 (signed_at block address) ≡ signed 7 (byte_at block address)
parameter_of_255 block address e = conversion_means.parameter block address (omega (arith, e))

pub average_of_65535 : (common : Common) (meter : Meter) → meter.flow.average.iavg ≡ 65535
    → signed 15 (register_at common meter 0x08) ≡ value 15 meter.flow.average.iavg
average_of_65535 common meter e = registers_mean.iavg common meter (omega (arith, e))

pub current_of_65535 : (common : Common) (meter : Meter) → meter.flow.trace.last ≡ 65535
    → signed 15 (register_at common meter 0x0e) ≡ value 15 meter.flow.trace.last
current_of_65535 common meter e = registers_mean.current common meter (omega (arith, e))

pub counts_to_255 : (payload : List ℕ) (i : ℕ) → UpTo255 payload → value 31 (count_at payload i) ≡ signed 31 (quad_at payload i)
counts_to_255 payload i bytes = record_means.counts payload i (λ j. omega (arith, bytes j))

pub breaks_to_255 : (image : List ℕ) → UpTo255 image
    → ordered_of (image_breaks image) ≡ ordered_z (signed 7 (get_or image 0x36 0)) (signed 7 (get_or image 0x35 0)) (signed 7 (get_or image 0x34 0))
breaks_to_255 image bytes = record_means.image_ordered image (λ j. omega (arith, bytes j))

-- GOOD LINES: bytes up to 255
pub good_to_255 : (address : ℕ) (bytes l : List ℕ) → placed_of address ≡ true → length bytes ≡ 16 → UpTo255 bytes
    → l ≡ hex_line_text (data_record address bytes) → checked_line_of l ≡ good
good_to_255 address bytes l placed sized small written =
    (good_lines.sixteen address bytes l (record { placed = placed; sized = sized; small = λ i. omega (arith, small i); written = written })).0

-- IMAGES OUT: a room of just their size, and one that is a byte short
pub out_in_its_size : (σ : Session) (room : List ℕ) (answer : ℕ) (after : List ℕ) → TakenOut σ room answer after
    → σ.loaded ≡ true → length room ≡ size_for σ.gauge → WrittenOut σ.gauge room answer after
out_in_its_size σ room answer after t loaded size = out_answers.done σ room answer after t loaded (omega (arith, size))

pub out_short_by_one : (σ : Session) (room : List ℕ) (answer : ℕ) (after : List ℕ) → TakenOut σ room answer after
    → σ.loaded ≡ true → suc (length room) ≡ size_for σ.gauge → RefusedOut 9 room answer after
out_short_by_one σ room answer after t loaded size = out_answers.short σ room answer after t loaded (omega (arith, size))

pub slot_out_in_its_size : (τ : Tray) (i : ℕ) (room : List ℕ) (answer : ℕ) (after : List ℕ) → SlotOut τ i room answer after
    → slot_held τ i ≡ true → length room ≡ size_for (pack_of τ i) → WrittenOut (pack_of τ i) room answer after
slot_out_in_its_size τ i room answer after t held size = out_answers.slot_done τ i room answer after t held (omega (arith, size))

pub slot_out_short_by_one : (τ : Tray) (i : ℕ) (room : List ℕ) (answer : ℕ) (after : List ℕ) → SlotOut τ i room answer after
    → slot_held τ i ≡ true → suc (length room) ≡ size_for (pack_of τ i) → RefusedOut 9 room answer after
slot_out_short_by_one τ i room answer after t held size = out_answers.slot_short τ i room answer after t held (omega (arith, size))

-- WORDS: a divisor of 1, a share of 16,384, bytes that end with the room, and an array that is reached at its first byte and at its last
pub divided_by_1 : (z : ℤ) → RoundedDown z 1
divided_by_1 z = words_mean.divided z 1 (omega arith)

pub divided_by_1_only : (q : ℤ) → div_z (pos 1 *ℤ q +ℤ pos 0) 1 ≡ q
divided_by_1_only q = words_mean.divided_only q 1 0 (omega arith)

pub share_of_16384 : (full40 : ℕ) → share_up_of 16384 full40 ≤ full40
share_of_16384 full40 = words_mean.at_most 16384 full40 (omega arith)

pub put_to_the_end : (room : List ℕ) (i : ℕ) (bytes : List ℕ) → i + length bytes ≡ length room
    → put room i bytes ≡ take i room ++ bytes ++ drop (i + length bytes) room
put_to_the_end room i bytes end = words_mean.put_is room i bytes (omega (arith, end))

pub laid_at_the_ends : (low high : ℕ) (array : List ℕ) (bytes : List ℕ) (i : ℕ) → suc i ≡ length array → suc (low + i) ≡ high → length bytes ≡ 1
    → get_or (laid_of low high array (low + i) bytes) i 0 ≡ get_or bytes (low + i - (low + i)) 0
laid_at_the_ends low high array bytes i last top one =
    words_mean.laid_reached low high array (low + i) bytes i (omega (arith, last)) (omega (arith, top)) (omega arith) (omega (arith, one))

-- THE CYCLE COUNTER: Full40 of 1
pub cycled_by_1 : (cycles : Cycles) (fall : ℕ) → Cycled 1 cycles.count (cycles.rest + fall) (cycled_of Ds2775 1 cycles fall)
cycled_by_1 cycles fall = cycle_rules.fallen 1 cycles fall (omega arith)
