-- What the program says: what both sampling engines make of the state at the end of a session.
use Rattle.std.specs.Prelude.{Bool, List, [], ◌++◌, ℕ, ◌*◌, ◌^◌, leb, ltb, length, drop}
use Rattle.numbers.specs.Choice.{pick, both}
use Rattle.numbers.specs.Offset.{zero_at, offset32_of}
use Rattle.slices.specs.Slices.{pair_at, quad_at}
use Rattle.digits.specs.Ascii.{ascii}
use Rattle.digits.specs.Digits.{lower, hex_text}
use Rattle.streams.specs.Streams.{Speech, output, error, unread_text, refused_text}
use Rattle.state.specs.declared.Charge.{Charge}
use Rattle.state.specs.declared.Average.{Average}
use Rattle.state.specs.State.{run_of}
use Rattle.state.specs.declared.Shown.{Shown}
use Rattle.state.specs.declared.Meter.{Meter}
use Rattle.samples.specs.Samples.{sampled_of}
use Rattle.state.specs.declared.Common.{Common}
use Rattle.registers.specs.Registers.{registers_of}
use Rattle.gauge.specs.declared.Gauge.{Gauge}
use Rattle.runs.specs.declared.Session.{Session}
use Rattle.runs.specs.Record.{recs_of}
use Rattle.runs.specs.Run.{end_after}
use Rattle.runs.specs.SessionRecord.{did_of}
use Rattle.session_run.specs.SessionRun.{empty_of}

abbrev pub engines_name : List ℕ
engines_name = ascii "engines"

-- without a number: 4 is of a record's payload
abbrev pub engines_size_text : List ℕ
engines_size_text = ascii "engines: the input is not 6 to 32,774 bytes\n"

abbrev pub engines_image_words : List ℕ
engines_image_words = ascii "no image was accepted behind the first 6 bytes"

-- ---- what an engine asks of a meter, as a test

abbrev pub charge_sound : Charge → Bool
charge_sound charge = both (ltb charge.count (2 ^ 28)) (both (ltb charge.age (32 * 65535)) (both (leb 63 charge.aging) (leb charge.aging 128)))

abbrev pub average_sound : Average → Bool
average_sound average = both (ltb average.made 1024) (leb average.sum (65535 * run_of average))

abbrev pub shown_sound : Shown → Bool
shown_sound shown = both (leb shown.model.full 16384) (both (leb shown.reading.volt 1023) (ltb shown.reading.temp (2 ^ 11)))

unfoldable pub sound_of : Meter → Bool
sound_of meter = both (both (charge_sound meter.charge) (average_sound meter.flow.average)) (shown_sound meter.shown)

-- ---- the lines

abbrev pub registers_text : Common → Meter → List ℕ
registers_text common meter = hex_text lower (registers_of common meter)

-- the registers of a meter, and those after 64 more conversions of no current: the run of eight and the age counter, which no register shows,
-- come to light there
abbrev pub meter_line : Common → Meter → List ℕ
meter_line common meter = registers_text common meter ++ (registers_text common (sampled_of meter (zero_at 31) 64) ++ ascii "\n")

-- each engine takes n conversions of a raw current, and has a line; where none may be asked, there is no line
unfoldable pub engine_lines : Gauge → ℕ → ℕ → List ℕ
engine_lines gauge raw n =
    let line = meter_line gauge.common (sampled_of gauge.meter raw n) in
    pick (sound_of gauge.meter) (line ++ line) []

-- the state at the end of a session, with 65,536 bytes of reply room
abbrev pub session_after : List ℕ → Session
session_after s = end_after did_of empty_of 65536 (recs_of s)

-- its lines; 5 where no image was accepted
unfoldable pub end_speech : Session → ℕ → ℕ → Speech
end_speech session raw n = pick session.loaded (output (engine_lines session.gauge raw n)) (error (refused_text 5 engines_image_words))

-- ---- what is said: the raw current in 4 bytes, n in 2, and then the session

unfoldable pub compared_speech : List ℕ → Speech
compared_speech s =
    pick (both (leb 6 (length s)) (leb (length s) 32774))
    (end_speech (session_after (drop 6 s)) (offset32_of (quad_at s 0)) (pair_at s 4))
    (error engines_size_text)

-- what is said of standard input s, or where a read of it failed
abbrev pub compared_of : Bool → List ℕ → Speech
compared_of failed s = pick failed (error (unread_text engines_name)) (compared_speech s)
