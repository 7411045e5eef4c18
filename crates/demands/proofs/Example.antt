-- The hypotheses of the demands can be met.
use mathlib.Core.Path.{◌≡◌, refl, sym, ap, ◌∙◌}
use mathlib.Core.Bool.{Bool, true}
use mathlib.Core.List.{List, [], ◌∷◌, ◌++◌}
use Prim.Native.Nat.{ℕ, ◌≤◌}
use native.Mathlib.Omega.{arith}
use lib.ListN.{length, get_or, take, replicate, length-take}
use Rattle.numbers.specs.Choice.{pick}
use Rattle.state.specs.declared.Profile.{Profile}
use Rattle.state.specs.declared.Profile.TheVariants.{Ds2781, Ds2775}
use Rattle.demands.specs.Images.{image_kind, profile_of}
use Rattle.crc.specs.Crc as crc
use Rattle.state.specs.State.{powered_of}
use Rattle.conversion.specs.Conversion.{flowed_of, convert_of}
use Rattle.block1.specs.Block1.{meter_written_of, block_written_of, meter_copied_of, block_copied_of}
use Rattle.slices.specs.Slices.{laid_of}
use Rattle.label.specs.Label.{in_label, in_block, label_byte, label_written_of, label_copied_of}
use Rattle.registers.specs.Registers.{registers_of, meter_byte}
use Rattle.bus.specs.Ask.{rom_by, command_of, asked_at, asked_of}
use Rattle.gauge.specs.Gauge.{conversion_of, power_on_of, written_of, copied_of}
use Rattle.replies.specs.Reply.{read_byte, selected_of, source_byte}
use Rattle.gauge.specs.Act.{ran_of, act_of, reply_of}
use Rattle.gauge.specs.Image.{image_of, size_for}
use Rattle.gauge.proofs.Image.{size_few}
use Rattle.record.specs.Image.{image_address}
use Rattle.record.specs.Record.{kind_of, addressed_of, ordered_of, judged_among, taken_of}
use Rattle.preset_session.specs.PresetSession.{write_done, programming_of, preset_answer, Granted}
use Rattle.runs.specs.Record.{Rec, whole, whole_of, rec_of, size_of, recs_of, record_of}
use Rattle.runs.specs.Run.{Line}
use Rattle.runs.specs.declared.Session.{Session}
use Rattle.runs.specs.SessionRecord.{did_of}
use Rattle.session_run.specs.SessionRun.{empty_of, session_of, take_out_number, take_out_room}
use Rattle.demands.specs.Call.{Call, Within}
use Rattle.demands.specs.Demand2.{Fresh, eeprom_breaks, Crossed, Carried, PowersOn, Demand2Met}
use Rattle.demands.specs.Sections.{last, more}
use Rattle.demands.specs.Class.{block_of, touched_of, labels_of, touched_class, session_asked}
use Rattle.demands.specs.Demand3.{asks_all, Starts, Demand3Met}
use Rattle.demands.specs.Programming.{Bench, BenchMet}
use Rattle.demands.specs.Printed.{PrintedLines}
use Rattle.demands.proofs.Called.{packed, called, called_within}

-- An image can be taken out of the state that is left, and given to a fresh gauge
module _ (d : Call Session) (w : Within did_of empty_of d) (loaded : d.ran.state.loaded ≡ true) (room : List ℕ)
    (fits : size_for d.ran.state.gauge ≤ length room) where
  abbrev bytes : List ℕ
  bytes = record_of (image_kind (profile_of d.ran.state.gauge)) (take (size_for d.ran.state.gauge) (take_out_room d.ran.state room))

  abbrev after : List ℕ
  after = take_out_room d.ran.state room

  abbrev fresh : Call Session
  fresh = called did_of empty_of bytes [] (replicate 17 0)

  pub called_carried : Carried d room (take_out_number d.ran.state room) after × Fresh (profile_of d.ran.state.gauge) after fresh
  called_carried = (
    record { run = w; loaded = loaded; fits = fits; out = record { number = refl; written = refl } },
    record {
      run =
          let few = length-take (size_for d.ran.state.gauge) after in
          let most = size_few d.ran.state.gauge in
          called_within did_of empty_of bytes [] (replicate 17 0) (omega (arith, few, most)) (omega (arith, few, most));
      image = refl;
    },
  )

-- The example that 01 prints: a power-on before an image, an unknown kind, and a record that is cut

abbrev line : ℕ → ℕ → List ℕ → Line
line kind answer reply = record { kind = kind; answer = answer; reply = reply }

pub printed : PrintedLines
unfolding session_of rec_of size_of whole_of did_of taken_of kind_of
printed = refl

-- Two sessions that are mixed differently

abbrev image : List ℕ
image = 0x3d ∷ 1 ∷ 2 ∷ 3 ∷ 4 ∷ 5 ∷ 6 ∷ 0xac ∷ (replicate 48 0 ++ (100 ∷ 0 ∷ 128 ∷ 0 ∷ []))

-- and one of a DS2775, whose counter was saved at 9
abbrev camera : List ℕ
camera = 0x32 ∷ 1 ∷ 2 ∷ 3 ∷ 4 ∷ 5 ∷ 7 ∷ 0xb0 ∷ (replicate 48 0 ++ (100 ∷ 0 ∷ 128 ∷ 0 ∷ 9 ∷ []))

abbrev image_for : Profile → List ℕ
image_for Ds2781 = image
image_for Ds2775 = camera

-- of the label: 5Ah and A5h written at 20h; block 0 copied; two bytes read at 20h
abbrev writing : Rec
writing = whole 4 (0 ∷ 0xcc ∷ 0x6c ∷ 0x20 ∷ 0x5a ∷ 0xa5 ∷ [])

abbrev copying : Rec
copying = whole 4 (0 ∷ 0xcc ∷ 0x48 ∷ 0x20 ∷ [])

abbrev reading : Rec
reading = whole 4 (2 ∷ 0xcc ∷ 0x69 ∷ 0x20 ∷ [])

-- of gauging: a conversion of -1,000, and a read of CURRENT
abbrev converting : Rec
converting = whole 3 (0x18 ∷ 0xfc ∷ 0xff ∷ 0xff ∷ [])

abbrev measuring : Rec
measuring = whole 4 (2 ∷ 0xcc ∷ 0x69 ∷ 0x0e ∷ [])

abbrev power_on : Rec
power_on = whole 5 []

abbrev ones : List Rec
ones = writing ∷ copying ∷ converting ∷ power_on ∷ reading ∷ converting ∷ measuring ∷ []

abbrev others : List Rec
others = converting ∷ writing ∷ copying ∷ power_on ∷ converting ∷ reading ∷ measuring ∷ []

-- a session of the image of a profile and then these, run with 4 bytes of reply room
abbrev imaging : Profile → Rec
imaging f = whole (image_kind f) (image_for f)

abbrev call_for : Profile → List Rec → Call Session
call_for f rs = called did_of empty_of (packed (imaging f ∷ rs)) (replicate 4 0) (replicate 32 0)

abbrev call : List Rec → Call Session
call = call_for Ds2781

call_within : (f : Profile) (rs : List Rec) → length (packed (imaging f ∷ rs)) ≤ 128 → Within did_of empty_of (call_for f rs)
call_within f rs short = called_within did_of empty_of (packed (imaging f ∷ rs)) (replicate 4 0) (replicate 32 0) (omega arith) (omega arith)

call_starts : (f : Profile) (rs : List Rec) → length (packed (imaging f ∷ rs)) ≤ 128 → asks_all session_asked rs ≤ 4 →
    recs_of (packed (imaging f ∷ rs)) ≡ imaging f ∷ rs
    → Starts did_of empty_of session_asked (selected_of (image_address (image_for f))) (imaging f ∷ []) rs (call_for f rs)
call_starts f rs short asks holds = record {
  within = call_within f rs short;
  first = holds;
  room = asks;
}

-- THE HYPOTHESIS OF DEMAND 3 CAN BE MET
pub demand_3_met : (f : Profile) → Demand3Met f
unfolding rec_of size_of whole_of taken_of kind_of judged_among addressed_of ordered_of crc.bit_of crc.eight_of crc.next_of
    asked_of asked_at rom_by command_of touched_class labels_of touched_of selected_of in_label block_of
demand_3_met Ds2781 = record {
  image = image;
  ones = ones;
  others = others;
  one = call ones;
  other = call others;
  accepted = refl;
  mixed = record {
    one = call_starts Ds2781 ones (omega arith) (omega arith) refl;
    other = call_starts Ds2781 others (omega arith) (omega arith) refl;
    sections =
        more {xs = writing ∷ copying ∷ converting ∷ []} {ys = converting ∷ writing ∷ copying ∷ []}
        (record { one = refl; other = refl; labels = refl; gauges = refl })
        refl
        (last (record { one = refl; other = refl; labels = refl; gauges = refl }));
  };
  differ = λ e. let z : ◌≡◌ {A = ℕ} 6 4 = ap (λ (l : List ℕ). get_or l 64 0) e in omega arith;
}
demand_3_met Ds2775 = record {
  image = camera;
  ones = ones;
  others = others;
  one = call_for Ds2775 ones;
  other = call_for Ds2775 others;
  accepted = refl;
  mixed = record {
    one = call_starts Ds2775 ones (omega arith) (omega arith) refl;
    other = call_starts Ds2775 others (omega arith) (omega arith) refl;
    sections =
        more {xs = writing ∷ copying ∷ converting ∷ []} {ys = converting ∷ writing ∷ copying ∷ []}
        (record { one = refl; other = refl; labels = refl; gauges = refl })
        refl
        (last (record { one = refl; other = refl; labels = refl; gauges = refl }));
  };
  differ = λ e. let z : ◌≡◌ {A = ℕ} 6 4 = ap (λ (l : List ℕ). get_or l 65 0) e in omega arith;
}

-- and their events do something: after the power-on the label that was written and copied is read back, and so is CURRENT
pub answers : session_of (call ones).bytes 4
    ≡ line 1 0 [] ∷ line 4 0 [] ∷ line 4 0 [] ∷ line 3 0 [] ∷ line 5 0 [] ∷ line 4 0 (0x5a ∷ 0xa5 ∷ []) ∷ line 3 0 []
    ∷ line 4 0 (0xfc ∷ 0x18 ∷ []) ∷ []
unfolding session_of rec_of size_of whole_of did_of taken_of kind_of judged_among addressed_of ordered_of crc.bit_of crc.eight_of crc.next_of
    image_of powered_of conversion_of convert_of flowed_of power_on_of
    asked_of asked_at rom_by command_of selected_of act_of ran_of written_of label_written_of laid_of meter_written_of block_written_of copied_of
    label_copied_of
    meter_copied_of block_copied_of
    reply_of source_byte read_byte in_label in_block label_byte meter_byte registers_of
answers = refl

-- the image that the first of them leaves can be taken out, and a power-on can follow it
pub loads : (call ones).ran.state.loaded ≡ true
unfolding rec_of size_of whole_of did_of taken_of kind_of judged_among addressed_of ordered_of crc.bit_of crc.eight_of crc.next_of
    asked_of asked_at rom_by command_of reply_of
loads = refl

abbrev longer : Call Session
longer = call (ones ++ (power_on ∷ []))

pub powers_on : PowersOn (call ones) longer.ran.state.gauge
unfolding rec_of size_of whole_of did_of taken_of kind_of judged_among addressed_of ordered_of crc.bit_of crc.eight_of crc.next_of
    asked_of asked_at rom_by command_of reply_of
powers_on = record { longer = longer; run = call_within Ds2781 (ones ++ (power_on ∷ [])) (omega arith); room = refl; last = refl; leaves = refl }

-- that image has its breakpoints in order; one that is taken out after TBP34 was written below TBP23, and copied, has not, and is refused
abbrev crossing : List Rec
crossing = whole 4 (0 ∷ 0xcc ∷ 0x6c ∷ 0x7c ∷ 0xff ∷ []) ∷ whole 4 (0 ∷ 0xcc ∷ 0x48 ∷ 0x7c ∷ []) ∷ []

pub in_order : ordered_of (eeprom_breaks (call ones).ran.state.gauge) ≡ true
unfolding rec_of size_of whole_of did_of taken_of kind_of judged_among addressed_of ordered_of crc.bit_of crc.eight_of crc.next_of
    image_of powered_of conversion_of convert_of flowed_of power_on_of
    asked_of asked_at rom_by command_of selected_of act_of ran_of written_of meter_written_of block_written_of laid_of copied_of meter_copied_of
    block_copied_of reply_of
    in_label in_block
in_order = refl

pub crosses : ((call crossing).ran.state.loaded ≡ true) × Crossed (call crossing).ran.state.gauge
unfolding rec_of size_of whole_of did_of taken_of kind_of judged_among addressed_of ordered_of crc.bit_of crc.eight_of crc.next_of
    image_of powered_of asked_of asked_at rom_by command_of selected_of act_of ran_of written_of meter_written_of block_written_of laid_of copied_of
    meter_copied_of
    block_copied_of reply_of in_label in_block
crosses = (refl, refl)

-- THE HYPOTHESES OF DEMAND 2 CAN BE MET
pub demand_2_met : Demand2Met
demand_2_met = record {
  carries = λ d w loaded room fits. record {
    answer = take_out_number d.ran.state room;
    after = take_out_room d.ran.state room;
    fresh = fresh d w loaded room fits;
    carried = (called_carried d w loaded room fits).0;
    given = (called_carried d w loaded room fits).1;
  };
  powered = record {
    call = call ones;
    run = call_within Ds2781 ones (omega arith);
    loaded = loads;
    ordered = λ e. let z : ◌≡◌ {A = ℕ} 0 1 = ap (λ (b : Bool). pick b 1 0) (sym e ∙ in_order) in omega arith;
    left = longer.ran.state.gauge;
    powered = powers_on;
  };
  crossed = record { call = call crossing; run = call_within Ds2781 crossing (omega arith); loaded = crosses.0; crossed = crosses.1 };
}

-- A session that is written at the bench

-- the bytes that are wanted in block 1
abbrev wanted : List ℕ
wanted = replicate 31 0x28 ++ (0x5a ∷ [])

abbrev programmed : Call Session
programmed = called did_of empty_of (programming_of image wanted) (replicate 32 0) (replicate 30 0)

-- THE HYPOTHESES OF THE THEOREM ON PROGRAMMING CAN BE MET
pub granted_met : Granted image wanted 120
unfolding judged_among addressed_of ordered_of crc.bit_of crc.eight_of crc.next_of
granted_met = record { accepted = refl; all = refl; unlocked = refl; fits = omega arith }

pub bench_met : Bench image wanted (replicate 120 0) write_done (programming_of image wanted) programmed
unfolding preset_answer judged_among addressed_of ordered_of crc.bit_of crc.eight_of crc.next_of
bench_met = record {
  wrote = record { number = refl; answer = refl; written = refl };
  session = refl;
  run = (called_within did_of empty_of (programming_of image wanted) (replicate 32 0) (replicate 30 0) (omega arith) (omega arith)).allowed;
  lent = omega arith;
}

pub bench_example : BenchMet
bench_example = record {
  image = image;
  wanted = wanted;
  room = replicate 120 0;
  after = programming_of image wanted;
  call = programmed;
  granted = granted_met;
  bench = bench_met;
  new = λ e. let z : ◌≡◌ {A = ℕ} 0x5a 0 = ap (λ (l : List ℕ). get_or l 31 0) e in omega arith;
}
