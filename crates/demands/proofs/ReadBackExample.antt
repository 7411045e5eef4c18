-- The read-back of demand 2 speaks of something: an image is taken out after writes, copies and a conversion, of a session and of a slot, and read into a
-- fresh gauge.
use mathlib.Core.Path.{◌≡◌, refl, ap}
use mathlib.Core.List.{List, [], ◌∷◌, ◌++◌}
use Prim.Native.Nat.{ℕ}
use native.Mathlib.Omega.{arith}
use lib.ListN.{get_or, take, replicate}
use Rattle.crc.specs.Crc as crc
use Rattle.slices.specs.Slices.{laid_of}
use Rattle.state.specs.declared.Profile.{Profile}
use Rattle.state.specs.declared.Profile.TheVariants.{Ds2781, Ds2775}
use Rattle.state.specs.State.{image_size_of, powered_of}
use Rattle.conversion.specs.Conversion.{flowed_of, convert_of}
use Rattle.block1.specs.Block1.{meter_written_of, block_written_of, meter_copied_of, block_copied_of}
use Rattle.label.specs.Label.{in_label, in_block, label_written_of, label_copied_of}
use Rattle.bus.specs.Ask.{rom_by, command_of, asked_at, asked_of, own_of}
use Rattle.replies.specs.Reply.{selected_of}
use Rattle.gauge.specs.declared.Gauge.{Gauge}
use Rattle.gauge.specs.Gauge.{conversion_of, power_on_of, written_of, copied_of}
use Rattle.gauge.specs.Act.{ran_of, act_of, reply_of}
use Rattle.gauge.specs.Image.{image_of, bytes_of}
use Rattle.record.specs.Record.{kind_of, addressed_of, ordered_of, judged_among, taken_of}
use Rattle.runs.specs.Record.{Rec, whole, whole_of, rec_of, size_of, record_of}
use Rattle.runs.specs.declared.Session.{Session}
use Rattle.runs.specs.SessionRecord.{did_of}
use Rattle.session_run.specs.SessionRun.{empty_of, take_out_room}
use Rattle.tray_record.specs.declared.Tray.{Tray}
use Rattle.tray_record.specs.Tray.{empty_tray, pack_of, search_of, matched_of, tray_kind_of, tray_did}
use Rattle.demands.specs.Images.{image_kind}
use Rattle.demands.specs.Call.{Call}
use Rattle.demands.specs.Demand2.{ReadBackMet, SlotReadBackMet}
use Rattle.demands.proofs.Called.{packed, called, called_within}

-- an image of each profile, with a saved ACR of 100; that of the DS2775 has its counter saved at 9
abbrev image_for : Profile → List ℕ
image_for Ds2781 = 0x3d ∷ 1 ∷ 2 ∷ 3 ∷ 4 ∷ 5 ∷ 6 ∷ 0xac ∷ (replicate 48 0 ++ (100 ∷ 0 ∷ 128 ∷ 0 ∷ []))
image_for Ds2775 = 0x32 ∷ 1 ∷ 2 ∷ 3 ∷ 4 ∷ 5 ∷ 7 ∷ 0xb0 ∷ (replicate 48 0 ++ (100 ∷ 0 ∷ 128 ∷ 0 ∷ 9 ∷ []))

-- a transaction with every pack: bytes written from an address on, and a block copied
abbrev write : ℕ → List ℕ → Rec
write address bytes = whole 4 (0 ∷ 0xcc ∷ 0x6c ∷ address ∷ bytes)

abbrev copy : ℕ → Rec
copy address = whole 4 (0 ∷ 0xcc ∷ 0x48 ∷ address ∷ [])

-- 5Ah and A5h at 20h and AB 5 at 61h are copied; what is written over them then is not, and a conversion of -1,000 goes to the count alone
abbrev events : List Rec
events =
    write 0x20 (0x5a ∷ 0xa5 ∷ []) ∷ copy 0x20 ∷ write 0x61 (5 ∷ []) ∷ copy 0x61 ∷ write 0x20 (0x11 ∷ []) ∷ write 0x61 (7 ∷ [])
    ∷ whole 3 (0x18 ∷ 0xfc ∷ 0xff ∷ 0xff ∷ []) ∷ []

-- a session of the image, these, and maybe more
abbrev records_for : Profile → List Rec → List Rec
records_for f more = whole (image_kind f) (image_for f) ∷ (events ++ more)

abbrev call_for : Profile → List Rec → Call Session
call_for f more = called did_of empty_of (packed (records_for f more)) [] (replicate 64 0)

abbrev room_for : Profile → List ℕ
room_for f = replicate (image_size_of f) 0

-- what is left of it there, and a fresh gauge that reads it
abbrev out_of : Profile → List ℕ
out_of f = take_out_room (call_for f []).ran.state (room_for f)

abbrev fresh_for : Profile → Call Session
fresh_for f = called did_of empty_of (record_of (image_kind f) (take (image_size_of f) (out_of f))) [] (replicate 64 0)

abbrev powered_for : Profile → Call Session
powered_for f = call_for f (whole 5 [] ∷ [])

-- AB as it stands in the shadow
abbrev bias_in : Gauge → ℕ
bias_in g = get_or g.meter.cells.block.shadow 1 0

-- THE HYPOTHESES OF THE READ-BACK CAN BE MET
pub read_back_met : (f : Profile) → ReadBackMet f
unfolding rec_of size_of whole_of did_of taken_of kind_of judged_among addressed_of ordered_of crc.bit_of crc.eight_of crc.next_of
    image_of powered_of conversion_of convert_of flowed_of power_on_of bytes_of
    asked_of asked_at rom_by command_of selected_of act_of ran_of written_of label_written_of laid_of meter_written_of block_written_of copied_of
    label_copied_of
    meter_copied_of block_copied_of reply_of in_label in_block
read_back_met Ds2781 = record {
  session = call_for Ds2781 [];
  profile = refl;
  room = room_for Ds2781;
  answer = 0;
  after = out_of Ds2781;
  carried = record {
    run = called_within did_of empty_of (packed (records_for Ds2781 [])) [] (replicate 64 0) (omega arith) (omega arith);
    loaded = refl;
    fits = omega arith;
    out = record { number = refl; written = refl };
  };
  done = refl;
  fresh = fresh_for Ds2781;
  read = record {
    run = called_within did_of empty_of (fresh_for Ds2781).bytes [] (replicate 64 0) (omega arith) (omega arith);
    image = refl;
  };
  accepted = refl;
  there = (powered_for Ds2781).ran.state.gauge;
  powered = record {
    longer = powered_for Ds2781;
    run = called_within did_of empty_of (packed (records_for Ds2781 (whole 5 [] ∷ []))) [] (replicate 64 0) (omega arith) (omega arith);
    room = refl;
    last = refl;
    leaves = refl;
  };
  same = refl;
  another = λ e. let z : ◌≡◌ {A = ℕ} 5 7 = ap bias_in e in omega arith;
}
read_back_met Ds2775 = record {
  session = call_for Ds2775 [];
  profile = refl;
  room = room_for Ds2775;
  answer = 0;
  after = out_of Ds2775;
  carried = record {
    run = called_within did_of empty_of (packed (records_for Ds2775 [])) [] (replicate 64 0) (omega arith) (omega arith);
    loaded = refl;
    fits = omega arith;
    out = record { number = refl; written = refl };
  };
  done = refl;
  fresh = fresh_for Ds2775;
  read = record {
    run = called_within did_of empty_of (fresh_for Ds2775).bytes [] (replicate 64 0) (omega arith) (omega arith);
    image = refl;
  };
  accepted = refl;
  there = (powered_for Ds2775).ran.state.gauge;
  powered = record {
    longer = powered_for Ds2775;
    run = called_within did_of empty_of (packed (records_for Ds2775 (whole 5 [] ∷ []))) [] (replicate 64 0) (omega arith) (omega arith);
    room = refl;
    last = refl;
    leaves = refl;
  };
  same = refl;
  another = λ e. let z : ◌≡◌ {A = ℕ} 5 7 = ap bias_in e in omega arith;
}

-- a tray of both: AB is written and copied in each, and written over, and the conversion is in slot 1
abbrev tray_records : List Rec → List Rec
tray_records more =
    whole 1 (image_for Ds2781) ∷ whole 8 (image_for Ds2775) ∷ write 0x61 (5 ∷ []) ∷ copy 0x61 ∷ write 0x61 (7 ∷ [])
    ∷ whole 19 (1 ∷ 0x18 ∷ 0xfc ∷ 0xff ∷ 0xff ∷ []) ∷ more

abbrev tray_call : List Rec → Call Tray
tray_call more = called tray_did empty_tray (packed (tray_records more)) [] (replicate 64 0)

-- the image that is taken out: that of the DS2775 with AB 5
abbrev slot_out : List ℕ
slot_out = 0x32 ∷ 1 ∷ 2 ∷ 3 ∷ 4 ∷ 5 ∷ 7 ∷ 0xb0 ∷ (replicate 16 0 ++ (0 ∷ 5 ∷ (replicate 30 0 ++ (100 ∷ 0 ∷ 128 ∷ 0 ∷ 9 ∷ []))))

abbrev slot_fresh : Call Session
slot_fresh = called did_of empty_of (record_of 8 slot_out) [] (replicate 64 0)

abbrev slot_powered : Call Tray
slot_powered = tray_call (whole 21 (1 ∷ []) ∷ [])

-- THE HYPOTHESES OF THE READ-BACK OF A SLOT CAN BE MET
pub slot_read_back_met : SlotReadBackMet
unfolding rec_of size_of whole_of did_of taken_of kind_of tray_did tray_kind_of search_of matched_of own_of judged_among addressed_of ordered_of
    crc.bit_of crc.eight_of crc.next_of
    image_of powered_of conversion_of convert_of flowed_of power_on_of bytes_of
    asked_of asked_at rom_by command_of selected_of act_of ran_of written_of label_written_of laid_of meter_written_of block_written_of copied_of
    label_copied_of
    meter_copied_of block_copied_of reply_of in_label in_block
slot_read_back_met = record {
  tray = tray_call [];
  slot = 1;
  room = room_for Ds2775;
  answer = 0;
  after = slot_out;
  carried = record {
    run = called_within tray_did empty_tray (packed (tray_records [])) [] (replicate 64 0) (omega arith) (omega arith);
    pack = omega arith;
    fits = omega arith;
    out = record { number = refl; written = refl };
  };
  done = refl;
  fresh = slot_fresh;
  read = record { run = called_within did_of empty_of slot_fresh.bytes [] (replicate 64 0) (omega arith) (omega arith); image = refl };
  accepted = refl;
  there = pack_of slot_powered.ran.state 1;
  powered = record {
    longer = slot_powered;
    run = called_within tray_did empty_tray (packed (tray_records (whole 21 (1 ∷ []) ∷ []))) [] (replicate 64 0) (omega arith) (omega arith);
    room = refl;
    last = refl;
    leaves = refl;
  };
  gives = refl;
  another = λ e. let z : ◌≡◌ {A = ℕ} 5 7 = ap bias_in e in omega arith;
}
