-- The theorems on trays speak of something: trays of two packs.
use mathlib.Core.Path.{◌≡◌, refl, sym, ap}
use mathlib.Core.Bool.{Bool, true, false}
use mathlib.Core.List.{List, [], ◌∷◌, ◌++◌, map, zip, zip_with}
use Prim.Native.Nat.{ℕ, ◌≤◌, ◌<◌}
use native.Mathlib.Omega.{arith}
use borrow.Author.Tests.{ltb-true, ltb-false}
use lib.Dec.{ltb, ltb→lt}
use lib.ListN.{length, get_or, replicate, get_or-eq_default}
use Rattle.state.specs.declared.Profile.{Profile}
use Rattle.state.specs.declared.Profile.TheVariants.{Ds2781, Ds2775}
use Rattle.crc.specs.Crc as crc
use Rattle.numbers.proofs.Table.{at}
use Rattle.intel_hex.specs.Theorems.{Bytes}
use Rattle.slices.specs.Slices.{laid_of}
use Rattle.state.specs.State.{timely_of, powered_of}
use Rattle.conversion.specs.Conversion.{flowed_of, convert_of}
use Rattle.block1.specs.Block1.{meter_written_of, block_written_of}
use Rattle.label.specs.Label.{in_label, in_block, label_byte, label_written_of}
use Rattle.registers.specs.Registers.{registers_of, meter_byte}
use Rattle.bus.specs.Ask.{rom_by, command_of, asked_at, asked_of, own_of}
use Rattle.gauge.specs.Gauge.{conversion_of, power_on_of, written_of}
use Rattle.replies.specs.Reply.{read_byte, selected_of, source_byte}
use Rattle.gauge.specs.declared.Gauge.{Gauge}
use Rattle.gauge.specs.Act.{ran_of, act_of, reply_of}
use Rattle.gauge.specs.Image.{image_of, size_for}
use Rattle.record.specs.declared.Form.TheVariants.{Short}
use Rattle.record.specs.Record.{kind_of, addressed_of, ordered_of, judged_among, taken_of}
use Rattle.runs.specs.Record.{Rec, whole, cut, whole_of, rec_of, size_of, kind_in}
use Rattle.runs.specs.Run.{Line, replies_of}
use Rattle.runs.specs.declared.Session.{Session}
use Rattle.runs.specs.SessionRecord.{did_of}
use Rattle.session_run.specs.SessionRun.{empty_of}
use Rattle.tray_record.specs.declared.Tray.{Tray}
use Rattle.tray_record.specs.Tray.{empty_tray, pack_of, search_of, tray_kind_of, matched_of, one, tray_did}
use Rattle.tray_run.specs.TrayRun.{tray_lines, slot_out_number, slot_out_room}
use Rattle.demands.specs.Call.{Call, Within, lines_in, first_of, Stopped}
use Rattle.demands.specs.Sections.{last, more}
use Rattle.demands.specs.Class.{block_of, touched_of, labels_of, touched_class}
use Rattle.demands.specs.Alone.{reach_in, slotted, AloneMet}
use Rattle.demands.specs.Demand2.{SlotCarried, SlotPowersOn, SlotCarriedMet}
use Rattle.demands.specs.Demand3.{image_records, TrayDemand3Met, WholeTrayDemand3Met, WholeTrayRefusedMet}
use Rattle.demands.specs.Single.{in_tray, SingleMet}
use Rattle.demands.specs.Isolation.{none, held, here, there, images, IsolationMet}
use Rattle.demands.proofs.Called.{packed, called, called_within}

-- Two packs, the second of a DS2775, whose counter was saved at 9; and the first with another label

abbrev address : List ℕ
address = 0x32 ∷ 1 ∷ 2 ∷ 3 ∷ 4 ∷ 5 ∷ 7 ∷ 0xb0 ∷ []

abbrev cells : List ℕ
cells = 100 ∷ 0 ∷ 128 ∷ 0 ∷ []

abbrev zeroth : List ℕ
zeroth = 0x3d ∷ 1 ∷ 2 ∷ 3 ∷ 4 ∷ 5 ∷ 6 ∷ 0xac ∷ 0x3c ∷ 0x3c ∷ (replicate 46 0 ++ cells)

abbrev relabelled : List ℕ
relabelled = 0x3d ∷ 1 ∷ 2 ∷ 3 ∷ 4 ∷ 5 ∷ 6 ∷ 0xac ∷ (replicate 16 7 ++ (replicate 32 0 ++ cells))

abbrev first : List ℕ
first = address ++ (replicate 48 0 ++ (cells ++ (9 ∷ [])))

-- to both: two bytes written at 20h and two read; a conversion of -1,000 in a slot; a power-on of slot 0; CURRENT read from the pack in slot 1
abbrev writing : Rec
writing = whole 4 (0 ∷ 0xcc ∷ 0x6c ∷ 0x20 ∷ 0x5a ∷ 0xa5 ∷ [])

abbrev reading : Rec
reading = whole 4 (2 ∷ 0xcc ∷ 0x69 ∷ 0x20 ∷ [])

abbrev converting : ℕ → Rec
converting slot = whole 19 (slot ∷ 0x18 ∷ 0xfc ∷ 0xff ∷ 0xff ∷ [])

abbrev power_on : Rec
power_on = whole 21 (0 ∷ [])

abbrev measured : List ℕ
measured = 2 ∷ 0x55 ∷ (address ++ (0x69 ∷ 0x0e ∷ []))

abbrev measuring : Rec
measuring = whole 4 measured

abbrev line : ℕ → ℕ → List ℕ → Line
line kind answer reply = record { kind = kind; answer = answer; reply = reply }

-- a session of these records, with 4 bytes of reply room
abbrev call : List Rec → Call Tray
call rs = called tray_did empty_tray (packed rs) (replicate 4 0) (replicate 64 0)

call_within : (rs : List Rec) → length (packed rs) ≤ 256 → Within tray_did empty_tray (call rs)
call_within rs short = called_within tray_did empty_tray (packed rs) (replicate 4 0) (replicate 64 0) (omega arith) (omega arith)

-- Two sessions that are mixed differently

abbrev packs : List (Profile × List ℕ)
packs = (Ds2781, zeroth) ∷ (Ds2775, first) ∷ []

abbrev ones : List Rec
ones = writing ∷ converting 1 ∷ power_on ∷ reading ∷ measuring ∷ []

abbrev others : List Rec
others = converting 1 ∷ writing ∷ power_on ∷ measuring ∷ reading ∷ []

abbrev opened : List Rec → List Rec
opened rs = image_records packs ++ rs

-- in the other opening the first image comes again, and is refused with 12
abbrev reopened : List Rec → List Rec
reopened rs = whole 1 zeroth ∷ whole 1 zeroth ∷ whole 8 first ∷ rs

-- THE HYPOTHESIS OF DEMAND 3 FOR TRAYS CAN BE MET
pub tray_demand_3_met : TrayDemand3Met
unfolding zip zip_with rec_of size_of whole_of tray_did tray_kind_of search_of matched_of judged_among addressed_of ordered_of crc.bit_of crc.eight_of
    crc.next_of image_of
    asked_of asked_at rom_by command_of touched_class labels_of touched_of selected_of own_of in_label block_of timely_of
    act_of ran_of written_of power_on_of conversion_of reply_of
tray_demand_3_met = record {
  images = packs;
  opening = 3;
  other_opening = 2;
  one = call (reopened ones);
  other = call (opened others);
  mixed = record {
    one = record { within = call_within (reopened ones) (omega arith); opens = record { images = refl; packs = refl }; room = omega arith };
    other = record { within = call_within (opened others) (omega arith); opens = record { images = refl; packs = refl }; room = omega arith };
    sections =
        more {xs = writing ∷ converting 1 ∷ []} {ys = converting 1 ∷ writing ∷ []}
        (record { one = refl; other = refl; labels = refl; gauges = refl })
        refl
        (last (record { one = refl; other = refl; labels = refl; gauges = refl }));
  };
  refused = refl;
  none_refused = refl;
  differ = λ e. let z : ◌≡◌ {A = ℕ} 4 19 = ap (λ (l : List Rec). kind_in (get_or l 0 cut)) e in omega arith;
}

-- THE HYPOTHESIS OF DEMAND 3 FOR WHOLE TRAY SESSIONS CAN BE MET
pub whole_tray_demand_3_met : WholeTrayDemand3Met
unfolding zip zip_with rec_of size_of whole_of tray_did tray_kind_of search_of matched_of judged_among addressed_of ordered_of crc.bit_of crc.eight_of
    crc.next_of image_of
    asked_of asked_at rom_by command_of touched_class labels_of touched_of selected_of own_of in_label block_of timely_of
    act_of ran_of written_of power_on_of conversion_of reply_of
whole_tray_demand_3_met = record {
  images = packs;
  opening = 2;
  one = call (opened ones);
  other = call (opened others);
  mixed = record {
    one = call_within (opened ones) (omega arith);
    other = call_within (opened others) (omega arith);
    opens = record { images = refl; packs = refl };
    other_opens = record { images = refl; packs = refl };
    room = omega arith;
    other_room = omega arith;
    sections =
        more {xs = []} {ys = []} (record { one = refl; other = refl; labels = refl; gauges = refl }) refl
        (more {xs = []} {ys = []} (record { one = refl; other = refl; labels = refl; gauges = refl }) refl
        (more {xs = writing ∷ converting 1 ∷ []} {ys = converting 1 ∷ writing ∷ []}
        (record { one = refl; other = refl; labels = refl; gauges = refl })
        refl
        (last (record { one = refl; other = refl; labels = refl; gauges = refl }))));
  };
  first = refl;
  other_first = refl;
  differ = λ e. let z : ◌≡◌ {A = ℕ} 4 19 = ap (λ (l : List Rec). kind_in (get_or l 0 cut)) e in omega arith;
}

-- and with records before the first image: a write, which is refused with 5, and an unknown kind
abbrev stranger : Rec
stranger = whole 0x63 []

abbrev whole_ones : List Rec
whole_ones = writing ∷ stranger ∷ reopened ones

abbrev whole_others : List Rec
whole_others = stranger ∷ writing ∷ reopened others

pub whole_tray_refused_met : WholeTrayRefusedMet
unfolding zip zip_with rec_of size_of whole_of tray_did tray_kind_of search_of matched_of judged_among addressed_of ordered_of crc.bit_of crc.eight_of
    crc.next_of image_of
    asked_of asked_at rom_by command_of touched_class labels_of touched_of selected_of own_of in_label block_of timely_of
    act_of ran_of written_of power_on_of conversion_of reply_of
whole_tray_refused_met = record {
  images = packs;
  opening = 5;
  one = call whole_ones;
  other = call whole_others;
  mixed = record {
    one = call_within whole_ones (omega arith);
    other = call_within whole_others (omega arith);
    opens = record { images = refl; packs = refl };
    other_opens = record { images = refl; packs = refl };
    room = omega arith;
    other_room = omega arith;
    sections =
        more {xs = writing ∷ stranger ∷ []} {ys = stranger ∷ writing ∷ []} (record { one = refl; other = refl; labels = refl; gauges = refl }) refl
        (more {xs = []} {ys = []} (record { one = refl; other = refl; labels = refl; gauges = refl }) refl
        (more {xs = []} {ys = []} (record { one = refl; other = refl; labels = refl; gauges = refl }) refl
        (more {xs = writing ∷ converting 1 ∷ []} {ys = converting 1 ∷ writing ∷ []}
        (record { one = refl; other = refl; labels = refl; gauges = refl })
        refl
        (last (record { one = refl; other = refl; labels = refl; gauges = refl })))));
  };
  refused = refl;
  other_refused = refl;
}

-- Two sessions that differ in slot 0

-- first an image without a byte, which is refused, of another kind in the one than in the other; each has an event of the slot that the other has not
abbrev longer : List Rec
longer = whole 1 [] ∷ whole 1 zeroth ∷ whole 8 first ∷ converting 0 ∷ converting 1 ∷ []

abbrev shorter : List Rec
shorter = whole 8 [] ∷ whole 1 relabelled ∷ whole 8 first ∷ converting 1 ∷ power_on ∷ []

-- and then the transaction
abbrev both_measuring : List Rec → List Rec
both_measuring rs = rs ++ (measuring ∷ [])

stops : (rs : List Rec) → length (packed rs) ≤ 256 → (n : ℕ) (c : Call Tray) → packed rs ≡ first_of n c.bytes →
    c.room ≡ replicate 4 0 → c.answers ≡ replicate 64 0
    → Stopped tray_did empty_tray n c (call rs)
stops rs short n c bytes room answers = record { allowed = (call_within rs short).allowed; bytes = bytes; room = sym room; answers = sym answers }

-- THE HYPOTHESES OF ISOLATION CAN BE MET
pub isolation_met : IsolationMet
unfolding zip zip_with rec_of size_of whole_of tray_did tray_kind_of search_of matched_of judged_among addressed_of ordered_of crc.bit_of crc.eight_of
    crc.next_of
    image_of powered_of conversion_of convert_of flowed_of
    asked_of asked_at rom_by command_of selected_of own_of act_of ran_of
    reply_of source_byte read_byte in_label meter_byte registers_of power_on_of
isolation_met = record {
  slot = 0;
  matched = 1;
  first = call (both_measuring longer);
  second = call (both_measuring shorter);
  twins = record {
    one = call_within (both_measuring longer) (omega arith);
    other = call_within (both_measuring shorter) (omega arith);
    room = refl;
    differs =
        images Ds2781 Ds2775 refl refl refl (images Ds2781 Ds2781 refl refl refl
        (held refl (here refl refl (held refl (there refl refl (held refl none))))));
  };
  form = Short;
  payload = measured;
  line = line 4 0 (0xfc ∷ 0x18 ∷ []);
  before = call longer;
  after = call (both_measuring longer);
  taking = record {
    earlier = 5;
    later = [];
    here = refl;
    before = stops longer (omega arith) 5 (call (both_measuring longer)) refl refl refl;
    after = stops (both_measuring longer) (omega arith) 6 (call (both_measuring longer)) refl refl refl;
  };
  other_line = line 4 0 (0xfc ∷ 0x18 ∷ []);
  other_before = call shorter;
  other_after = call (both_measuring shorter);
  other_taking = record {
    earlier = 5;
    later = [];
    here = refl;
    before = stops shorter (omega arith) 5 (call (both_measuring shorter)) refl refl refl;
    after = stops (both_measuring shorter) (omega arith) 6 (call (both_measuring shorter)) refl refl refl;
  };
  place = tt;
  differ = λ e. let z : ◌≡◌ {A = ℕ} 0x3c 7 = ap (λ (g : Gauge). get_or g.label.shadow 0 0) e in omega arith;
  reached = refl;
  away = λ e. omega arith;
  done = refl;
}

-- and slot 1 has a pack whose image can be taken out, and a power-on of it can follow
abbrev slot_room : List ℕ
slot_room = replicate 61 0

pub slot_carried : SlotCarried (call longer) 1 slot_room (slot_out_number (call longer).ran.state 1 slot_room)
    (slot_out_room (call longer).ran.state 1 slot_room)
unfolding rec_of size_of whole_of tray_did tray_kind_of search_of judged_among addressed_of ordered_of crc.bit_of crc.eight_of crc.next_of image_of powered_of
    conversion_of convert_of flowed_of
slot_carried =
    let two : (call longer).ran.state.count ≡ 2 = refl in
    let size : size_for (pack_of (call longer).ran.state 1) ≡ 61 = refl in
    record { run = call_within longer (omega arith); pack = omega (arith, two); fits = omega (arith, size); out = record { number = refl; written = refl } }

abbrev slot_on : List Rec
slot_on = longer ++ (whole 21 (1 ∷ []) ∷ [])

pub slot_powers_on : SlotPowersOn 1 (call longer) (pack_of (call slot_on).ran.state 1)
unfolding rec_of size_of whole_of
slot_powers_on = record { longer = call slot_on; run = call_within slot_on (omega arith); room = refl; last = refl; leaves = refl }

pub slot_carried_met : SlotCarriedMet
slot_carried_met = record {
  call = call longer;
  slot = 1;
  room = slot_room;
  answer = slot_out_number (call longer).ran.state 1 slot_room;
  after = slot_out_room (call longer).ran.state 1 slot_room;
  carried = slot_carried;
  left = pack_of (call slot_on).ran.state 1;
  powered = slot_powers_on;
}

-- A slot's event and a matched transaction change their own pack, and a transaction that every pack hears leaves both with the same label

abbrev two_packs : Tray
two_packs = (call (opened [])).ran.state

pub own_changes : pack_of (tray_did two_packs 0 (converting 1)).state 1 ≡ pack_of two_packs 1 → ⊥
unfolding rec_of size_of whole_of tray_did tray_kind_of search_of judged_among addressed_of ordered_of crc.bit_of crc.eight_of crc.next_of image_of powered_of
    conversion_of convert_of flowed_of
own_changes e = let z : ◌≡◌ {A = ℕ} 31768 32768 = ap (λ (g : Gauge). g.meter.flow.trace.last) e in omega arith

-- two bytes written at 20h of the pack in slot 1 alone
abbrev labelled : List ℕ
labelled = 0 ∷ 0x55 ∷ (address ++ (0x6c ∷ 0x20 ∷ 0x5a ∷ 0xa5 ∷ []))

reaches_own : reach_in two_packs Short labelled ≡ one 1
unfolding rec_of size_of whole_of tray_did tray_kind_of search_of matched_of judged_among addressed_of ordered_of crc.bit_of crc.eight_of crc.next_of image_of
    asked_of asked_at rom_by command_of
reaches_own = refl

matched_changes : pack_of (tray_did two_packs 0 (whole 4 labelled)).state 1 ≡ pack_of two_packs 1 → ⊥
unfolding rec_of size_of whole_of tray_did tray_kind_of search_of matched_of judged_among addressed_of ordered_of crc.bit_of crc.eight_of crc.next_of image_of
    asked_of asked_at rom_by command_of act_of selected_of own_of ran_of written_of label_written_of laid_of in_label
matched_changes e = let z : ◌≡◌ {A = ℕ} 0x5a 0 = ap (λ (g : Gauge). get_or g.label.shadow 0 0) e in omega arith

pub skip_changes : (pack_of (tray_did two_packs 0 writing).state 0).label.shadow ≡ (pack_of (tray_did two_packs 0 writing).state 1).label.shadow
unfolding rec_of size_of whole_of tray_did tray_kind_of search_of judged_among addressed_of ordered_of crc.bit_of crc.eight_of crc.next_of image_of
    asked_of asked_at rom_by command_of act_of selected_of ran_of written_of label_written_of laid_of in_label
skip_changes = refl

first_hears : pack_of (tray_did two_packs 0 writing).state 0 ≡ pack_of two_packs 0 → ⊥
unfolding rec_of size_of whole_of tray_did tray_kind_of search_of judged_among addressed_of ordered_of crc.bit_of crc.eight_of crc.next_of image_of
    asked_of asked_at rom_by command_of act_of selected_of ran_of written_of label_written_of laid_of in_label
first_hears e = let z : ◌≡◌ {A = ℕ} 0x5a 0x3c = ap (λ (g : Gauge). get_or g.label.shadow 0 0) e in omega arith

second_hears : pack_of (tray_did two_packs 0 writing).state 1 ≡ pack_of two_packs 1 → ⊥
unfolding rec_of size_of whole_of tray_did tray_kind_of search_of judged_among addressed_of ordered_of crc.bit_of crc.eight_of crc.next_of image_of
    asked_of asked_at rom_by command_of act_of selected_of ran_of written_of label_written_of laid_of in_label
second_hears e = let z : ◌≡◌ {A = ℕ} 0x5a 0 = ap (λ (g : Gauge). get_or g.label.shadow 0 0) e in omega arith

pub alone_met : AloneMet
alone_met = record {
  tray = two_packs;
  room = 0;
  event = converting 1;
  slot = 1;
  goes = slotted refl refl;
  changes = own_changes;
  form = Short;
  payload = labelled;
  reaches = reaches_own;
  matched_changes = matched_changes;
  skip = writing;
  first_hears = first_hears;
  second_hears = second_hears;
  same_label = skip_changes;
}

-- what the first of the two sessions that are mixed differently prints: the label of slot 0 is 3C 3C after its power-on and that of slot 1 5A A5, and
-- the reply 18 24, the AND of both and neither of them
pub tray_answers : tray_lines (packed (opened ones)) 4
    ≡ line 1 0 [] ∷ line 8 0 [] ∷ line 4 0 [] ∷ line 19 0 [] ∷ line 21 0 [] ∷ line 4 0 (0x18 ∷ 0x24 ∷ [])
    ∷ line 4 0 (0xfc ∷ 0x18 ∷ []) ∷ []
unfolding tray_lines rec_of size_of whole_of tray_did tray_kind_of search_of matched_of judged_among addressed_of ordered_of crc.bit_of crc.eight_of crc.next_of
    image_of powered_of conversion_of convert_of flowed_of power_on_of
    asked_of asked_at rom_by command_of selected_of own_of act_of ran_of written_of label_written_of laid_of meter_written_of block_written_of
    reply_of source_byte read_byte in_label in_block label_byte meter_byte registers_of
tray_answers = refl

-- A session of one pack, and the same for a tray

abbrev plain : List Rec
plain = whole 5 [] ∷ whole 1 zeroth ∷ whole 18 [] ∷ whole 3 (0x18 ∷ 0xfc ∷ 0xff ∷ 0xff ∷ []) ∷ whole 1 zeroth ∷ whole 4 (2 ∷ 0xcc ∷ 0x69 ∷ 0x0e ∷ []) ∷ []

abbrev plain_call : Call Session
plain_call = called did_of empty_of (packed plain) (replicate 4 0) (replicate 64 0)

plain_replies : replies_of (lines_in did_of empty_of plain_call) ≡ 0xfc ∷ 0x18 ∷ []
unfolding rec_of size_of whole_of did_of taken_of kind_of judged_among addressed_of ordered_of crc.bit_of crc.eight_of crc.next_of
    image_of powered_of conversion_of convert_of flowed_of
    asked_of asked_at rom_by command_of selected_of act_of ran_of reply_of source_byte read_byte in_label meter_byte registers_of
plain_replies = refl

plain_bytes : Bytes (packed plain)
plain_bytes i = by (ltb i 152) refl
  where
    by : (inside : Bool) → ltb i 152 ≡ inside → get_or (packed plain) i 0 < 256
    by true e = ltb→lt (get_or (packed plain) i 0) 256 (at (λ k x. ltb x 256) (packed plain) tt i (ltb-true i 152 e))
    by false e = rw (get_or-eq_default (packed plain) 0 (ltb-false i 152 e)) (omega arith)

-- THE HYPOTHESES ON A TRAY OF ONE PACK CAN BE MET
pub single_met : SingleMet
unfolding rec_of size_of whole_of did_of taken_of kind_of judged_among addressed_of ordered_of crc.bit_of crc.eight_of crc.next_of
    asked_of asked_at rom_by command_of reply_of
single_met = record {
  session = plain_call;
  tray = call (map in_tray plain);
  translated = record {
    plain = called_within did_of empty_of (packed plain) (replicate 4 0) (replicate 64 0) (omega arith) (omega arith);
    tray = call_within (map in_tray plain) (omega arith);
    records = refl;
    room = refl;
  };
  bytes = plain_bytes;
  once = refl;
  answers = refl;
  replies = plain_replies;
}
