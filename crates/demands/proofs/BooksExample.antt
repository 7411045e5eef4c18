-- The theorem on the charge books speaks of something: of a session, and of a slot of a tray.
use mathlib.Core.Path.{◌≡◌, refl, sym, ap, ◌∙◌}
use mathlib.Core.List.{List, [], ◌∷◌, ◌++◌, map}
use Prim.Native.Nat.{ℕ, ◌≤◌}
use native.Mathlib.Omega.{arith}
use lib.IntN.{pos-ne-negsuc}
use lib.ListN.{length, get_or, drop, replicate}
use Rattle.crc.specs.Crc as crc
use Rattle.state.specs.declared.Profile.TheVariants.{Ds2781, Ds2775}
use Rattle.slices.specs.Slices.{laid_of}
use Rattle.state.specs.State.{timely_of, powered_of}
use Rattle.conversion.specs.Conversion.{counted_of, share_of, averaged_of, found_of, settled_of, flowed_of, convert_of}
use Rattle.reading.specs.Reading.{slopes_over, model_lines, draining_of, point_of, emptied_of, seen_of, drained_of, results_shown, read_of}
use Rattle.numbers.specs.Offset.{minus}
use Rattle.samples.specs.Samples.{sampled_of, sample_of}
use Rattle.block1.specs.Block1.{reaches_of, acr_written_of, lock_written_of, meter_written_of, block_written_of, meter_copied_of}
use Rattle.block1.specs.Block1.{block_copied_of, meter_recalled_of, block_recalled_of, meter_locked_of}
use Rattle.label.specs.Label.{in_label, in_block, label_written_of, label_copied_of, label_recalled_of, common_locked_of}
use Rattle.bus.specs.Ask.{rom_by, command_of, asked_at, asked_of, own_of}
use Rattle.gauge.specs.Gauge.{conversion_of, sampling_of, reading_of, power_on_of, written_of, copied_of, recalled_of, locked_of}
use Rattle.replies.specs.Reply.{selected_of}
use Rattle.gauge.specs.Act.{ran_of, act_of, reply_of}
use Rattle.gauge.specs.Image.{image_of}
use Rattle.record.specs.Record.{kind_of, addressed_of, ordered_of, judged_among, taken_of}
use Rattle.runs.specs.Record.{Rec, whole, whole_of, rec_of, size_of}
use Rattle.runs.specs.declared.Session.{Session}
use Rattle.runs.specs.SessionRecord.{did_of}
use Rattle.session_run.specs.SessionRun.{empty_of}
use Rattle.tray_record.specs.declared.Tray.{Tray}
use Rattle.tray_record.specs.Tray.{empty_tray, search_of, tray_kind_of, matched_of, tray_did}
use Rattle.demands.specs.Call.{Call, Within, first_of}
use Rattle.demands.specs.History.{Happening, transacted, of_gauge, of_slot, heard_since, left_by}
use Rattle.demands.specs.Books.{sum_over, BooksMet}
use Rattle.demands.specs.Stored.{block0, block1, EepromMet}
use Rattle.demands.proofs.Called.{packed, called, called_within, called_stopped}

-- an image with NBEN, AB 5, VAE 100, IAE 255, byte 68h 255, Full40 32,768 and COB 3: E is 8,160 at 40 degrees
abbrev image : List ℕ
image =
    0x3d ∷ 1 ∷ 2 ∷ 3 ∷ 4 ∷ 5 ∷ 6 ∷ 0xac ∷ (replicate 16 0 ++ (0x80 ∷ 5 ∷ 0 ∷ 0 ∷ 0 ∷ 0 ∷ 100 ∷ 255 ∷ 255 ∷ 0 ∷ 0x80
    ∷ (replicate 16 0 ++ (3 ∷ (replicate 4 0 ++ (100 ∷ 0 ∷ 128 ∷ 0 ∷ []))))))

-- a transaction of these master bytes that asks for no reply, and what a pack hears of it
abbrev transaction : List ℕ → Rec
transaction master = whole 4 (0 ∷ master)

abbrev heard : List ℕ → Happening
heard master = transacted (asked_of 1 0 master) master

abbrev copying : List ℕ
copying = 0xcc ∷ 0x48 ∷ 0x20 ∷ []

-- a conversion of -1,000
abbrev converting : Rec
converting = whole 3 (0x18 ∷ 0xfc ∷ 0xff ∷ 0xff ∷ [])

-- a reading of a voltage at 40 degrees
abbrev reading : ℕ → ℕ → Rec
reading low high = whole 2 (low ∷ high ∷ 0 ∷ 0 ∷ 0x40 ∷ 1 ∷ 0 ∷ 0 ∷ [])

-- ACR is written; the label is written and copied, then written again, and block 0 locked
abbrev masters : List (List ℕ)
masters =
    (0xcc ∷ 0x6c ∷ 0x10 ∷ 0x10 ∷ 0x00 ∷ [])
    ∷ (0xcc ∷ 0x6c ∷ 0x20 ∷ 0x5a ∷ [])
    ∷ copying
    ∷ (0xcc ∷ 0x6c ∷ 0x20 ∷ 0x77 ∷ [])
    ∷ (0xcc ∷ 0x6c ∷ 0x1f ∷ 0x40 ∷ [])
    ∷ (0xcc ∷ 0x6a ∷ 0x20 ∷ [])
    ∷ []

abbrev earlier : List Rec
earlier = whole 1 image ∷ map transaction masters

-- two conversions, of which the first adds nothing; a reading at 4 × VAE, and one below it that corrects nothing; a copy of the locked block; AB becomes
-- -2; a sample of 40, and one of -8 that comes 9 ticks later, over an eighth conversion, all of them blanked; a read, a write of 10h alone, a recall of
-- block 1 by which AB is 5 again, which is then locked; and a conversion
abbrev later : List Rec
later =
    converting
    ∷ converting
    ∷ reading 0x90 1
    ∷ reading 0x2c 1
    ∷ transaction copying
    ∷ transaction (0xcc ∷ 0x6c ∷ 0x61 ∷ 0xfe ∷ [])
    ∷ whole 6 (40 ∷ 0 ∷ 0 ∷ 0 ∷ 7 ∷ 0 ∷ [])
    ∷ whole 6 (0xf8 ∷ 0xff ∷ 0xff ∷ 0xff ∷ 16 ∷ 0 ∷ [])
    ∷ transaction (0xcc ∷ 0x69 ∷ 0x10 ∷ [])
    ∷ transaction (0xcc ∷ 0x6c ∷ 0x10 ∷ 0x33 ∷ [])
    ∷ transaction (0xcc ∷ 0xb8 ∷ 0x60 ∷ [])
    ∷ transaction (0xcc ∷ 0x6c ∷ 0x1f ∷ 0x40 ∷ [])
    ∷ transaction (0xcc ∷ 0x6a ∷ 0x60 ∷ [])
    ∷ converting
    ∷ []

-- a session of these and other records, lent no reply room, and its first 7 records
abbrev call : List Rec → Call Session
call rs = called did_of empty_of (packed (earlier ++ rs)) [] (replicate 96 0)

abbrev first : List Rec → Call Session
first rs = called did_of empty_of (first_of 7 (packed (earlier ++ rs))) [] (replicate 96 0)

call_within : (rs : List Rec) → length (packed (earlier ++ rs)) ≤ 384 → Within did_of empty_of (call rs)
call_within rs short = called_within did_of empty_of (packed (earlier ++ rs)) [] (replicate 96 0) (omega arith) (omega arith)

-- -997 + 5, ten times -2, and -997 + 5
sums : sum_over (left_by of_gauge (first later)) (heard_since of_gauge did_of 7 (first later) (call later)) ≡ minus 2004
unfolding rec_of size_of whole_of did_of taken_of kind_of judged_among addressed_of ordered_of crc.bit_of crc.eight_of crc.next_of
    image_of powered_of reading_of read_of results_shown drained_of emptied_of seen_of point_of draining_of model_lines slopes_over share_of conversion_of
    convert_of
    flowed_of sampling_of sample_of sampled_of timely_of counted_of averaged_of found_of settled_of
    asked_of asked_at rom_by command_of selected_of act_of ran_of written_of label_written_of laid_of meter_written_of block_written_of acr_written_of
    lock_written_of reaches_of
    copied_of label_copied_of meter_copied_of block_copied_of recalled_of label_recalled_of meter_recalled_of block_recalled_of locked_of meter_locked_of
    common_locked_of
    reply_of in_label in_block
sums = refl

-- THE HYPOTHESES CAN BE MET IN A SESSION
pub books_met : BooksMet did_of empty_of of_gauge
unfolding rec_of size_of whole_of did_of taken_of kind_of judged_among addressed_of ordered_of crc.bit_of crc.eight_of crc.next_of
    image_of powered_of reading_of read_of results_shown drained_of emptied_of seen_of point_of draining_of model_lines slopes_over share_of conversion_of
    convert_of
    flowed_of sampling_of sample_of sampled_of timely_of counted_of averaged_of found_of settled_of
    asked_of asked_at rom_by command_of selected_of act_of ran_of written_of label_written_of laid_of meter_written_of block_written_of acr_written_of
    lock_written_of reaches_of
    copied_of label_copied_of meter_copied_of block_copied_of recalled_of label_recalled_of meter_recalled_of block_recalled_of locked_of meter_locked_of
    common_locked_of
    reply_of in_label in_block
books_met = record {
  taken = 7;
  first = first later;
  second = call later;
  run = call_within later (omega arith);
  stopped = called_stopped did_of empty_of 7 (call later) (call_within later (omega arith));
  kept = (refl, (refl, (refl, (refl, (refl, (refl, (refl, (refl, (refl, (refl, (refl, (refl, (refl, (refl, tt))))))))))))));
  sum = λ e. pos-ne-negsuc 0 2003 (sym e ∙ sums);
}

pub eeprom_met : EepromMet did_of empty_of of_gauge
unfolding rec_of size_of whole_of did_of taken_of kind_of judged_among addressed_of ordered_of crc.bit_of crc.eight_of crc.next_of
    image_of powered_of conversion_of timely_of
    asked_of asked_at rom_by command_of selected_of act_of ran_of written_of label_written_of laid_of meter_written_of block_written_of acr_written_of
    lock_written_of reaches_of
    copied_of label_copied_of meter_copied_of block_copied_of locked_of meter_locked_of common_locked_of reply_of in_label in_block
eeprom_met =
    let again = transaction copying ∷ [] in
    record {
      block = block0;
      taken = 7;
      first = first again;
      second = call again;
      run = call_within again (omega arith);
      stopped = called_stopped did_of empty_of 7 (call again) (call_within again (omega arith));
      there = refl;
      locked = refl;
      profile = Ds2781;
      image = image;
      later = map heard masters;
      life = refl;
      copied = λ e. let z : ◌≡◌ {A = ℕ} 0x5a 0 = ap (λ (l : List ℕ). get_or l 0 0) e in omega arith;
      other = λ e. let z : ◌≡◌ {A = ℕ} 0x5a 0x77 = ap (λ (l : List ℕ). get_or l 0 0) e in omega arith;
      tries = asked_of 1 0 copying;
      master = copying;
      since = refl;
      copies = (refl, refl, refl);
    }

-- A tray of two packs with such parameters, of which the second is a DS2775: its block 1 is written, copied, written again and locked; then the first has
-- a power-on and both a conversion, and the second one before it of -19, a c of -16, which is blanked in that profile alone. The books of the second hold
-- its own conversions alone

abbrev address : List ℕ
address = 0x32 ∷ 1 ∷ 2 ∷ 3 ∷ 4 ∷ 5 ∷ 7 ∷ 0xb0 ∷ []

abbrev matched : List ℕ → List ℕ
matched bytes = 0x55 ∷ (address ++ bytes)

abbrev slot_image : List ℕ
slot_image = address ++ (drop 8 image ++ (0 ∷ []))

abbrev slot_masters : List (List ℕ)
slot_masters =
    matched (0x6c ∷ 0x7f ∷ 0x5a ∷ [])
    ∷ matched (0x48 ∷ 0x7f ∷ [])
    ∷ matched (0x6c ∷ 0x7f ∷ 0x77 ∷ [])
    ∷ matched (0x6c ∷ 0x1f ∷ 0x40 ∷ [])
    ∷ matched (0x6a ∷ 0x7f ∷ [])
    ∷ []

abbrev slot_converting : ℕ → Rec
slot_converting slot = whole 19 (slot ∷ 0x18 ∷ 0xfc ∷ 0xff ∷ 0xff ∷ [])

abbrev tray_earlier : List Rec
tray_earlier = whole 1 image ∷ whole 8 slot_image ∷ map transaction slot_masters

abbrev tray_later : List Rec
tray_later = whole 21 (0 ∷ []) ∷ whole 19 (1 ∷ 0xed ∷ 0xff ∷ 0xff ∷ 0xff ∷ []) ∷ slot_converting 1 ∷ slot_converting 0 ∷ []

abbrev tray_call : List Rec → Call Tray
tray_call rs = called tray_did empty_tray (packed (tray_earlier ++ rs)) [] (replicate 96 0)

abbrev tray_first : List Rec → Call Tray
tray_first rs = called tray_did empty_tray (first_of 7 (packed (tray_earlier ++ rs))) [] (replicate 96 0)

tray_call_within : (rs : List Rec) → length (packed (tray_earlier ++ rs)) ≤ 384 → Within tray_did empty_tray (tray_call rs)
tray_call_within rs short = called_within tray_did empty_tray (packed (tray_earlier ++ rs)) [] (replicate 96 0) (omega arith) (omega arith)

-- 5, and -997 + 5
slot_sums : sum_over (left_by (of_slot 1) (tray_first tray_later)) (heard_since (of_slot 1) tray_did 7 (tray_first tray_later) (tray_call tray_later)) ≡
    minus 987
unfolding rec_of size_of whole_of tray_did tray_kind_of search_of matched_of judged_among addressed_of ordered_of crc.bit_of crc.eight_of crc.next_of
    image_of powered_of conversion_of convert_of flowed_of power_on_of timely_of
    asked_of asked_at rom_by command_of selected_of own_of act_of ran_of written_of laid_of meter_written_of block_written_of acr_written_of lock_written_of
    reaches_of
    copied_of label_copied_of meter_copied_of block_copied_of locked_of meter_locked_of common_locked_of reply_of in_label in_block
slot_sums = refl

-- AND IN A SLOT
pub slot_books_met : BooksMet tray_did empty_tray (of_slot 1)
unfolding rec_of size_of whole_of tray_did tray_kind_of search_of matched_of judged_among addressed_of ordered_of crc.bit_of crc.eight_of crc.next_of
    image_of powered_of conversion_of convert_of flowed_of counted_of averaged_of settled_of power_on_of timely_of
    asked_of asked_at rom_by command_of selected_of own_of act_of ran_of written_of laid_of meter_written_of block_written_of acr_written_of lock_written_of
    reaches_of
    copied_of label_copied_of meter_copied_of block_copied_of locked_of meter_locked_of common_locked_of reply_of in_label in_block
slot_books_met = record {
  taken = 7;
  first = tray_first tray_later;
  second = tray_call tray_later;
  run = tray_call_within tray_later (omega arith);
  stopped = called_stopped tray_did empty_tray 7 (tray_call tray_later) (tray_call_within tray_later (omega arith));
  kept = (refl, (refl, tt));
  sum = λ e. pos-ne-negsuc 0 986 (sym e ∙ slot_sums);
}

pub slot_eeprom_met : EepromMet tray_did empty_tray (of_slot 1)
unfolding rec_of size_of whole_of tray_did tray_kind_of search_of matched_of judged_among addressed_of ordered_of crc.bit_of crc.eight_of crc.next_of
    image_of powered_of conversion_of convert_of flowed_of power_on_of timely_of
    asked_of asked_at rom_by command_of selected_of own_of act_of ran_of written_of laid_of meter_written_of block_written_of acr_written_of lock_written_of
    reaches_of
    copied_of label_copied_of meter_copied_of block_copied_of locked_of meter_locked_of common_locked_of reply_of in_label in_block
slot_eeprom_met =
    let copying = matched (0x48 ∷ 0x7f ∷ []) in
    let again = transaction copying ∷ [] in
    record {
      block = block1;
      taken = 7;
      first = tray_first again;
      second = tray_call again;
      run = tray_call_within again (omega arith);
      stopped = called_stopped tray_did empty_tray 7 (tray_call again) (tray_call_within again (omega arith));
      there = refl;
      locked = refl;
      profile = Ds2775;
      image = slot_image;
      later = map heard slot_masters;
      life = refl;
      copied = λ e. let z : ◌≡◌ {A = ℕ} 0x5a 0 = ap (λ (l : List ℕ). get_or l 31 0) e in omega arith;
      other = λ e. let z : ◌≡◌ {A = ℕ} 0x5a 0x77 = ap (λ (l : List ℕ). get_or l 31 0) e in omega arith;
      tries = asked_of 1 0 copying;
      master = copying;
      since = refl;
      copies = (refl, refl, refl);
    }
