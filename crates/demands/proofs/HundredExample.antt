-- The theorem on a full pack speaks of something: in a session full is found by the last conversion of a sample, and a reading comes after it.
use mathlib.Core.Path.{refl}
use mathlib.Core.List.{List, [], ◌∷◌, ◌++◌}
use Prim.Native.Nat.{ℕ}
use native.Mathlib.Omega.{arith}
use lib.ListN.{replicate}
use Rattle.crc.specs.Crc as crc
use Rattle.state.specs.State.{timely_of, powered_of}
use Rattle.conversion.specs.Conversion.{aged_full_of, share_of, share_up_of, filled_of, counted_of, cycled_of, averaged_of, renewed_of, found_of, settled_of}
use Rattle.conversion.specs.Conversion.{flowed_of, convert_of}
use Rattle.reading.specs.Reading.{slopes_over, model_lines, draining_of, point_of, emptied_of, seen_of, drained_of, usable_of}
use Rattle.reading.specs.Reading.{flagged_of, kept_of, lowered_of, results_shown, read_of}
use Rattle.reading.specs.Hundred.{left_at_full}
use Rattle.samples.specs.Samples.{sampled_of, sample_of}
use Rattle.gauge.specs.Gauge.{sampling_of, reading_of}
use Rattle.gauge.specs.Image.{image_of}
use Rattle.record.specs.declared.Change.TheVariants.{Reading, Sample}
use Rattle.record.specs.Record.{kind_of, addressed_of, ordered_of, judged_among, count_at, taken_of}
use Rattle.runs.specs.Record.{Rec, whole, whole_of, rec_of, size_of}
use Rattle.runs.specs.declared.Session.{Session}
use Rattle.runs.specs.SessionRecord.{did_of}
use Rattle.session_run.specs.SessionRun.{empty_of}
use Rattle.demands.specs.Call.{Call, Within, first_of}
use Rattle.demands.specs.History.{Happening, changed, of_gauge, left_by}
use Rattle.demands.specs.Hundred.{by_sample, HundredMet}
use Rattle.demands.proofs.Called.{packed, called, called_within, called_stopped}

-- an image with VCHG 10, IMIN 5, byte 68h 4, RSNSP 50, Full40 10,000 and a saved ACR of 9,000
abbrev image : List ℕ
image =
    0x3d ∷ 1 ∷ 2 ∷ 3 ∷ 4 ∷ 5 ∷ 6 ∷ 0xac ∷ (replicate 16 0 ++ (0 ∷ 0 ∷ 0 ∷ 0 ∷ 10 ∷ 5 ∷ 0 ∷ 0 ∷ 4 ∷ 50 ∷ 0x27 ∷ 0x10
    ∷ (replicate 20 0 ++ (0x28 ∷ 0x23 ∷ 128 ∷ 0 ∷ []))))

-- the bytes of a reading of 400 counts at 40 degrees, and of a sample of 20 at a tick
abbrev measured : List ℕ
measured = 0x90 ∷ 1 ∷ 0 ∷ 0 ∷ 0x40 ∷ 1 ∷ 0 ∷ 0 ∷ []

abbrev sampled_at : ℕ → List ℕ
sampled_at tick = 20 ∷ 0 ∷ 0 ∷ 0 ∷ tick ∷ 0 ∷ []

-- eight conversions and a reading; and then eight conversions more, and a reading
abbrev records : List Rec
records = whole 1 image ∷ whole 6 (sampled_at 1) ∷ whole 6 (sampled_at 8) ∷ whole 2 measured ∷ whole 6 (sampled_at 16) ∷ whole 2 measured ∷ []

abbrev session : Call Session
session = called did_of empty_of (packed records) [] (replicate 96 0)

abbrev earlier : Call Session
earlier = called did_of empty_of (first_of 4 (packed records)) [] (replicate 96 0)

session_within : Within did_of empty_of session
session_within = called_within did_of empty_of (packed records) [] (replicate 96 0) (omega arith) (omega arith)

abbrev fills : Happening
fills = changed (Sample (count_at (sampled_at 16) 0) 16)

abbrev reads : Happening
reads = changed (Reading (count_at measured 0) (count_at measured 4))

pub hundred_met : HundredMet did_of empty_of of_gauge
unfolding rec_of size_of whole_of did_of taken_of kind_of judged_among addressed_of ordered_of crc.bit_of crc.eight_of crc.next_of
    image_of powered_of reading_of read_of results_shown drained_of emptied_of seen_of point_of draining_of model_lines slopes_over share_of convert_of
    flowed_of sampling_of sample_of sampled_of timely_of counted_of averaged_of found_of settled_of filled_of aged_full_of share_up_of cycled_of usable_of
    renewed_of
    lowered_of kept_of flagged_of
hundred_met = record {
  taken = 4;
  first = earlier;
  second = session;
  run = session_within;
  stopped = called_stopped did_of empty_of 4 session session_within;
  finds = fills;
  later = reads ∷ [];
  since = refl;
  left = left_at_full (sampled_of (left_by of_gauge earlier).meter (count_at (sampled_at 16) 0) 7) (count_at (sampled_at 16) 0);
  full = by_sample (count_at (sampled_at 16) 0) 16 7 (omega arith) refl;
  kept = (record { acr = refl; aging = refl; full = refl; full40 = refl; some = omega arith }, tt);
  reads = refl;
}
