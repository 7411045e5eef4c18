-- The theorem on the charge books speaks of the 1,024th conversion too: a session in which 1,023 conversions come as samples.
use mathlib.Core.Path.{◌≡◌, refl, ap}
use mathlib.Core.List.{List, [], ◌∷◌, ◌++◌, map}
use Prim.Native.Nat.{ℕ, ◌+◌, ◌/◌, ◌%◌}
use native.Mathlib.Omega.{arith}
use lib.IntN.{nat_abs}
use lib.ListN.{replicate}
use Rattle.crc.specs.Crc as crc
use Rattle.state.specs.State.{timely_of, powered_of}
use Rattle.conversion.specs.Conversion.{counted_of, averaged_of, found_of, settled_of, flowed_of, convert_of}
use Rattle.samples.specs.Samples.{sampled_of, sample_of}
use Rattle.gauge.specs.Gauge.{conversion_of, sampling_of}
use Rattle.gauge.specs.Image.{image_of}
use Rattle.record.specs.Record.{kind_of, addressed_of, ordered_of, judged_among, taken_of}
use Rattle.runs.specs.Record.{Rec, whole, whole_of, rec_of, size_of}
use Rattle.runs.specs.declared.Session.{Session}
use Rattle.runs.specs.SessionRecord.{did_of}
use Rattle.session_run.specs.SessionRun.{empty_of}
use Rattle.demands.specs.Call.{Call, Within, first_of}
use Rattle.demands.specs.History.{of_gauge}
use Rattle.demands.specs.Books.{BooksOver1024th}
use Rattle.demands.proofs.Called.{packed, called, called_within, called_stopped}

-- an image with AB 5 and COB 3
abbrev image : List ℕ
image =
    0x3d ∷ 1 ∷ 2 ∷ 3 ∷ 4 ∷ 5 ∷ 6 ∷ 0xac ∷ (replicate 16 0 ++ (0 ∷ 5 ∷ (replicate 25 0 ++ (3 ∷ (replicate 4 0 ++ (100 ∷ 0 ∷ 128 ∷ 0 ∷ []))))))

-- a sample of 97, so that c is 100, at a tick
abbrev sampling : ℕ → Rec
sampling tick = whole 6 (97 ∷ 0 ∷ 0 ∷ 0 ∷ (tick % 256) ∷ (tick / 256) ∷ [])

-- one, fifteen times 64, and 62: 1,023 conversions; then one of 40
abbrev ticks : List ℕ
ticks = 0 ∷ 64 ∷ 128 ∷ 192 ∷ 256 ∷ 320 ∷ 384 ∷ 448 ∷ 512 ∷ 576 ∷ 640 ∷ 704 ∷ 768 ∷ 832 ∷ 896 ∷ 960 ∷ 1022 ∷ []

abbrev records : List Rec
records = whole 1 image ∷ (map sampling ticks ++ (whole 3 (40 ∷ 0 ∷ 0 ∷ 0 ∷ []) ∷ []))

abbrev call : Call Session
call = called did_of empty_of (packed records) [] (replicate 96 0)

call_within : Within did_of empty_of call
call_within = called_within did_of empty_of (packed records) [] (replicate 96 0) (omega arith) (omega arith)

pub books_over_1024th : BooksOver1024th did_of empty_of of_gauge
unfolding rec_of size_of whole_of did_of taken_of kind_of judged_among addressed_of ordered_of crc.bit_of crc.eight_of crc.next_of
    image_of powered_of conversion_of convert_of flowed_of sampling_of sample_of sampled_of timely_of counted_of averaged_of found_of settled_of
books_over_1024th = record {
  taken = 18;
  first = called did_of empty_of (first_of 18 (packed records)) [] (replicate 96 0);
  second = call;
  run = call_within;
  stopped = called_stopped did_of empty_of 18 call call_within;
  raw = 2147483648 + 40;
  since = refl;
  made = refl;
  kept = (refl, tt);
  sum = refl;
  other = λ e. let z : ◌≡◌ {A = ℕ} 43 100 = ap nat_abs e in omega arith;
}
