-- WHAT A CONVERSION MEANS IN SIGNED NUMBERS. Currents, COB and AB are kept with an offset; `value` says which integer is meant. Each step of document 01
-- that works on signed numbers is here its wording over the integers, `..Z`, which stands beside the step in Conversion.antt.
use Rattle.std.specs.Prelude.{◌≡◌, Bool, List, ℕ, ◌<◌, eqb, pos, length}
use Rattle.numbers.specs.Choice.{pick}
use Rattle.numbers.specs.Offset.{zero_at, value, signed}
use Rattle.params.specs.declared.Counting.{Counting}
use Rattle.params.specs.Params.{byte_at, signed_at}
use Rattle.state.specs.declared.Average.{Average}
use Rattle.state.specs.declared.Charge.{Charge}
use Rattle.state.specs.declared.Flow.{Flow}
use Rattle.state.specs.declared.Profile.{Profile}
use Rattle.state.specs.State.{acr_of, run_of}
use Rattle.conversion.specs.Conversion.{current_of, converted_of, turned_of, blanked_of, grown_of, new_count, fall_of, averaged_over, tapers_of, current_z}
use Rattle.conversion.specs.Conversion.{turned_z, blanked_z, grown_z, added_z, fall_z, mean_z, tapers_z}

pub record ConversionMeans : Type 0 where
  -- "parameter bytes are unsigned but for COB, AB and the breakpoints": these are in two's complement
  pub parameter : (block : List ℕ) (address : ℕ) → byte_at block address < 256 → value 7 (signed_at block address) ≡ signed 7 (byte_at block address)
  -- what "other registers .. are 0" at a power-on is kept as
  pub nought : (k : ℕ) → value k (zero_at k) ≡ pos 0
  -- 1. "c = raw + COB (7Bh, signed), clamped to -32,768..32,767"; and on every 1024th the c before it
  pub current : (raw cob : ℕ) → value 15 (current_of raw cob) ≡ current_z (value 31 raw) (value 7 cob)
  pub converted : (flow : Flow) (raw cob : ℕ) → value 15 (converted_of flow raw cob)
      ≡ pick (eqb flow.average.made 1023) (value 15 flow.trace.last) (current_z (value 31 raw) (value 7 cob))
  -- "If c < 0 and the previous c was not negative"
  pub turned : (last c : ℕ) → turned_of last c ≡ turned_z (value 15 last) (value 15 c)
  -- 2. "0 < c < 64 counts as 0; with NBEN (bit 7 of 60h), -16 < c < 0 counts as 0"; in the DS2775 profile -16 too
  pub blanked : (profile : Profile) (nben : Bool) (c : ℕ) → value 15 (blanked_of profile nben c) ≡ blanked_z profile nben (value 15 c)
  -- 3. "ACR × 4,096 + fraction grows by that plus AB (61h, signed), clamped to 0..2^28 - 1"; 2 and 3 together, with the mark
  pub grown : (count counted ab : ℕ) → pos (grown_of count counted ab) ≡ grown_z (pos count) (value 15 counted) (value 7 ab)
  pub counted : (profile : Profile) (counting : Counting) (charge : Charge) (c : ℕ) → pos (new_count profile counting charge c)
      ≡ added_z charge.mark (pos charge.count) (blanked_z profile counting.nben (value 15 c)) (value 7 counting.ab)
  -- 4. "A fall of ACR in step 3"
  pub fall : (old new : ℕ) → fall_of old new ≡ fall_z (acr_of old) (acr_of new)
  -- 6. "IAVG = the sum of eight c divided by 8, rounded down"
  pub mean : (average : Average) (cs : List ℕ) → run_of average ≡ 0 → average.sum ≡ 0 → length cs ≡ 8 → value 15 (averaged_over average cs).iavg ≡ mean_z cs
  -- "in 1..32 × IMIN - 1"
  pub tapers : (imin x : ℕ) → tapers_of imin x ≡ tapers_z imin (value 15 x)
