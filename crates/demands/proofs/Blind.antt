-- The sum of the books is not defined from the count: the shadow bytes in a history come from the address, block 1 and its locks alone.
use mathlib.Core.Path.{◌≡◌, refl, sym, ap, ◌∙◌}
use mathlib.Core.Bool.{false}
use mathlib.Core.List.{List, [], ◌∷◌}
use Prim.Native.Nat.{ℕ, zero, suc}
use lib.ListN.{drop}
use Rattle.numbers.specs.Choice.{pick}
use Rattle.numbers.proofs.Bounds.{through}
use Rattle.state.specs.State.{elapsed_of, powered_of}
use Rattle.state.specs.declared.Block.{Block}
use Rattle.state.specs.declared.Locks.{Locks}
use Rattle.state.specs.declared.Cells.{Cells}
use Rattle.state.specs.declared.Meter.{Meter}
use Rattle.conversion.specs.Conversion.{flowed_of, convert_of}
use Rattle.reading.specs.Reading.{results_shown, read_of}
use Rattle.samples.specs.Samples.{sampled_of, sample_of}
use Rattle.label.specs.Label.{common_locked_of}
use Rattle.block1.specs.Block1.{lock_written_of, block_written_of, block_copied_of, block_recalled_of, locks_locked_of}
use Rattle.block1.specs.Block1.{meter_written_of, meter_copied_of, meter_recalled_of, meter_locked_of}
use Rattle.bus.specs.declared.Command.{Command}
use Rattle.bus.specs.declared.Command.TheVariants.{Read, Write, Copy, Recall, Lock, Nothing}
use Rattle.replies.specs.Reply.{selected_of}
use Rattle.gauge.specs.declared.Gauge.{Gauge}
use Rattle.gauge.specs.Gauge.{conversion_of, sampling_of, reading_of, power_on_of, written_of, copied_of, recalled_of, locked_of}
use Rattle.gauge.specs.Act.{ran_by, ran_of, act_of}
use Rattle.gauge.specs.Image.{image_of}
use Rattle.record.specs.declared.Change.TheVariants.{Reading, Conversion, Sample, PowerOn}
use Rattle.demands.specs.History.{Happening, imaged, changed, transacted, happened}
use Rattle.demands.specs.Books.{Entry, conversions_in, booked_sum, entries_of, ledger_of, recounted, FromEvents}

record Parts : Type 0 where
  address : List ℕ
  block : Block
  locks : Locks

abbrev parts_of : Gauge → Parts
parts_of g = record { address = g.common.address; block = g.meter.cells.block; locks = g.meter.cells.locks }

-- What happens to them

abbrev ran_in : Command → Parts → ℕ → List ℕ → Parts
ran_in Read k a bytes = k
ran_in Write k a bytes = record {
  address = k.address;
  block = block_written_of k.block k.locks.bl1 a bytes;
  locks = record { lock = lock_written_of k.locks.lock a bytes; bl1 = k.locks.bl1 };
}
ran_in Copy k a bytes = record { address = k.address; block = block_copied_of k.block k.locks.bl1 a; locks = k.locks }
ran_in Recall k a bytes = record { address = k.address; block = block_recalled_of k.block a; locks = k.locks }
ran_in Lock k a bytes = record { address = k.address; block = k.block; locks = locks_locked_of k.locks a }
ran_in Nothing k a bytes = k

abbrev parts_after : Parts → Happening → Parts
parts_after k (imaged f p) = parts_of (image_of f p)
parts_after k (changed (Reading volt temp)) = k
parts_after k (changed (Conversion raw)) = k
parts_after k (changed (Sample raw tick)) = k
parts_after k (changed PowerOn) = record {
  address = k.address;
  block = record { shadow = k.block.eeprom; eeprom = k.block.eeprom };
  locks = record { lock = false; bl1 = k.locks.bl1 };
}
parts_after k (transacted t master) = pick (selected_of k.address t master) (ran_in t.command k t.address (drop t.from master)) k

sampled_cells : (m : Meter) (raw n : ℕ) → (sampled_of m raw n).cells ≡ m.cells
unfolding sampled_of convert_of flowed_of
sampled_cells m raw zero = refl
sampled_cells m raw (suc n) = sampled_cells m raw n

ran_parts : (command : Command) (g : Gauge) (a : ℕ) (bytes : List ℕ) → parts_of (ran_by command g a bytes) ≡ ran_in command (parts_of g) a bytes
unfolding written_of copied_of recalled_of locked_of meter_written_of meter_copied_of meter_recalled_of meter_locked_of common_locked_of
ran_parts Read g a bytes = refl
ran_parts Write g a bytes = refl
ran_parts Copy g a bytes = refl
ran_parts Recall g a bytes = refl
ran_parts Lock g a bytes = refl
ran_parts Nothing g a bytes = refl

parts_after_lem : (g : Gauge) (h : Happening) → parts_of (happened g h) ≡ parts_after (parts_of g) h
unfolding reading_of conversion_of sampling_of sample_of power_on_of convert_of flowed_of read_of results_shown powered_of act_of ran_of
parts_after_lem g (imaged f p) = refl
parts_after_lem g (changed (Reading volt temp)) = refl
parts_after_lem g (changed (Conversion raw)) = refl
parts_after_lem g (changed (Sample raw tick)) =
    ap (λ (c : Cells). record { address = g.common.address; block = c.block; locks = c.locks })
    (sampled_cells g.meter raw (elapsed_of g.meter.flow.tick tick))
parts_after_lem g (changed PowerOn) = refl
parts_after_lem g (transacted t master) =
    let s = selected_of g.common.address t master in
    through parts_of s (ran_of g t master) g ∙ ap (λ (k : Parts). pick s k (parts_of g)) (ran_parts t.command g t.address (drop t.from master))

entries_same : (hs : List Happening) (g f : Gauge) → parts_of g ≡ parts_of f → entries_of g hs ≡ entries_of f hs
entries_same [] g f e = refl
entries_same (h ∷ hs) g f e =
    let later = entries_same hs (happened g h) (happened f h) (parts_after_lem g h ∙ ap (λ (k : Parts). parts_after k h) e ∙ sym (parts_after_lem f h)) in
    λ i. record { what = h; shadow = (e i).block.shadow } ∷ later i

pub from_events : FromEvents
from_events g n hs =
    ap (λ (es : List Entry). booked_sum (ledger_of g.meter) (conversions_in g.meter.flow.tick es)) (entries_same hs (recounted g n) g refl)
