-- The EEPROM of a pack: the bytes of its image, or those of the shadow at the last copy; and none changes while the block is locked.
use mathlib.Core.Path.{◌≡◌, refl, ap, ◌∙◌}
use mathlib.Core.Bool.{Bool, true, false}
use mathlib.Core.List.{List, [], ◌∷◌}
use Prim.Native.Nat.{ℕ}
use lib.ListN.{drop}
use Rattle.numbers.specs.Choice.{pick, both, but_not}
use Rattle.numbers.proofs.Bounds.{through}
use Rattle.state.specs.declared.Profile.{Profile}
use Rattle.state.specs.State.{powered_of}
use Rattle.conversion.specs.Conversion.{flowed_of, convert_of}
use Rattle.reading.specs.Reading.{results_shown, read_of}
use Rattle.state.specs.declared.Label.{Label}
use Rattle.label.specs.Label.{in_label, in_block, label_copied_of}
use Rattle.label.proofs.Kept.{label_written_eeprom, label_recalled_eeprom}
use Rattle.state.specs.declared.Block.{Block}
use Rattle.block1.specs.Block1.{block_copied_of, meter_written_of, meter_copied_of, meter_recalled_of, meter_locked_of}
use Rattle.block1.proofs.Kept.{written_eeprom, recalled_eeprom}
use Rattle.bus.specs.declared.Command.{Command}
use Rattle.bus.specs.declared.Command.TheVariants.{Read, Write, Copy, Recall, Lock, Nothing}
use Rattle.bus.specs.declared.Transaction.{Transaction}
use Rattle.replies.specs.Reply.{selected_of}
use Rattle.gauge.specs.declared.Gauge.{Gauge}
use Rattle.gauge.specs.Gauge.{conversion_of, reading_of, power_on_of, written_of, copied_of, recalled_of, locked_of}
use Rattle.gauge.specs.Kept.{Kept}
use Rattle.gauge.specs.Change.{changed_of}
use Rattle.gauge.specs.Act.{ran_by, ran_of, act_of}
use Rattle.gauge.proofs.Kept as kept
use Rattle.gauge.proofs.Kept.{locked_label_eeprom, locked_block_eeprom}
use Rattle.gauge.specs.Image.{image_of}
use Rattle.record.specs.declared.Change.{Change}
use Rattle.demands.specs.History.{Happening, imaged, changed, transacted, happened, lived, NoImage, Imageless}
use Rattle.demands.specs.Stored.{Memory, block0, block1, shadow_in, eeprom_in, locked_in, has_address, image_in, is_copy, copy_acts, stored_by, stored_last}

-- What happens to a block

-- no change writes it, a power-on neither
changed_eeprom : (b : Memory) (g : Gauge) (c : Change) → eeprom_in b (changed_of g c) ≡ eeprom_in b g
unfolding conversion_of reading_of power_on_of convert_of flowed_of read_of results_shown powered_of
changed_eeprom block0 g c =
    kept.changed (λ (f : Gauge). f.label.eeprom ≡ g.label.eeprom)
    (record { conversion = λ f raw p. p; tick = λ f tick p. p; reading = λ f volt temp p. p; power_on = λ f p. p }) g c refl
changed_eeprom block1 g c =
    kept.changed (λ (f : Gauge). f.meter.cells.block.eeprom ≡ g.meter.cells.block.eeprom)
    (record { conversion = λ f raw p. p; tick = λ f tick p. p; reading = λ f volt temp p. p; power_on = λ f p. p }) g c refl

-- a copy stores the shadow of the block that it names, unless it is locked
copied_eeprom : (b : Memory) (g : Gauge) (a : ℕ) → eeprom_in b (copied_of g a) ≡
    pick (but_not (has_address b a) (locked_in b g)) (shadow_in b g) (eeprom_in b g)
unfolding copied_of label_copied_of meter_copied_of block_copied_of
copied_eeprom block0 g a = through (λ (l : Label). l.eeprom) (but_not (in_label a) g.common.bl0) _ g.label
copied_eeprom block1 g a = through (λ (k : Block). k.eeprom) (but_not (in_block a) g.meter.cells.locks.bl1) _ g.meter.cells.block

ran_eeprom : (b : Memory) (command : Command) (g : Gauge) (a : ℕ) (bytes : List ℕ)
    → eeprom_in b (ran_by command g a bytes) ≡ pick (both (is_copy command) (but_not (has_address b a) (locked_in b g))) (shadow_in b g) (eeprom_in b g)
unfolding written_of recalled_of locked_of meter_written_of meter_recalled_of meter_locked_of
ran_eeprom b Read g a bytes = refl
ran_eeprom block0 Write g a bytes = label_written_eeprom g.label g.common.bl0 a bytes
ran_eeprom block1 Write g a bytes = written_eeprom g.meter.cells.block g.meter.cells.locks.bl1 a bytes
ran_eeprom b Copy g a bytes = copied_eeprom b g a
ran_eeprom block0 Recall g a bytes = label_recalled_eeprom g.label a
ran_eeprom block1 Recall g a bytes = recalled_eeprom g.meter.cells.block a
ran_eeprom block0 Lock g a bytes = refl
ran_eeprom block1 Lock g a bytes = refl
ran_eeprom b Nothing g a bytes = refl

acted_eeprom : (b : Memory) (g : Gauge) (t : Transaction) (master : List ℕ)
    → eeprom_in b (act_of g t master) ≡ pick (copy_acts b g t master) (shadow_in b g) (eeprom_in b g)
unfolding act_of ran_of
acted_eeprom b g t master = go (selected_of g.common.address t master)
  where
    go : (s : Bool) → eeprom_in b (pick s (ran_of g t master) g)
        ≡ pick (both s (both (is_copy t.command) (but_not (has_address b t.address) (locked_in b g)))) (shadow_in b g) (eeprom_in b g)
    go true = ran_eeprom b t.command g t.address (drop t.from master)
    go false = refl

pub stored_image : (b : Memory) (f : Profile) (p : List ℕ) → eeprom_in b (image_of f p) ≡ image_in b p
unfolding image_of powered_of
stored_image block0 f p = refl
stored_image block1 f p = refl

stored_one : (b : Memory) (g : Gauge) (h : Happening) → eeprom_in b (happened g h) ≡ stored_by b g (eeprom_in b g) h
stored_one b g (imaged f p) = stored_image b f p
stored_one b g (changed c) = changed_eeprom b g c
stored_one b g (transacted t master) = acted_eeprom b g t master

-- ITS IMAGE VALUE, OR THE SHADOW VALUE AT THE LAST COPY, of any history
pub stored_last_lem : (b : Memory) (hs : List Happening) (g : Gauge) → eeprom_in b (lived g hs) ≡ stored_last b g (eeprom_in b g) hs
stored_last_lem b [] g = refl
stored_last_lem b (h ∷ hs) g =
    stored_last_lem b hs (happened g h) ∙ ap (λ (bytes : List ℕ). stored_last b (happened g h) bytes hs) (stored_one b g h)

-- A block that is locked

abbrev LockedWith : Memory → List ℕ → Gauge → Type 0
LockedWith b bytes g = (locked_in b g ≡ true) × (eeprom_in b g ≡ bytes)

locked_kept : (b : Memory) (bytes : List ℕ) → Kept (LockedWith b bytes)
locked_kept block0 bytes = locked_label_eeprom bytes
locked_kept block1 bytes = locked_block_eeprom bytes

locked_one : (b : Memory) (bytes : List ℕ) (g : Gauge) (h : Happening) → NoImage h → LockedWith b bytes g → LockedWith b bytes (happened g h)
locked_one b bytes g (imaged f p) n l = absurd n
locked_one b bytes g (changed c) n l = (locked_kept b bytes).change g c l
locked_one b bytes g (transacted t master) n l = (locked_kept b bytes).act g t master l

-- NO BYTE CHANGES WHILE IT IS LOCKED, of any history after the image
pub locked_lasts : (b : Memory) (bytes : List ℕ) (hs : List Happening) (g : Gauge) → Imageless hs → LockedWith b bytes g →
    LockedWith b bytes (lived g hs)
locked_lasts b bytes [] g n l = l
locked_lasts b bytes (h ∷ hs) g n l = locked_lasts b bytes hs (happened g h) n.1 (locked_one b bytes g h n.0 l)
