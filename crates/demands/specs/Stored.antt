-- THE EEPROM, request [14] of document 02.
--
-- "In any session no byte of a block's EEPROM changes while the block is locked, and each byte is always its image value or, once a copy has taken
-- effect, the shadow value at the last such copy."
--
-- Stated of any run and of any pack that it holds, as what History.antt says that it went through; "always", since a run that is stopped is a run.
use Rattle.std.specs.Prelude.{◌≡◌, Bool, true, false, List, [], ◌∷◌, ℕ}
use Rattle.numbers.specs.Choice.{pick, both, but_not}
use Rattle.state.specs.declared.Profile.{Profile}
use Rattle.label.specs.Label.{in_label, in_block}
use Rattle.bus.specs.declared.Command.{Command}
use Rattle.bus.specs.declared.Command.TheVariants.{Read, Write, Copy, Recall, Lock, Nothing}
use Rattle.bus.specs.declared.Transaction.{Transaction}
use Rattle.replies.specs.Reply.{selected_of}
use Rattle.gauge.specs.declared.Gauge.{Gauge}
use Rattle.gauge.specs.Image.{image_of}
use Rattle.record.specs.Image.{image_label, image_block}
use Rattle.runs.specs.Record.{Rec}
use Rattle.runs.specs.Run.{Did}
use Rattle.demands.specs.Call.{Call, Within, Stopped}
use Rattle.demands.specs.History.{Happening, imaged, changed, transacted, happened, Imageless, Pack, heard_since, life_in, left_by}

-- ---- the two blocks, said once

pub data Memory : Type 0 where
  block0 block1 : Memory

abbrev pub shadow_in : Memory → Gauge → List ℕ
shadow_in block0 gauge = gauge.label.shadow
shadow_in block1 gauge = gauge.meter.cells.block.shadow

abbrev pub eeprom_in : Memory → Gauge → List ℕ
eeprom_in block0 gauge = gauge.label.eeprom
eeprom_in block1 gauge = gauge.meter.cells.block.eeprom

abbrev pub locked_in : Memory → Gauge → Bool
locked_in block0 gauge = gauge.common.bl0
locked_in block1 gauge = gauge.meter.cells.locks.bl1

abbrev pub has_address : Memory → ℕ → Bool
has_address block0 a = in_label a
has_address block1 a = in_block a

abbrev pub image_in : Memory → List ℕ → List ℕ
image_in block0 p = image_label p
image_in block1 p = image_block p

-- ---- "its image value or, once a copy has taken effect, the shadow value at the last such copy"

abbrev pub is_copy : Command → Bool
is_copy Read = false
is_copy Write = false
is_copy Copy = true
is_copy Recall = false
is_copy Lock = false
is_copy Nothing = false

-- the pack is selected, and a 48h names an address of the block, which is unlocked
abbrev pub copy_acts : Memory → Gauge → Transaction → List ℕ → Bool
copy_acts b gauge transaction master =
    both (selected_of gauge.common.address transaction master)
    (both (is_copy transaction.command) (but_not (has_address b transaction.address) (locked_in b gauge)))

-- a power-on is no copy
abbrev pub stored_by : Memory → Gauge → List ℕ → Happening → List ℕ
stored_by b gauge bytes (imaged f p) = image_in b p
stored_by b gauge bytes (changed c) = bytes
stored_by b gauge bytes (transacted t master) = pick (copy_acts b gauge t master) (shadow_in b gauge) bytes

-- of a history from the gauge g on, before which the bytes were stored
abbrev pub stored_last : Memory → Gauge → List ℕ → List Happening → List ℕ
stored_last b gauge bytes [] = bytes
stored_last b gauge bytes (h ∷ hs) = stored_last b (happened gauge h) (stored_by b gauge bytes h) hs

-- ---- the theorem

module _ {S : Type 0} (did : S → ℕ → Rec → Did S) (start : S) (pack : Pack S) where
  -- what the pack went through begins with its image, and no other comes later
  pub record EepromStored (m : Memory) (c : Call S) : Type 0 where
    pub profile : Profile
    pub image : List ℕ
    pub later : List Happening
    pub life : life_in did start pack c ≡ imaged profile image ∷ later
    pub once : Imageless later
    pub bytes : eeprom_in m (left_by pack c) ≡ stored_last m (image_of profile image) (image_in m image) later

  pub record EepromHolds : Type 0 where
    -- of the run b, stopped earlier, as a, after n records
    pub locked : (m : Memory) (n : ℕ) (a b : Call S) → Within did start b → Stopped did start n b a → pack.there a.ran.state ≡ true
        → locked_in m (left_by pack a) ≡ true → eeprom_in m (left_by pack b) ≡ eeprom_in m (left_by pack a)
    pub stored : (m : Memory) (c : Call S) → Within did start c → pack.there c.ran.state ≡ true → EepromStored m c

  -- and it speaks of something: a block is locked whose EEPROM is no longer the image's, nor what its shadow holds, and a copy of it comes later
  pub record EepromMet : Type 0 where
    pub block : Memory
    pub taken : ℕ
    pub first : Call S
    pub second : Call S
    pub run : Within did start second
    pub stopped : Stopped did start taken second first
    pub there : pack.there first.ran.state ≡ true
    pub locked : locked_in block (left_by pack first) ≡ true
    pub profile : Profile
    pub image : List ℕ
    pub later : List Happening
    pub life : life_in did start pack first ≡ imaged profile image ∷ later
    pub copied : eeprom_in block (left_by pack first) ≡ image_in block image → ⊥
    pub other : eeprom_in block (left_by pack first) ≡ shadow_in block (left_by pack first) → ⊥
    pub tries : Transaction
    pub master : List ℕ
    pub since : heard_since pack did taken first second ≡ transacted tries master ∷ []
    pub copies : (selected_of (left_by pack first).common.address tries master ≡ true) × (is_copy tries.command ≡ true)
        × (has_address block tries.address ≡ true)
