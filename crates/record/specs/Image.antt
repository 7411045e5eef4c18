-- The pack image of document 01: net address 8, block 0 EEPROM 16, block 1 EEPROM 32, saved ACR 2, saved AS 1, lock byte 1; and of the DS2775
-- profile the saved cycle counter after them. Its size in kind 1, where its parts stand and what they are; all else speaks of an image by
-- these names.
use Rattle.std.specs.Prelude.{Bool, List, ℕ, ◌/◌, ◌%◌, eqb, get_or}
use Rattle.slices.specs.Slices.{part, pair_at}
use Rattle.numbers.specs.Choice.{pick}
use Rattle.state.specs.declared.Profile.{Profile}
use Rattle.state.specs.State.{counts_cycles}
use Rattle.params.specs.declared.Breaks.{Breaks}
use Rattle.params.specs.Params.{breaks_of}

abbrev pub image_size : ℕ
image_size = 60

abbrev pub address_at : ℕ
address_at = 0

abbrev pub label_at : ℕ
label_at = 8

abbrev pub block_at : ℕ
block_at = 24

abbrev pub acr_at : ℕ
acr_at = 56

abbrev pub aging_at : ℕ
aging_at = 58

abbrev pub locks_at : ℕ
locks_at = 59

abbrev pub cycles_at : ℕ
cycles_at = 60

abbrev pub image_address : List ℕ → List ℕ
image_address p = part 8 p address_at

abbrev pub image_label : List ℕ → List ℕ
image_label p = part 16 p label_at

abbrev pub image_block : List ℕ → List ℕ
image_block p = part 32 p block_at

-- TBP34, TBP23 and TBP12: offsets 34h, 35h and 36h
abbrev pub image_breaks : List ℕ → Breaks
image_breaks p = breaks_of (image_block p)

-- the saved ACR is little-endian
abbrev pub image_acr : List ℕ → ℕ
image_acr p = pair_at p acr_at

abbrev pub image_aging : List ℕ → ℕ
image_aging p = get_or p aging_at 0

-- 0 where the profile saves none
abbrev pub image_cycles : Profile → List ℕ → ℕ
image_cycles profile p = pick (counts_cycles profile) (get_or p cycles_at 0) 0

-- the lock byte: bit 0 is BL0, bit 1 BL1
abbrev pub image_locks : List ℕ → ℕ
image_locks p = get_or p locks_at 0

abbrev pub image_bl0 : List ℕ → Bool
image_bl0 p = eqb (image_locks p % 2) 1

abbrev pub image_bl1 : List ℕ → Bool
image_bl1 p = eqb (image_locks p / 2 % 2) 1
