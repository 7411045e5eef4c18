-- The pack image in and out; `record` says where its parts stand.
use Rattle.std.specs.Prelude.{◌≡◌, Bool, true, false, Result, Ok, Err, List, [], ◌∷◌, ◌++◌, ℕ, ◌+◌, ◌/◌, ◌%◌, leb, length, drop}
use Rattle.numbers.specs.Choice.{pick}
use Rattle.state.specs.declared.Profile.{Profile}
use Rattle.state.specs.State.{image_size_of, counts_cycles, powered_of}
use Rattle.record.specs.Image.{image_address, image_label, image_block, image_acr, image_aging, image_cycles, image_bl0, image_bl1}
use Rattle.record.specs.declared.Refusal.{Refusal}
use Rattle.record.specs.declared.Refusal.TheVariants.{Room}
use Rattle.state.specs.declared.Saved.{Saved}
use Rattle.registers.specs.Registers.{flag_of}
use Rattle.gauge.specs.declared.Gauge.{Gauge}

-- ---- in

-- accepting an image is a power-on, and the image "picks the profile for that pack"
unfoldable pub image_of : Profile → List ℕ → Gauge
image_of profile p = record {
  common = record { address = image_address p; bl0 = image_bl0 p };
  label = record { shadow = image_label p; eeprom = image_label p };
  meter = powered_of (record {
    profile = profile;
    block = record { shadow = image_block p; eeprom = image_block p };
    locks = record { lock = false; bl1 = image_bl1 p };
    saved = record { acr = image_acr p; aging = image_aging p; cycles = image_cycles profile p };
  });
}

-- ---- out

abbrev pub lock_byte : Bool → Bool → ℕ
lock_byte bl1 bl0 = flag_of bl1 2 + flag_of bl0 1

-- saved ACR, saved AS and the lock byte
abbrev pub cells_of : Saved → ℕ → List ℕ
cells_of saved lock = (saved.acr % 256) ∷ (saved.acr / 256) ∷ saved.aging ∷ lock ∷ []

abbrev pub tail_of : Gauge → List ℕ
tail_of gauge = cells_of gauge.meter.cells.saved (lock_byte gauge.meter.cells.locks.bl1 gauge.common.bl0)

-- "The counter is an EEPROM-saved cell, one byte at the end": none where the profile has no counter
abbrev pub cycle_cell : Profile → ℕ → List ℕ
cycle_cell profile count = pick (counts_cycles profile) (count ∷ []) []

-- what stands after the blocks
abbrev pub image_end : Gauge → List ℕ
image_end gauge = tail_of gauge ++ cycle_cell gauge.meter.cells.profile gauge.meter.cells.saved.cycles

-- address, both EEPROM blocks, saved cells, lock byte; and the saved cycle counter
unfoldable pub bytes_of : Gauge → List ℕ
bytes_of gauge = gauge.common.address ++ (gauge.label.eeprom ++ (gauge.meter.cells.block.eeprom ++ image_end gauge))

-- how many they are
abbrev pub size_for : Gauge → ℕ
size_for gauge = image_size_of gauge.meter.cells.profile

-- how many bytes are written, or that they do not fit
abbrev pub size_or : Bool → Gauge → Result ℕ Refusal
size_or true gauge = Ok (size_for gauge)
size_or false gauge = Err Room

-- the first bytes of the lent room, as many as an image has, the rest untouched; nothing is written in a room under 60 bytes, or under 61
abbrev pub room_after : Bool → Gauge → List ℕ → List ℕ
room_after true gauge room = bytes_of gauge ++ drop (size_for gauge) room
room_after false gauge room = room

pub record ImageOut (g : Gauge) (room : List ℕ) (done : Result ℕ Refusal) (after : List ℕ) : Type 0 where
  pub fits : done ≡ size_or (leb (size_for g) (length room)) g
  pub written : after ≡ room_after (leb (size_for g) (length room)) g room
