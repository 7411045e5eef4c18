-- Where the two blocks stand, and block 0, the label: what a write, a copy, a recall, a lock and a power-on do to it. What label events touch
-- is a function of the common part and the label.
use Rattle.std.specs.Prelude.{ℕ, ◌-◌, Bool, List, ltb, leb, get_or}
use Rattle.numbers.specs.Choice.{pick, both, either, but_not}
use Rattle.slices.specs.Slices.{laid_of}
use Rattle.state.specs.declared.Common.{Common}
use Rattle.state.specs.declared.Label.{Label}

-- 20h..2Fh: block 0, the label
unfoldable pub in_label : ℕ → Bool
in_label a = both (leb 0x20 a) (ltb a 0x30)

-- 60h..7Fh: block 1, the parameters
unfoldable pub in_block : ℕ → Bool
in_block a = both (leb 0x60 a) (ltb a 0x80)

-- the byte at an address of the label
unfoldable pub label_byte : Label → ℕ → ℕ
label_byte label a = get_or label.shadow (a - 0x20) 0

-- 6Ch: bytes written from the address a upward; those for 20h..2Fh, unless locked
unfoldable pub label_written_of : Label → Bool → ℕ → List ℕ → Label
label_written_of label locked a bytes =
    pick locked label (record { shadow = laid_of 0x20 0x30 label.shadow a bytes; eeprom = label.eeprom })

-- 48h at the address a: shadow to EEPROM if it is the label's, unless locked
unfoldable pub label_copied_of : Label → Bool → ℕ → Label
label_copied_of label locked a = pick (but_not (in_label a) locked) (record { shadow = label.shadow; eeprom = label.shadow }) label

-- a power-on: the shadow takes the EEPROM bytes
abbrev pub label_powered_of : Label → Label
label_powered_of label = record { shadow = label.eeprom; eeprom = label.eeprom }

-- B8h at the address a: EEPROM to shadow if it is the label's, locked or not
unfoldable pub label_recalled_of : Label → ℕ → Label
label_recalled_of label a = pick (in_label a) (label_powered_of label) label

-- 6Ah at the address a: if LOCK is 1 and it is the label's. Its lock bit is common, LOCK the meter's
unfoldable pub common_locked_of : Common → Bool → ℕ → Common
common_locked_of common lock a = record { address = common.address; bl0 = either common.bl0 (both lock (in_label a)) }
