-- What a write, a copy and a recall leave of block 1 as it was, and what they leave of the whole meter where they are for other addresses.
-- The profile, the saved cells and BL1 stay by the definitions alone, and so does the cycle counter at a copy, a recall and a lock.
use mathlib.Core.Path.{◌≡◌, refl, ◌∙◌}
use mathlib.Core.Bool.{Bool, true, false}
use mathlib.Core.List.{List}
use Prim.Native.Nat.{ℕ, ◌+◌, ◌≤◌, ◌<◌, min, max}
use native.Mathlib.Omega.{arith}
use lib.ListN.{length}
use borrow.Author.Tests.{lt-leb}
use Rattle.numbers.specs.Choice.{both, but_not}
use Rattle.numbers.proofs.Bounds.{picked}
use Rattle.slices.proofs.Laws.{laid_none, laid_length}
use Rattle.state.specs.State.{counts_cycles}
use Rattle.state.specs.declared.Cycles.{Cycles}
use Rattle.state.specs.declared.Block.{Block}
use Rattle.state.specs.declared.Cells.{Cells}
use Rattle.state.specs.declared.Meter.{Meter}
use Rattle.block1.specs.Block1.{with_cells, reaches_of, porf_written_of, acr_written_of, lock_written_of, cycles_written_of, block_written_of, cells_written_of}
use Rattle.block1.specs.Block1.{meter_written_of, block_copied_of, block_recalled_of, meter_copied_of, meter_recalled_of, meter_locked_of, BlockSized}
use Rattle.label.specs.Label.{in_label, in_block}
use Rattle.label.proofs.Kept.{but_none, or_none}

module _ (b : Block) (locked : Bool) (a : ℕ) where
  module _ (bytes : List ℕ) where
    pub written_sized : BlockSized b → BlockSized (block_written_of b locked a bytes)
    unfolding block_written_of
    written_sized s =
        picked BlockSized locked b _ (λ e. s) (λ e. record { shadow = laid_length 0x60 0x80 b.shadow a bytes ∙ s.shadow; eeprom = s.eeprom })

    -- a write leaves the EEPROM, and of a locked block the shadow too
    pub written_eeprom : (block_written_of b locked a bytes).eeprom ≡ b.eeprom
    unfolding block_written_of
    written_eeprom = picked (λ (x : Block). x.eeprom ≡ b.eeprom) locked b _ (λ e. refl) (λ e. refl)

    pub written_locked : locked ≡ true → block_written_of b locked a bytes ≡ b
    unfolding block_written_of
    written_locked e = simp e

    pub block_written_elsewhere : min (a + length bytes) 0x80 ≤ max a 0x60 → block_written_of b locked a bytes ≡ b
    unfolding block_written_of
    block_written_elsewhere h =
        rw (laid_none 0x60 0x80 b.shadow a bytes h) (picked (λ (x : Block). x ≡ b) locked b b (λ e. refl) (λ e. refl))

  pub copied_sized : BlockSized b → BlockSized (block_copied_of b locked a)
  unfolding block_copied_of
  copied_sized s = picked BlockSized (but_not (in_block a) locked) _ b (λ e. record { shadow = s.shadow; eeprom = s.shadow }) (λ e. s)

  -- a copy leaves a locked block
  pub copied_locked : locked ≡ true → block_copied_of b locked a ≡ b
  unfolding block_copied_of
  copied_locked e = simp e

  block_copied_elsewhere : in_block a ≡ false → block_copied_of b locked a ≡ b
  unfolding block_copied_of
  block_copied_elsewhere e = rw (e, but_none locked) refl

module _ (b : Block) (a : ℕ) where
  pub recalled_sized : BlockSized b → BlockSized (block_recalled_of b a)
  unfolding block_recalled_of
  recalled_sized s = picked BlockSized (in_block a) _ b (λ e. record { shadow = s.eeprom; eeprom = s.eeprom }) (λ e. s)

  -- a recall leaves the EEPROM
  pub recalled_eeprom : (block_recalled_of b a).eeprom ≡ b.eeprom
  unfolding block_recalled_of
  recalled_eeprom = picked (λ (x : Block). x.eeprom ≡ b.eeprom) (in_block a) _ b (λ e. refl) (λ e. refl)

-- no write reaches the cycle counter of a profile that has none, nor of one whose block 1 is locked
none_of_both : (t : Bool) → both t false ≡ false
none_of_both true = refl
none_of_both false = refl

module _ (y : Cycles) (c : Cells) (a : ℕ) (bytes : List ℕ) where
  pub cycles_uncounted : counts_cycles c.profile ≡ false → cycles_written_of y c a bytes ≡ y
  unfolding cycles_written_of
  cycles_uncounted e = rw (e, but_none c.locks.bl1, none_of_both (reaches_of a bytes 0x1e)) refl

  pub cycles_locked : c.locks.bl1 ≡ true → cycles_written_of y c a bytes ≡ y
  unfolding cycles_written_of
  cycles_locked e = rw (e, none_of_both (reaches_of a bytes 0x1e)) refl

-- ---- elsewhere

missed : (a : ℕ) (bytes : List ℕ) (x : ℕ) → x < a → reaches_of a bytes x ≡ false
unfolding reaches_of
missed a bytes x h = rw (lt-leb a x h) refl

module _ (m : Meter) (a : ℕ) where
  -- bytes from 20h on are for no register: the cells alone may change
  pub written_above : (bytes : List ℕ) → 0x20 ≤ a → meter_written_of m a bytes ≡ with_cells m (cells_written_of m.cells a bytes)
  unfolding meter_written_of porf_written_of acr_written_of cycles_written_of
  written_above bytes low =
      rw (missed a bytes 0x01 (omega arith), missed a bytes 0x10 (omega arith), missed a bytes 0x1e (omega arith)) refl

  -- bytes for 20h..2Fh alone are not for block 1 either
  pub written_elsewhere : (bytes : List ℕ) → 0x20 ≤ a → a + length bytes ≤ 0x30 → meter_written_of m a bytes ≡ m
  unfolding lock_written_of
  written_elsewhere bytes low high =
      written_above bytes low ∙ rw (missed a bytes 0x1f (omega arith), block_kept bytes (omega arith)) refl
    where
      block_kept : (bytes : List ℕ) → a + length bytes ≤ 0x60 → block_written_of m.cells.block m.cells.locks.bl1 a bytes ≡ m.cells.block
      block_kept bytes h = block_written_elsewhere m.cells.block m.cells.locks.bl1 a bytes (omega arith)

  -- a copy or a recall at an address that is not of block 1
  pub copied_elsewhere : in_block a ≡ false → meter_copied_of m a ≡ m
  unfolding meter_copied_of
  copied_elsewhere e = rw (block_copied_elsewhere m.cells.block m.cells.locks.bl1 a e) refl

  pub recalled_elsewhere : in_block a ≡ false → meter_recalled_of m a ≡ m
  unfolding meter_recalled_of block_recalled_of
  recalled_elsewhere e = simp e

  -- a lock at an address in no block
  pub locked_elsewhere : in_label a ≡ false → in_block a ≡ false → meter_locked_of m a ≡ m
  unfolding meter_locked_of
  locked_elsewhere e f = rw (e, f, or_none m.cells.locks.bl1 m.cells.locks.lock) refl
