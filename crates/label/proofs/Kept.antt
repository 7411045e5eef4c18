-- What a write, a copy and a recall leave of block 0 as it was.
use mathlib.Core.Path.{◌≡◌, refl, ◌∙◌}
use mathlib.Core.Bool.{Bool, true, false}
use mathlib.Core.List.{List}
use Prim.Native.Nat.{ℕ, ◌+◌, ◌≤◌, min, max}
use lib.ListN.{length}
use Rattle.numbers.specs.Choice.{both, either, but_not}
use Rattle.numbers.proofs.Bounds.{picked}
use Rattle.slices.proofs.Laws.{laid_none, laid_length}
use Rattle.state.specs.declared.Common.{Common}
use Rattle.state.specs.declared.Label.{Label}
use Rattle.state.specs.State.{LabelSized}
use Rattle.label.specs.Label.{in_label, label_written_of, label_copied_of, label_recalled_of, common_locked_of}

pub but_none : (t : Bool) → but_not false t ≡ false
but_none true = refl
but_none false = refl

pub or_none : (s t : Bool) → either s (both t false) ≡ s
or_none true t = refl
or_none false true = refl
or_none false false = refl

module _ (l : Label) (locked : Bool) (a : ℕ) where
  module _ (bytes : List ℕ) where
    pub label_written_sized : LabelSized l → LabelSized (label_written_of l locked a bytes)
    unfolding label_written_of
    label_written_sized s =
        picked LabelSized locked l _ (λ e. s) (λ e. record { shadow = laid_length 0x20 0x30 l.shadow a bytes ∙ s.shadow; eeprom = s.eeprom })

    -- a write leaves the EEPROM, of a locked block the shadow too, and all of it where no byte is for it
    pub label_written_eeprom : (label_written_of l locked a bytes).eeprom ≡ l.eeprom
    unfolding label_written_of
    label_written_eeprom = picked (λ (x : Label). x.eeprom ≡ l.eeprom) locked l _ (λ e. refl) (λ e. refl)

    pub label_written_locked : locked ≡ true → label_written_of l locked a bytes ≡ l
    unfolding label_written_of
    label_written_locked e = simp e

    pub label_written_elsewhere : min (a + length bytes) 0x30 ≤ max a 0x20 → label_written_of l locked a bytes ≡ l
    unfolding label_written_of
    label_written_elsewhere h =
        rw (laid_none 0x20 0x30 l.shadow a bytes h) (picked (λ (x : Label). x ≡ l) locked l l (λ e. refl) (λ e. refl))

  pub label_copied_sized : LabelSized l → LabelSized (label_copied_of l locked a)
  unfolding label_copied_of
  label_copied_sized s =
      picked LabelSized (but_not (in_label a) locked) _ l (λ e. record { shadow = s.shadow; eeprom = s.shadow }) (λ e. s)

  -- a copy leaves a locked block, and one that does not hold the address
  pub label_copied_locked : locked ≡ true → label_copied_of l locked a ≡ l
  unfolding label_copied_of
  label_copied_locked e = simp e

  pub label_copied_elsewhere : in_label a ≡ false → label_copied_of l locked a ≡ l
  unfolding label_copied_of
  label_copied_elsewhere e = rw (e, but_none locked) refl

module _ (l : Label) (a : ℕ) where
  pub label_recalled_sized : LabelSized l → LabelSized (label_recalled_of l a)
  unfolding label_recalled_of
  label_recalled_sized s =
      picked LabelSized (in_label a) _ l (λ e. record { shadow = s.eeprom; eeprom = s.eeprom }) (λ e. s)

  -- a recall leaves the EEPROM, and a block that does not hold the address
  pub label_recalled_eeprom : (label_recalled_of l a).eeprom ≡ l.eeprom
  unfolding label_recalled_of
  label_recalled_eeprom = picked (λ (x : Label). x.eeprom ≡ l.eeprom) (in_label a) _ l (λ e. refl) (λ e. refl)

  pub label_recalled_elsewhere : in_label a ≡ false → label_recalled_of l a ≡ l
  unfolding label_recalled_of
  label_recalled_elsewhere e = simp e

-- a lock leaves the lock bit of a block that does not hold the address
pub common_locked_elsewhere : (k : Common) (lock : Bool) (a : ℕ) → in_label a ≡ false → common_locked_of k lock a ≡ k
unfolding common_locked_of
common_locked_elsewhere k lock a e = rw (e, or_none k.bl0 lock) refl
