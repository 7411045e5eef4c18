-- What no event undoes, and what a transaction cannot reach.
use mathlib.Core.Path.{◌≡◌, refl, ap, ◌∙◌}
use mathlib.Core.Bool.{Bool, true, false}
use mathlib.Core.List.{List}
use Prim.Native.Nat.{ℕ, zero, suc}
use lib.ListN.{drop}
use Rattle.numbers.proofs.Bounds.{picked}
use Rattle.state.specs.declared.Profile.{Profile}
use Rattle.conversion.specs.Conversion.{cycled_of, flowed_of, convert_of}
use Rattle.state.specs.declared.Charge.{Charge}
use Rattle.state.specs.declared.Saved.{Saved}
use Rattle.reading.specs.Reading.{kept_of, read_of, drained_of, results_shown}
use Rattle.state.specs.declared.Locks.{Locks}
use Rattle.state.specs.declared.Block.{Block}
use Rattle.block1.specs.Block1.{with_cells, with_locks, meter_written_of, meter_copied_of, meter_recalled_of, meter_locked_of}
use Rattle.state.specs.State.{powered_of, elapsed_of}
use Rattle.samples.specs.Samples.{sampled_of, ticked_of, sample_of}
use Rattle.state.specs.declared.Common.{Common}
use Rattle.state.specs.declared.Label.{Label}
use Rattle.label.specs.Label.{in_label, in_block, common_locked_of}
use Rattle.label.proofs.Kept.{label_written_sized, label_written_eeprom, label_copied_sized, label_copied_locked, label_copied_elsewhere}
use Rattle.label.proofs.Kept.{label_recalled_sized, label_recalled_eeprom, label_recalled_elsewhere, common_locked_elsewhere}
use Rattle.block1.proofs.Kept.{written_sized, written_eeprom, copied_sized, copied_locked, copied_elsewhere, recalled_sized}
use Rattle.block1.proofs.Kept.{recalled_eeprom, recalled_elsewhere, locked_elsewhere, cycles_uncounted}
use Rattle.bus.specs.declared.Command.{Command}
use Rattle.bus.specs.declared.Command.TheVariants.{Read, Write, Copy, Recall, Lock, Nothing}
use Rattle.bus.specs.declared.Transaction.{Transaction}
use Rattle.replies.specs.Reply.{selected_of}
use Rattle.gauge.specs.declared.Gauge.{Gauge}
use Rattle.gauge.specs.Gauge.{Sized, Uncounted, with_meter, conversion_of, sampling_of, reading_of, power_on_of, written_of, copied_of, recalled_of, locked_of}
use Rattle.record.specs.declared.Change.{Change}
use Rattle.record.specs.declared.Change.TheVariants.{Reading, Conversion, Sample, PowerOn}
use Rattle.gauge.specs.Change.{changed_of}
use Rattle.gauge.specs.Act.{ran_by, ran_of, act_of}
use Rattle.gauge.specs.Kept.{Kept}

-- ---- what a transaction keeps

module _ (P : Gauge → Type 0) where
  -- what each command keeps
  pub record Commands : Type 0 where
    pub written : (g : Gauge) (a : ℕ) (bytes : List ℕ) → P g → P (written_of g a bytes)
    pub copied : (g : Gauge) (a : ℕ) → P g → P (copied_of g a)
    pub recalled : (g : Gauge) (a : ℕ) → P g → P (recalled_of g a)
    pub locked : (g : Gauge) (a : ℕ) → P g → P (locked_of g a)

  module _ (c : Commands) where
    ran : (command : Command) (g : Gauge) (a : ℕ) (bytes : List ℕ) → P g → P (ran_by command g a bytes)
    ran Read g a bytes p = p
    ran Write g a bytes p = c.written g a bytes p
    ran Copy g a bytes p = c.copied g a p
    ran Recall g a bytes p = c.recalled g a p
    ran Lock g a bytes p = c.locked g a p
    ran Nothing g a bytes p = p

    pub acted : (g : Gauge) (t : Transaction) (master : List ℕ) → P g → P (act_of g t master)
    unfolding act_of ran_of
    acted g t master p =
        picked P (selected_of g.common.address t master) _ g
        (λ e. ran t.command g t.address (drop t.from master) p)
        (λ e. p)

-- ---- what a change keeps, where a conversion, a tick that is remembered, a reading and a power-on do

module _ (P : Gauge → Type 0) where
  pub record Changes : Type 0 where
    pub conversion : (g : Gauge) (raw : ℕ) → P g → P (conversion_of g raw)
    pub tick : (g : Gauge) (tick : ℕ) → P g → P (with_meter g (ticked_of g.meter tick))
    pub reading : (g : Gauge) (volt temp : ℕ) → P g → P (reading_of g volt temp)
    pub power_on : (g : Gauge) → P g → P (power_on_of g)

  module _ (c : Changes) where
    sampled : (g : Gauge) (raw n : ℕ) → P g → P (with_meter g (sampled_of g.meter raw n))
    unfolding sampled_of conversion_of
    sampled g raw zero p = p
    sampled g raw (suc n) p = c.conversion (with_meter g (sampled_of g.meter raw n)) raw (sampled g raw n p)

    pub changed : (g : Gauge) (x : Change) → P g → P (changed_of g x)
    unfolding sampling_of sample_of
    changed g (Reading volt temp) p = c.reading g volt temp p
    changed g (Conversion raw) p = c.conversion g raw p
    changed g (Sample raw tick) p =
        let n = elapsed_of g.meter.flow.tick tick in
        c.tick (with_meter g (sampled_of g.meter raw n)) tick (sampled g raw n p)
    changed g PowerOn p = c.power_on g p

-- no transaction changes the saved cells
pub saved_untouched : (g : Gauge) (t : Transaction) (master : List ℕ) → (act_of g t master).meter.cells.saved ≡ g.meter.cells.saved
unfolding written_of copied_of recalled_of locked_of meter_written_of meter_copied_of meter_recalled_of meter_locked_of
saved_untouched g t master =
    acted (λ (f : Gauge). f.meter.cells.saved ≡ g.meter.cells.saved)
    (record { written = λ f a bytes p. p; copied = λ f a p. p; recalled = λ f a p. p; locked = λ f a p. p })
    g t master refl

-- ---- what every event keeps

-- profile and address never change: what holds of them is kept
pub address_kept : (P : Profile → List ℕ → Type 0) → Kept (λ g. P g.meter.cells.profile g.common.address)
unfolding conversion_of reading_of power_on_of convert_of flowed_of read_of results_shown powered_of written_of copied_of recalled_of locked_of common_locked_of
    meter_written_of meter_copied_of meter_recalled_of meter_locked_of
address_kept P = record {
  change = changed _ (record { conversion = λ g raw p. p; tick = λ g tick p. p; reading = λ g volt temp p. p; power_on = λ g p. p });
  act = acted _ (record { written = λ g a bytes p. p; copied = λ g a p. p; recalled = λ g a p. p; locked = λ g a p. p });
}

none_saved : (s : Saved) (save : Bool) (g : Charge) (cycles : ℕ) → cycles ≡ 0 → s.cycles ≡ 0 → (kept_of s save g cycles).cycles ≡ 0
unfolding kept_of
none_saved s true g cycles now then = now
none_saved s false g cycles now then = then

-- without a cycle counter none is counted, and so none is saved
pub uncounted_kept : Kept Uncounted
unfolding conversion_of reading_of power_on_of convert_of flowed_of cycled_of read_of results_shown powered_of written_of copied_of recalled_of locked_of
    meter_written_of
    meter_copied_of meter_recalled_of meter_locked_of
uncounted_kept = record {
  change = changed Uncounted (record {
    conversion = λ g raw h e. record { count = rw e (h e).count; rest = rw e (h e).rest; saved = (h e).saved };
    tick = λ g tick h e. record { count = (h e).count; rest = (h e).rest; saved = (h e).saved };
    reading = λ g volt temp h e. record { count = (h e).count; rest = (h e).rest; saved = none_saved _ _ _ _ (h e).count (h e).saved };
    power_on = λ g h e. record { count = (h e).saved; rest = refl; saved = (h e).saved };
  });
  act = acted Uncounted (record {
    written = λ g a bytes h e.
        let stays = cycles_uncounted g.meter.cycles g.meter.cells a bytes e in
        record { count = rw stays (h e).count; rest = rw stays (h e).rest; saved = (h e).saved };
    copied = λ g a h e. record { count = (h e).count; rest = (h e).rest; saved = (h e).saved };
    recalled = λ g a h e. record { count = (h e).count; rest = (h e).rest; saved = (h e).saved };
    locked = λ g a h e. record { count = (h e).count; rest = (h e).rest; saved = (h e).saved };
  });
}

-- a locked block 0 stays locked, and its EEPROM never changes
pub locked_label_eeprom : (bytes : List ℕ) → Kept (λ g. (g.common.bl0 ≡ true) × (g.label.eeprom ≡ bytes))
unfolding conversion_of reading_of power_on_of written_of copied_of recalled_of locked_of common_locked_of
locked_label_eeprom bytes = record {
  change = changed _ (record { conversion = λ g raw p. p; tick = λ g tick p. p; reading = λ g volt temp p. p; power_on = λ g p. p });
  act = acted _ (record {
    written = λ g a bytes p. (p.0, label_written_eeprom g.label g.common.bl0 a bytes ∙ p.1);
    copied = λ g a p. (p.0, ap (λ (l : Label). l.eeprom) (label_copied_locked g.label g.common.bl0 a p.0) ∙ p.1);
    recalled = λ g a p. (p.0, label_recalled_eeprom g.label a ∙ p.1);
    locked = λ g a p. (rw p.0 refl, p.1);
  });
}

-- a locked block 1 stays locked, and its EEPROM never changes
pub locked_block_eeprom : (bytes : List ℕ) → Kept (λ g. (g.meter.cells.locks.bl1 ≡ true) × (g.meter.cells.block.eeprom ≡ bytes))
unfolding conversion_of reading_of power_on_of convert_of flowed_of read_of results_shown powered_of written_of copied_of recalled_of locked_of meter_written_of
    meter_copied_of meter_recalled_of meter_locked_of
locked_block_eeprom bytes = record {
  change = changed _ (record { conversion = λ g raw p. p; tick = λ g tick p. p; reading = λ g volt temp p. p; power_on = λ g p. p });
  act = acted _ (record {
    written = λ g a bytes p. (p.0, written_eeprom g.meter.cells.block g.meter.cells.locks.bl1 a bytes ∙ p.1);
    copied = λ g a p. (p.0, ap (λ (b : Block). b.eeprom) (copied_locked g.meter.cells.block g.meter.cells.locks.bl1 a p.0) ∙ p.1);
    recalled = λ g a p. (p.0, recalled_eeprom g.meter.cells.block a ∙ p.1);
    locked = λ g a p. (rw p.0 refl, p.1);
  });
}

-- the arrays keep their sizes
pub sized_kept : Kept Sized
unfolding conversion_of reading_of power_on_of convert_of flowed_of read_of results_shown powered_of written_of copied_of recalled_of locked_of common_locked_of
    meter_written_of meter_copied_of meter_recalled_of meter_locked_of
sized_kept = record {
  change = changed Sized (record {
    conversion = λ g raw z. record { address = z.address; label = z.label; block = z.block };
    tick = λ g tick z. record { address = z.address; label = z.label; block = z.block };
    reading = λ g volt temp z. record { address = z.address; label = z.label; block = z.block };
    power_on = λ g z. record {
      address = z.address;
      label = record { shadow = z.label.eeprom; eeprom = z.label.eeprom };
      block = record { shadow = z.block.eeprom; eeprom = z.block.eeprom };
    };
  });
  act = acted Sized (record {
    written = λ g a bytes z. record {
      address = z.address;
      label = label_written_sized g.label g.common.bl0 a bytes z.label;
      block = written_sized g.meter.cells.block g.meter.cells.locks.bl1 a bytes z.block;
    };
    copied = λ g a z. record {
      address = z.address;
      label = label_copied_sized g.label g.common.bl0 a z.label;
      block = copied_sized g.meter.cells.block g.meter.cells.locks.bl1 a z.block;
    };
    recalled = λ g a z. record {
      address = z.address;
      label = label_recalled_sized g.label a z.label;
      block = recalled_sized g.meter.cells.block a z.block;
    };
    locked = λ g a z. record { address = z.address; label = z.label; block = z.block };
  });
}

-- ---- an address in no block

module _ (g : Gauge) (a : ℕ) (label : in_label a ≡ false) (block : in_block a ≡ false) where
  -- copy, recall and lock do nothing there
  pub no_block : (copied_of g a ≡ g) × (recalled_of g a ≡ g) × (locked_of g a ≡ g)
  unfolding copied_of recalled_of locked_of
  no_block = (
    rw (label_copied_elsewhere g.label g.common.bl0 a label, copied_elsewhere g.meter a block) refl,
    rw (label_recalled_elsewhere g.label a label, recalled_elsewhere g.meter a block) refl,
    rw (common_locked_elsewhere g.common g.meter.cells.locks.lock a label, locked_elsewhere g.meter a label block) refl,
  )

-- ---- the automatic save asks for no lock: a gauge with other locks saves the same

pub save_ignores_locks : (g : Gauge) (common : Common) (locks : Locks) (volt temp : ℕ) →
    (reading_of (record { common = common; label = g.label; meter = with_cells g.meter (with_locks g.meter.cells locks) }) volt temp).meter.cells.saved
    ≡ (reading_of g volt temp).meter.cells.saved
unfolding reading_of read_of drained_of results_shown
save_ignores_locks g common locks volt temp = refl
