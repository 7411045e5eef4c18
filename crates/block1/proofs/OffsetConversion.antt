-- Request [7], proved of the meter: the figures, closed by computation, and the rules.
use mathlib.Core.Path.{◌≡◌, refl, ap, ◌∙◌}
use mathlib.Core.Bool.{Bool, true, false}
use mathlib.Core.List.{List}
use Prim.Native.Nat.{ℕ}
use Rattle.slices.specs.Slices.{laid_of}
use native.Mathlib.Omega.{arith}
use Rattle.params.specs.Params.{nben_of, counting_of, capacity_of}
use Rattle.conversion.specs.Conversion.{traced_of, blanked_of, grown_of, fall_of, aged_of, counted_of, cycled_of, averaged_of, found_of, filled_of, settled_of}
use Rattle.conversion.specs.Conversion.{flowed_of, convert_of, current_in, charge_in, corrects_full}
use Rattle.conversion.proofs.ChargeLaws.{marked_count, marked_age}
use Rattle.conversion.proofs.Corrections.{converted_charge, uncorrected}
use Rattle.conversion.proofs.OffsetConversion.{convert_made, every_1024th, raw_ignored, all_others, convert_mark, powered_mark}
use Rattle.reading.specs.Reading.{emptied_of, seen_of, drained_of, results_shown, read_of}
use Rattle.reading.specs.Figures.{Hold}
use Rattle.reading.proofs.OffsetConversion.{read_mark, read_made}
use Rattle.state.specs.declared.Cells.{Cells}
use Rattle.state.specs.declared.Charge.{Charge}
use Rattle.state.specs.declared.Meter.{Meter}
use Rattle.state.specs.State.{powered_of}
use Rattle.block1.specs.Block1.{reaches_of, acr_written_of, block_written_of, meter_written_of, meter_copied_of, meter_recalled_of, meter_locked_of}
use Rattle.block1.specs.OffsetConversion.{shown_in, made_in, offset_figures, sets_acr, leaves_acr, SameOffset, OffsetSteps, OffsetRules}

pub offset_figures_hold : Hold offset_figures
unfolding laid_of reaches_of acr_written_of block_written_of meter_written_of powered_of counted_of averaged_of found_of settled_of flowed_of convert_of
    emptied_of seen_of
    drained_of results_shown read_of
offset_figures_hold = (refl, (refl, (refl, (refl, (refl, (refl, (refl, (refl, (refl, (refl, (refl, (refl, tt))))))))))))

-- ---- a write

module _ (m : Meter) (a : ℕ) (bytes : List ℕ) where
  -- W7.2. 11h after 10h sets the mark, whatever ACR was
  pub written_mark : sets_acr a bytes → (meter_written_of m a bytes).charge.mark ≡ true
  unfolding meter_written_of acr_written_of
  written_mark e = simp e

  -- W7.3. No other write sets or clears it
  pub unwritten_mark : leaves_acr a bytes → (meter_written_of m a bytes).charge.mark ≡ m.charge.mark
  unfolding meter_written_of acr_written_of
  unwritten_mark e = simp e

  -- W7.11. No write restarts the count of conversions
  pub written_made : made_in (meter_written_of m a bytes) ≡ made_in m
  unfolding meter_written_of
  written_made = refl

-- ---- all of them

powered_none : (c : Cells) → made_in (powered_of c) ≡ 0
unfolding powered_of
powered_none c = refl

adds_none : (m : Meter) (raw : ℕ) → m.charge.mark ≡ true → corrects_full m raw ≡ false → (convert_of m raw).charge.count ≡ m.charge.count
unfolding counted_of settled_of
adds_none m raw mark found = ap (λ (g : Charge). g.count) (converted_charge m raw) ∙ rw (found, mark) refl

-- the c that is shown is traced, averaged and counted

traced_shown : (m : Meter) (raw : ℕ) → (convert_of m raw).flow.trace ≡ traced_of m.flow.trace (shown_in (convert_of m raw))
unfolding convert_of flowed_of
traced_shown m raw = refl

averaged_shown : (m : Meter) (raw : ℕ) → (convert_of m raw).flow.average ≡ averaged_of m.flow.average (shown_in (convert_of m raw))
unfolding convert_of flowed_of
averaged_shown m raw = refl

counted_shown : (m : Meter) (raw : ℕ) → m.charge.mark ≡ false → corrects_full m raw ≡ false → (convert_of m raw).charge.count
    ≡ grown_of m.charge.count (blanked_of m.cells.profile (nben_of m.cells.block.shadow) (shown_in (convert_of m raw)))
    (counting_of m.cells.block.shadow).ab
unfolding convert_of flowed_of counted_of
counted_shown m raw mark found = ap (λ (g : Charge). g.count) (uncorrected m raw found) ∙ rw mark refl

-- a conversion that finds the mark: ACR falls by 0

module _ (m : Meter) (raw : ℕ) (mark : m.charge.mark ≡ true) (found : corrects_full m raw ≡ false) where
  age_marked : (convert_of m raw).charge.age ≡ (aged_of (counting_of m.cells.block.shadow).ac m.charge.age m.charge.aging).age
  unfolding counted_of
  age_marked =
      let aged = marked_age m.cells.profile (counting_of m.cells.block.shadow) m.charge m.flow.trace.last (current_in m raw) mark in
      ap (λ (g : Charge). g.age) (uncorrected m raw found) ∙ (λ i. (aged i).age)

  ages_marked : (convert_of m raw).charge.aging ≡ (aged_of (counting_of m.cells.block.shadow).ac m.charge.age m.charge.aging).aging
  unfolding counted_of
  ages_marked =
      let aged = marked_age m.cells.profile (counting_of m.cells.block.shadow) m.charge m.flow.trace.last (current_in m raw) mark in
      ap (λ (g : Charge). g.aging) (uncorrected m raw found) ∙ (λ i. (aged i).aging)

cycles_marked : (m : Meter) (raw : ℕ) → m.charge.mark ≡ true
    → (convert_of m raw).cycles ≡ cycled_of m.cells.profile (capacity_of m.cells.block.shadow).full40 m.cycles 0
unfolding convert_of flowed_of
cycles_marked m raw mark =
    let same = marked_count m.cells.profile (counting_of m.cells.block.shadow) m.charge m.flow.trace.last (current_in m raw) mark in
    let none : fall_of m.charge.count (charge_in m raw).count ≡ 0 = ap (fall_of m.charge.count) same ∙ omega arith in
    ap (cycled_of m.cells.profile (capacity_of m.cells.block.shadow).full40 m.cycles) none

finds : (m : Meter) (raw : ℕ) → corrects_full m raw ≡ true
    → (convert_of m raw).charge ≡ filled_of (charge_in m raw) m.shown.model.full (capacity_of m.cells.block.shadow).full40
unfolding settled_of
finds m raw found =
    converted_charge m raw
    ∙ ap (λ (b : Bool). settled_of (charge_in m raw) b m.shown.model.full (capacity_of m.cells.block.shadow).full40) found

pub offset_steps : OffsetSteps
offset_steps = record {
  traced = traced_shown;
  averaged = averaged_shown;
  counted = counted_shown;
  age_counter = age_marked;
  ages = ages_marked;
  cycles_on_lem = cycles_marked;
  finds_full = finds;
}

-- a copy, a recall and a lock leave both

copy_leaves : (m : Meter) (a : ℕ) → SameOffset (meter_copied_of m a) m
unfolding meter_copied_of
copy_leaves m a = record { made = refl; mark = refl }

recall_leaves : (m : Meter) (a : ℕ) → SameOffset (meter_recalled_of m a) m
unfolding meter_recalled_of
recall_leaves m a = record { made = refl; mark = refl }

lock_leaves : (m : Meter) (a : ℕ) → SameOffset (meter_locked_of m a) m
unfolding meter_locked_of
lock_leaves m a = record { made = refl; mark = refl }

pub offset_rules : OffsetRules
offset_rules = record {
  counts = convert_made;
  read_counts_none = read_made;
  write_counts_none = written_made;
  previous = every_1024th;
  ignored = raw_ignored;
  own = all_others;
  marks = written_mark;
  marks_only = unwritten_mark;
  copy_leaves_both = copy_leaves;
  recall_leaves_both = recall_leaves;
  lock_leaves_both = lock_leaves;
  read_leaves_mark = read_mark;
  used = convert_mark;
  adds_nothing = adds_none;
  steps = offset_steps;
  power_on_count = powered_none;
  power_on_mark = powered_mark;
}
