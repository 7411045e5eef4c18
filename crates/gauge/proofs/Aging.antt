-- AS changes by a power-on, by ageing and by learning, and by nothing else.
use mathlib.Core.Path.{◌≡◌, refl, ◌∙◌}
use mathlib.Core.Bool.{Bool, true, false}
use mathlib.Core.List.{List}
use Prim.Native.Nat.{ℕ, zero, suc, ◌+◌, ◌*◌}
use borrow.Author.Tests.{leb-true, le-ltb}
use lib.Dec.{ltb, leb, eqb}
use Rattle.numbers.specs.Choice.{both, either, but_not}
use Rattle.numbers.specs.Offset.{joined_of}
use Rattle.numbers.proofs.Bounds.{picked, both_true}
use Rattle.params.specs.Params.{counting_of}
use Rattle.state.specs.declared.Charge.{Charge}
use Rattle.state.specs.State.{acr_of, elapsed_of, powered_of}
use Rattle.conversion.specs.Conversion.{fall_of, aged_of, counted_of, set_of, marked_of, filled_of, settled_of, flowed_of, convert_of, current_in}
use Rattle.conversion.specs.Conversion.{charge_in, corrects_full}
use Rattle.conversion.proofs.ChargeLaws.{counted_stays}
use Rattle.state.specs.declared.Meter.{Meter}
use Rattle.reading.specs.Reading.{read_of, drained_of, results_shown, emptied_of}
use Rattle.samples.specs.Samples.{sampled_of, sample_of}
use Rattle.samples.proofs.Laws.{neither}
use Rattle.block1.specs.Block1.{reaches_of, byte_for, acr_written_of, meter_written_of, meter_copied_of, meter_recalled_of, meter_locked_of}
use Rattle.record.specs.declared.Change.{Change}
use Rattle.record.specs.declared.Change.TheVariants.{Reading, Conversion, Sample, PowerOn}
use Rattle.gauge.specs.declared.Gauge.{Gauge}
use Rattle.gauge.specs.Gauge.{conversion_of, sampling_of, reading_of, power_on_of, written_of, copied_of, recalled_of, locked_of}
use Rattle.gauge.specs.Change.{changed_of}
use Rattle.gauge.specs.Aging.{aging_of, ages_in, learns_in, fallen_as, learnt_in, sets_over, sets_aging, OwnAging}
use Rattle.gauge.proofs.Kept.{acted}

-- ---- a conversion

settled_stays : (g : Charge) (found : Bool) (full full40 : ℕ) → both found (both g.learnf (ltb 0 full40)) ≡ false
    → (settled_of g found full full40).aging ≡ g.aging
unfolding settled_of filled_of
settled_stays g true full full40 e = rw e refl
settled_stays g false full full40 e = refl

but_not_true : (a b : Bool) → but_not a b ≡ true → (a ≡ true) × (b ≡ false)
but_not_true a true e = (cc, cc)
but_not_true a false e = (e, refl)

-- where AC is not 0 and the counter is at least 32 × AC, AS falls
aged_falls : (ac age aging : ℕ) → but_not (leb (32 * ac) age) (eqb ac 0) ≡ true → (aged_of ac age aging).aging ≡ fallen_as aging
aged_falls ac age aging e =
    let z = but_not_true (leb (32 * ac) age) (eqb ac 0) e in
    rw (z.1, le-ltb age (32 * ac) (leb-true (32 * ac) age z.0)) refl

module _ (m : Meter) (raw : ℕ) where
  converted_falls : ages_in m raw ≡ true → learns_in m raw ≡ false → (convert_of m raw).charge.aging ≡ fallen_as m.charge.aging
  unfolding convert_of flowed_of counted_of
  converted_falls ages e =
      let age = m.charge.age + fall_of m.charge.count (charge_in m raw).count in
      settled_stays (charge_in m raw) _ m.shown.model.full _ e
      ∙ aged_falls (counting_of m.cells.block.shadow).ac age m.charge.aging ages

  converted_learns : learns_in m raw ≡ true → (convert_of m raw).charge.aging ≡ learnt_in m raw
  unfolding convert_of flowed_of settled_of filled_of
  converted_learns e = let z = both_true (corrects_full m raw) _ e in rw (z.0, z.1) refl

  converted_stays : either (ages_in m raw) (learns_in m raw) ≡ false → (convert_of m raw).charge.aging ≡ m.charge.aging
  unfolding convert_of flowed_of
  converted_stays e =
      let z = neither (ages_in m raw) (learns_in m raw) e in
      settled_stays (charge_in m raw) _ m.shown.model.full _ z.1
      ∙ counted_stays m.cells.profile (counting_of m.cells.block.shadow) m.charge m.flow.trace.last (current_in m raw) z.0

-- ---- conversions, one after the other

sampled_stays : (m : Meter) (raw n : ℕ) → sets_over m raw n ≡ false → (sampled_of m raw n).charge.aging ≡ m.charge.aging
unfolding sampled_of
sampled_stays m raw zero e = refl
sampled_stays m raw (suc n) e =
    let z = neither (sets_over m raw n) _ e in
    converted_stays (sampled_of m raw n) raw z.1 ∙ sampled_stays m raw n z.0

-- ---- a reading

emptied_stays : (g : Charge) (holds point : Bool) (e : ℕ) → (emptied_of g holds point e).aging ≡ g.aging
unfolding emptied_of
emptied_stays g true point e = refl
emptied_stays g false true e = refl
emptied_stays g false false e =
    picked (λ (x : Charge). x.aging ≡ g.aging) (but_not (ltb e (acr_of g.count)) g.learnf) (set_of g e g.learnf) g (λ l. refl) (λ l. refl)

-- ---- a write

acr_written_stays : (g : Charge) (a : ℕ) (bytes : List ℕ) → (acr_written_of g a bytes).aging ≡ g.aging
unfolding acr_written_of
acr_written_stays g a bytes =
    picked (λ (x : Charge). x.aging ≡ g.aging) (both (reaches_of a bytes 0x10) (reaches_of a bytes 0x11))
    (marked_of (set_of g (joined_of (byte_for a bytes 0x10) (byte_for a bytes 0x11)) false)) g (λ e. refl) (λ e. refl)

-- ---- all events

changed_stays : (g : Gauge) (c : Change) → sets_aging g.meter c ≡ false → aging_of (changed_of g c) ≡ aging_of g
unfolding reading_of read_of drained_of results_shown conversion_of sampling_of sample_of sampled_of
changed_stays g (Reading volt temp) e = emptied_stays g.meter.charge _ _ _
changed_stays g (Conversion raw) e = sampled_stays g.meter raw 1 e
changed_stays g (Sample raw tick) e = sampled_stays g.meter raw (elapsed_of g.meter.flow.tick tick) e
changed_stays g PowerOn e = cc

pub own_aging : OwnAging
unfolding power_on_of powered_of written_of copied_of recalled_of locked_of meter_written_of meter_copied_of meter_recalled_of meter_locked_of
own_aging = record {
  ages = converted_falls;
  learns = converted_learns;
  changes = changed_stays;
  transactions = λ g t master. acted (λ (f : Gauge). aging_of f ≡ aging_of g)
      (record {
        written = λ f a bytes p. acr_written_stays f.meter.charge a bytes ∙ p;
        copied = λ f a p. p;
        recalled = λ f a p. p;
        locked = λ f a p. p;
      })
      g t master refl;
  saved = λ g. refl;
}
