-- What is followed through the history of a pack: its saved cells, AS, and RARC and CHGTF after full.
use mathlib.Core.Path.{◌≡◌, refl, sym, ap, subst, ◌∙◌}
use mathlib.Core.Bool.{Bool, true, false}
use mathlib.Core.List.{List, [], ◌∷◌}
use Prim.Native.Nat.{ℕ, zero, suc, ◌<◌}
use native.Mathlib.Omega.{arith}
use borrow.Author.Tests.{ltb-true, ltb-false}
use lib.Dec.{ltb}
use Rattle.numbers.specs.Choice.{pick, either}
use Rattle.state.specs.declared.Charge.{Charge}
use Rattle.state.specs.declared.Meter.{Meter}
use Rattle.state.specs.declared.Saved.{Saved}
use Rattle.state.specs.State.{acr_of, elapsed_of, powered_of}
use Rattle.conversion.specs.Conversion.{flowed_of, convert_of, corrects_full}
use Rattle.reading.specs.Reading.{kept_of, drained_of, results_shown, read_of}
use Rattle.reading.specs.Hundred.{FullLeft, left_at_full, AfterFull}
use Rattle.reading.proofs.Hundred.{sets, full_stays, none_drops}
use Rattle.samples.specs.Samples.{sampled_of, sample_of}
use Rattle.block1.specs.Block1.{meter_written_of, meter_copied_of, meter_recalled_of, meter_locked_of}
use Rattle.bus.specs.declared.Transaction.{Transaction}
use Rattle.gauge.specs.declared.Gauge.{Gauge}
use Rattle.gauge.specs.Gauge.{with_meter, conversion_of, sampling_of, reading_of, power_on_of, written_of, copied_of, recalled_of, locked_of}
use Rattle.gauge.specs.Act.{act_of}
use Rattle.gauge.specs.Aging.{aging_of, ages_in, learns_in, fallen_as, learnt_in}
use Rattle.gauge.specs.Image.{image_of}
use Rattle.gauge.proofs.Aging.{own_aging}
use Rattle.gauge.proofs.ImageAging.{pack_aging}
use Rattle.gauge.proofs.Kept as kept
use Rattle.gauge.proofs.Kept.{saved_untouched}
use Rattle.record.specs.declared.Change.TheVariants.{Reading, Conversion, Sample, PowerOn}
use Rattle.runs.specs.Record.{Rec}
use Rattle.runs.specs.Run.{Did}
use Rattle.demands.specs.History.{Happening, imaged, changed, transacted, happened, lived, Pack, heard_since, left_by}
use Rattle.demands.specs.Saved.{cells_saved, cells_now, cells_by, cells_last, sets_cells, Unsaved, CellsHold, SavedCells}
use Rattle.demands.specs.Aging.{as_converted, as_over, as_by, as_last, sets_as, AsLeft, AgingHolds, OwnAs}
use Rattle.demands.specs.Hundred.{FindsFull, by_conversion, by_sample, KeepsFull, FullKept, is_reading, reads_in, percent_in, charged_in}
use Rattle.demands.specs.Hundred.{HundredHolds, FullPack}
use Rattle.demands.proofs.Choice.{contrary, either_none, either_true, either_assoc}
use Rattle.demands.proofs.History.{Known, session_known, slot_known}

-- The saved cells

-- a reading saves all three cells, or none
kept_whole : (s : Saved) (save : Bool) (g : Charge) (cycles : ℕ)
    → kept_of s save g cycles ≡ pick save (record { acr = acr_of g.count; aging = g.aging; cycles = cycles }) s
unfolding kept_of
kept_whole s true g cycles = refl
kept_whole s false g cycles = refl

sampled_cells : (m : Meter) (raw n : ℕ) → (sampled_of m raw n).cells.saved ≡ m.cells.saved
unfolding sampled_of convert_of flowed_of
sampled_cells m raw zero = refl
sampled_cells m raw (suc n) = sampled_cells m raw n

cells_one : (g : Gauge) (h : Happening) → cells_saved (happened g h) ≡ cells_by g (cells_saved g) h
unfolding image_of powered_of reading_of read_of results_shown drained_of conversion_of sampling_of sample_of convert_of flowed_of power_on_of
cells_one g (imaged f p) = refl
cells_one g (changed (Reading volt temp)) = kept_whole g.meter.cells.saved _ _ g.meter.cycles.count
cells_one g (changed (Conversion raw)) = refl
cells_one g (changed (Sample raw tick)) = sampled_cells g.meter raw (elapsed_of g.meter.flow.tick tick)
cells_one g (changed PowerOn) = refl
cells_one g (transacted t master) = saved_untouched g t master

cells_last_lem : (hs : List Happening) (g : Gauge) → cells_saved (lived g hs) ≡ cells_last g (cells_saved g) hs
cells_last_lem [] g = refl
cells_last_lem (h ∷ hs) g = cells_last_lem hs (happened g h) ∙ ap (λ (x : Saved). cells_last (happened g h) x hs) (cells_one g h)

cells_unset : (g : Gauge) (x : Saved) (h : Happening) → sets_cells g h ≡ false → cells_by g x h ≡ x
cells_unset g x (imaged f p) e = contrary cc
cells_unset g x (changed (Reading volt temp)) e = ap (λ (t : Bool). pick t (cells_now (reading_of g volt temp)) x) e
cells_unset g x (changed (Conversion raw)) e = refl
cells_unset g x (changed (Sample raw tick)) e = refl
cells_unset g x (changed PowerOn) e = refl
cells_unset g x (transacted t master) e = refl

cells_stay : (hs : List Happening) (g : Gauge) → Unsaved g hs → cells_saved (lived g hs) ≡ cells_saved g
cells_stay [] g u = refl
cells_stay (h ∷ hs) g u = cells_stay hs (happened g h) u.1 ∙ cells_one g h ∙ cells_unset g (cells_saved g) h u.0

-- AS

module _ (g : Gauge) where
  as_converted_lem : (m : Meter) (raw : ℕ) → (convert_of m raw).charge.aging ≡ as_converted m raw m.charge.aging
  unfolding conversion_of sampled_of
  as_converted_lem m raw = by (learns_in m raw) refl (ages_in m raw) refl
    where
      by : (l : Bool) → learns_in m raw ≡ l → (a : Bool) → ages_in m raw ≡ a
          → (convert_of m raw).charge.aging ≡ pick l (learnt_in m raw) (pick a (fallen_as m.charge.aging) m.charge.aging)
      by true learns a e = own_aging.learns m raw learns
      by false learns true ages = own_aging.ages m raw ages learns
      by false learns false ages = own_aging.changes (with_meter g m) (Conversion raw) (rw (ages, learns) refl)

  as_over_lem : (m : Meter) (raw n : ℕ) → (sampled_of m raw n).charge.aging ≡ as_over m raw m.charge.aging n
  unfolding sampled_of
  as_over_lem m raw zero = refl
  as_over_lem m raw (suc n) = as_converted_lem (sampled_of m raw n) raw ∙ ap (as_converted (sampled_of m raw n) raw) (as_over_lem m raw n)

as_one : (g : Gauge) (h : Happening) → aging_of (happened g h) ≡ as_by g (aging_of g) h
unfolding conversion_of sampling_of sample_of sampled_of
as_one g (imaged f p) = pack_aging.images f p
as_one g (changed (Reading volt temp)) = own_aging.changes g (Reading volt temp) refl
as_one g (changed (Conversion raw)) = as_over_lem g g.meter raw 1
as_one g (changed (Sample raw tick)) = as_over_lem g g.meter raw (elapsed_of g.meter.flow.tick tick)
as_one g (changed PowerOn) = own_aging.saved g
as_one g (transacted t master) = own_aging.transactions g t master

as_last_lem : (hs : List Happening) (g : Gauge) → aging_of (lived g hs) ≡ as_last g (aging_of g) hs
as_last_lem [] g = refl
as_last_lem (h ∷ hs) g = as_last_lem hs (happened g h) ∙ ap (λ (x : ℕ). as_last (happened g h) x hs) (as_one g h)

as_unset : (g : Gauge) (h : Happening) → sets_as g h ≡ false → aging_of (happened g h) ≡ aging_of g
as_unset g (imaged f p) e = contrary cc
as_unset g (changed c) e = own_aging.changes g c e
as_unset g (transacted t master) e = own_aging.transactions g t master

as_left : (hs : List Happening) (g : Gauge) → AsLeft g hs → aging_of (lived g hs) ≡ aging_of g
as_left [] g u = refl
as_left (h ∷ hs) g u = as_left hs (happened g h) u.1 ∙ as_unset g h u.0

-- RARC and CHGTF after full

-- CHGTF is set, and RARC is 100 where a reading was seen
abbrev SaysFull : Bool → Gauge → Type 0
SaysFull seen g = (charged_in g ≡ true) × (seen ≡ true → percent_in g ≡ 100)

converted_charged : (m : Meter) (raw : ℕ) → m.shown.flags.chgtf ≡ true → (convert_of m raw).shown.flags.chgtf ≡ true
unfolding convert_of flowed_of
converted_charged m raw e = ap (either (corrects_full m raw)) e ∙ either_true (corrects_full m raw)

module _ (m : Meter) (raw : ℕ) where
  sampled_charged : (n : ℕ) → m.shown.flags.chgtf ≡ true → (sampled_of m raw n).shown.flags.chgtf ≡ true
  unfolding sampled_of
  sampled_charged zero e = e
  sampled_charged (suc n) e = converted_charged (sampled_of m raw n) raw (sampled_charged n e)

  sampled_percent : (n : ℕ) → (sampled_of m raw n).shown.results.rarc ≡ m.shown.results.rarc
  unfolding sampled_of convert_of flowed_of
  sampled_percent zero = refl
  sampled_percent (suc n) = sampled_percent n

  -- one of n conversions finds full
  found_charged : (i n : ℕ) → i < n → corrects_full (sampled_of m raw i) raw ≡ true → (sampled_of m raw n).shown.flags.chgtf ≡ true
  unfolding sampled_of
  found_charged i zero low found = absurd (omega arith)
  found_charged i (suc n) low found =
      by (ltb i n) refl (λ less. converted_charged (sampled_of m raw n) raw (found_charged i n less found))
    where
      by : (t : Bool) → ltb i n ≡ t → (i < n → (convert_of (sampled_of m raw n) raw).shown.flags.chgtf ≡ true)
          → (convert_of (sampled_of m raw n) raw).shown.flags.chgtf ≡ true
      by true e earlier = earlier (ltb-true i n e)
      by false e earlier =
          let last : i ≡ n = omega (arith, ltb-false i n e) in
          sets (sampled_of m raw n) raw (subst (λ (k : ℕ). corrects_full (sampled_of m raw k) raw ≡ true) last found)

-- full was found somewhere, and left so much
record FoundBy (f : FullLeft) : Type 0 where
  meter : Meter
  raw : ℕ
  found : corrects_full meter raw ≡ true
  leaves : f ≡ left_at_full meter raw

found_by : (g : Gauge) (h : Happening) (f : FullLeft) → FindsFull g h f → FoundBy f
found_by g h f (by_conversion raw e) = record { meter = g.meter; raw = raw; found = e; leaves = refl }
found_by g h f (by_sample raw tick i low e) = record { meter = sampled_of g.meter raw i; raw = raw; found = e; leaves = refl }

finds_charged : (g : Gauge) (h : Happening) (f : FullLeft) → FindsFull g h f → charged_in (happened g h) ≡ true
unfolding conversion_of sampling_of sample_of
finds_charged g h f (by_conversion raw e) = sets g.meter raw e
finds_charged g h f (by_sample raw tick i low e) = found_charged g.meter raw i (elapsed_of g.meter.flow.tick tick) low e

acted_says : (seen : Bool) (g : Gauge) (t : Transaction) (master : List ℕ) → SaysFull seen g → SaysFull seen (act_of g t master)
unfolding written_of copied_of recalled_of locked_of meter_written_of meter_copied_of meter_recalled_of meter_locked_of
acted_says seen g t master =
    kept.acted (SaysFull seen)
    (record { written = λ f a bytes p. (p.0, p.1); copied = λ f a p. (p.0, p.1); recalled = λ f a p. (p.0, p.1); locked = λ f a p. (p.0, p.1) })
    g t master

module _ (f : FullLeft) (b : FoundBy f) (seen : Bool) where
  -- no reading: RARC and what was seen of it stay
  unread : (g h : Gauge) → charged_in h ≡ true → percent_in h ≡ percent_in g → SaysFull seen g → SaysFull (either seen false) h
  unread g h charged same s = (charged, λ e. same ∙ s.1 (sym (either_none seen) ∙ e))

  full_one : (g : Gauge) (h : Happening) → KeepsFull f g h → SaysFull seen g → SaysFull (either seen (is_reading h)) (happened g h)
  unfolding reading_of conversion_of sampling_of sample_of convert_of flowed_of
  full_one g (imaged k p) kept s = absurd kept
  full_one g (changed (Reading volt temp)) kept s =
      let a = subst (λ (x : FullLeft). AfterFull x g.meter volt temp) b.leaves kept in
      let says = full_stays g.meter volt temp b.meter b.raw b.found a in
      (says.chgtf ∙ s.0, λ e. says.rarc)
  full_one g (changed (Conversion raw)) kept s = unread g (conversion_of g raw) (converted_charged g.meter raw s.0) refl s
  full_one g (changed (Sample raw tick)) kept s =
      let n = elapsed_of g.meter.flow.tick tick in
      unread g (sampling_of g raw tick) (sampled_charged g.meter raw n s.0) (sampled_percent g.meter raw n) s
  full_one g (changed PowerOn) kept s = absurd kept
  full_one g (transacted t master) kept s = subst (λ (x : Bool). SaysFull x (act_of g t master)) (sym (either_none seen)) (acted_says seen g t master s)

full_last : (f : FullLeft) → FoundBy f → (hs : List Happening) (seen : Bool) (g : Gauge) → FullKept f g hs → SaysFull seen g
    → SaysFull (either seen (reads_in hs)) (lived g hs)
full_last f b [] seen g kept s = subst (λ (x : Bool). SaysFull x g) (sym (either_none seen)) s
full_last f b (h ∷ hs) seen g kept s =
    subst (λ (x : Bool). SaysFull x (lived (happened g h) hs)) (either_assoc seen (is_reading h) (reads_in hs))
    (full_last f b hs (either seen (is_reading h)) (happened g h) kept.1 (full_one f b seen g h kept.0 s))

-- Of every run whose history is known

module _ {S : Type 0} {did : S → ℕ → Rec → Did S} {start : S} {pack : Pack S} (k : Known did start pack) where
  -- THE SAVED CELLS HOLD
  cells_of : CellsHold did start pack
  unfolding image_of powered_of
  cells_of = record {
    since = λ n a b w s. ap cells_saved (k.since n a b w s) ∙ cells_last_lem (heard_since pack did n a b) (left_by pack a);
    stay = λ n a b w s u. ap cells_saved (k.since n a b w s) ∙ cells_stay (heard_since pack did n a b) (left_by pack a) u;
    stored = λ c w there.
        let b = k.born c w there in
        record {
          profile = b.profile;
          image = b.image;
          later = b.later;
          life = b.life;
          once = b.once;
          cells = ap cells_saved b.gauge ∙ cells_last_lem b.later (image_of b.profile b.image);
        };
  }

  -- NOBODY BUT THE GAUGE SETS AS
  aging_of_lem : AgingHolds did start pack
  aging_of_lem = record {
    since = λ n a b w s. ap aging_of (k.since n a b w s) ∙ as_last_lem (heard_since pack did n a b) (left_by pack a);
    left = λ n a b w s u. ap aging_of (k.since n a b w s) ∙ as_left (heard_since pack did n a b) (left_by pack a) u;
  }

  -- A FULL PACK SAYS 100
  hundred_of : HundredHolds did start pack
  unfolding reading_of
  hundred_of = record {
    full = λ n a b w s h later heard f finds kept.
        let g = left_by pack a in
        let e : left_by pack b ≡ lived (happened g h) later = k.since n a b w s ∙ ap (lived g) heard in
        subst (SaysFull (reads_in later)) (sym e)
        (full_last f (found_by g h f finds) later false (happened g h) kept (finds_charged g h f finds, λ z. contrary cc));
    none = λ n a b w s volt temp heard empty.
        let g = left_by pack a in
        let e : left_by pack b ≡ reading_of g volt temp = k.since n a b w s ∙ ap (lived g) heard in
        let says = none_drops g.meter volt temp empty in
        (ap charged_in e ∙ says.chgtf, ap percent_in e ∙ says.rarc);
  }

-- the gauge of a session, and each slot of a tray

pub saved_cells_hold : SavedCells
saved_cells_hold = record { session = cells_of session_known; slots = λ j. cells_of (slot_known j) }

pub own_as_holds : OwnAs
own_as_holds = record { session = aging_of_lem session_known; slots = λ j. aging_of_lem (slot_known j) }

pub full_pack_holds : FullPack
full_pack_holds = record { session = hundred_of session_known; slots = λ j. hundred_of (slot_known j) }
