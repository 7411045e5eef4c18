-- What a pack goes through changes its count as the books say, and keeps the ledger.
use mathlib.Core.Path.{◌≡◌, refl, sym, ap, subst, ◌∙◌}
use mathlib.Core.Bool.{Bool, true, false, not}
use mathlib.Core.Logic.{◌⊎◌, inl, inr, ⊎_elim}
use mathlib.Core.List.{List, [], ◌∷◌, ◌++◌}
use Prim.Native.Nat.{ℕ, zero, suc, ◌-◌, ◌^◌, zero-le}
use native.Mathlib.Nat.{div-add-mod'}
use native.Mathlib.Omega.{arith}
use borrow.Author.Tests.{leb-true, leb-false, le-leb, lt-ltb, le-ltb, not-true}
use lib.Dec.{leb}
use lib.IntN.{ℤ, pos, negsuc, ◌+ℤ◌, ◌-ℤ◌, +ℤ_idl, +ℤ_idr, +ℤ_assoc, +ℤ_comm, +ℤ-neg_ℤ_cancel, pos-ne-negsuc}
use lib.ListN.{drop, replicate}
use Rattle.numbers.specs.Choice.{pick, both}
use Rattle.numbers.specs.Offset.{value, clamp_z, joined_of, or_zero}
use Rattle.numbers.proofs.Bounds.{picked, both_true}
use Rattle.state.specs.State.{elapsed_of}
use Rattle.params.specs.Params.{counting_of}
use Rattle.state.specs.declared.Charge.{Charge}
use Rattle.conversion.specs.Conversion.{set_of, marked_of, counted_of, settled_of, flowed_of, convert_of, blanked_z, added_z, current_in, corrects_full}
use Rattle.state.specs.declared.Meter.{Meter}
use Rattle.reading.specs.Reading.{results_shown, read_of, corrects_empty, emptied_in}
use Rattle.conversion.proofs.Meaning.{converted_means, count_means}
use Rattle.conversion.proofs.OffsetConversion.{convert_made}
use Rattle.conversion.proofs.Corrections.{converted_charge, uncorrected}
use Rattle.reading.proofs.Corrections.{read_charge}
use Rattle.samples.specs.Samples.{sampled_of, sample_of}
use Rattle.samples.proofs.Laws.{sampled_first}
use Rattle.block1.specs.Block1.{reaches_of, byte_for, acr_written_of, meter_written_of, meter_copied_of, meter_recalled_of, meter_locked_of}
use Rattle.bus.specs.declared.Command.{Command}
use Rattle.bus.specs.declared.Command.TheVariants.{Read, Write, Copy, Recall, Lock, Nothing}
use Rattle.bus.specs.declared.Transaction.{Transaction}
use Rattle.replies.specs.Reply.{selected_of}
use Rattle.gauge.specs.declared.Gauge.{Gauge}
use Rattle.gauge.specs.Gauge.{conversion_of, sampling_of, reading_of, written_of, copied_of, recalled_of, locked_of}
use Rattle.gauge.specs.Act.{ran_by, ran_of, act_of}
use Rattle.record.specs.declared.Change.TheVariants.{Reading, Conversion, Sample, PowerOn}
use Rattle.demands.specs.History.{Happening, imaged, changed, transacted, happened, lived}
use Rattle.demands.specs.Books.{Converts, conversions_by, tick_after, conversions_in, Ledger, booked_c, booked, ledger_after, booked_sum, entries_of, ledger_of}
use Rattle.demands.specs.Books.{sum_over, count_in, unclamped, converts_now, count_with, steady, is_write, writes_acr, acr_written, keeps_books}
use Rattle.demands.specs.Books.{NoWider, BooksKept, Unsteady, full_here, clamp_here, further}
use Rattle.demands.specs.Books.{EndsBooks, at_image, at_empty, at_conversion, at_sample, at_power_on, at_write}
use Rattle.demands.proofs.Choice.{contrary}

-- The count is ACR × 4,096 + fraction

count_is : (m : Meter) → count_in m ≡ pos m.charge.count
count_is m = ap pos (div-add-mod' m.charge.count 4096)

-- Sums

ledger_over : Ledger → List Converts → Ledger
ledger_over k [] = k
ledger_over k (x ∷ xs) = ledger_over (ledger_after k x) xs

sum_append : (k : Ledger) (xs ys : List Converts) → booked_sum k (xs ++ ys) ≡ booked_sum k xs +ℤ booked_sum (ledger_over k xs) ys
unfolding ledger_over
sum_append k [] ys = sym (+ℤ_idl (booked_sum k ys))
sum_append k (x ∷ xs) ys =
    ap (λ (z : ℤ). booked k x +ℤ z) (sum_append (ledger_after k x) xs ys)
    ∙ sym (+ℤ_assoc (booked k x) (booked_sum (ledger_after k x) xs) (booked_sum (ledger_over (ledger_after k x) xs) ys))

-- A conversion

-- what is not outside is not clamped
not_clamped : (z : ℤ) → unclamped z ≡ true → clamp_z (pos 0) (pos (2 ^ 28 - 1)) z ≡ z
not_clamped (pos n) e =
    let h = both_true (leb 0 n) (leb n (2 ^ 28 - 1)) e in
    rw (le-ltb n 0 zero-le, le-ltb (2 ^ 28 - 1) n (leb-true n (2 ^ 28 - 1) h.1)) refl
not_clamped (negsuc n) e = contrary cc

-- and what is outside is
clamps : (z : ℤ) → unclamped z ≡ false → clamp_z (pos 0) (pos (2 ^ 28 - 1)) z ≡ z → ⊥
clamps (pos n) e k = by (leb n (2 ^ 28 - 1)) refl
  where
    by : (t : Bool) → leb n (2 ^ 28 - 1) ≡ t → ⊥
    by true inside = let z : ◌≡◌ {A = Bool} true false = sym (rw (le-leb 0 n zero-le, inside) refl) ∙ e in contrary cc
    by false outside =
        let high = leb-false n (2 ^ 28 - 1) outside in
        let held : pos (2 ^ 28 - 1) ≡ pos n = rw (le-ltb n 0 zero-le, lt-ltb (2 ^ 28 - 1) n high) at k in
        omega (arith, high, ap or_zero held)
clamps (negsuc n) e k = pos-ne-negsuc 0 n k

added : (mark : Bool) (count counted ab : ℤ) → let z = count +ℤ pick mark (pos 0) (counted +ℤ ab) in clamp_z (pos 0) (pos (2 ^ 28 - 1)) z ≡ z
    → added_z mark count counted ab ≡ z
added true count counted ab e = sym (+ℤ_idr count)
added false count counted ab e = e

-- with the mark too, where the count was in its range
added_clamped : (mark : Bool) (count counted ab : ℤ) → unclamped count ≡ true
    → added_z mark count counted ab ≡ clamp_z (pos 0) (pos (2 ^ 28 - 1)) (count +ℤ pick mark (pos 0) (counted +ℤ ab))
added_clamped true count counted ab e = sym (ap (clamp_z (pos 0) (pos (2 ^ 28 - 1))) (+ℤ_idr count) ∙ not_clamped count e)
added_clamped false count counted ab e = refl

-- what is booked is what is added
booked_added : (k : Ledger) (x : Converts) (count : ℤ) → let z = count +ℤ booked k x in clamp_z (pos 0) (pos (2 ^ 28 - 1)) z ≡ z
    → added_z k.mark count (blanked_z k.profile (counting_of x.shadow).nben (booked_c k x)) (value 7 (counting_of x.shadow).ab) ≡ z
booked_added k x count = added k.mark count (blanked_z k.profile (counting_of x.shadow).nben (booked_c k x)) (value 7 (counting_of x.shadow).ab)

module _ (m : Meter) (raw : ℕ) where
  abbrev block : List ℕ
  block = m.cells.block.shadow

  abbrev c : ℕ
  c = current_in m raw

  abbrev conversion : Converts
  conversion = converts_now m raw

  c_is : value 15 c ≡ booked_c (ledger_of m) conversion
  c_is = converted_means m.flow raw (counting_of block).cob

  -- the count after it is what steps 2 and 3 add, in signed numbers
  converted_added : corrects_full m raw ≡ false
      → count_in (convert_of m raw)
      ≡ added_z m.charge.mark (count_in m) (blanked_z m.cells.profile (counting_of block).nben (booked_c (ledger_of m) conversion))
      (value 7 (counting_of block).ab)
  unfolding counted_of
  converted_added found =
      let f = m.cells.profile in
      let p = counting_of block in
      count_is (convert_of m raw)
      ∙ ap (λ (g : Charge). pos g.count) (uncorrected m raw found)
      ∙ count_means f p m.charge c
      ∙ (λ i. added_z m.charge.mark (sym (count_is m) i) (blanked_z f p.nben (c_is i)) (value 7 p.ab))

  pub converted_count : corrects_full m raw ≡ false → unclamped (count_with m raw) ≡ true → count_in (convert_of m raw) ≡ count_with m raw
  converted_count found inside =
      converted_added found ∙ booked_added (ledger_of m) conversion (count_in m) (not_clamped (count_with m raw) inside)

  converted_clamped : corrects_full m raw ≡ false → unclamped (count_in m) ≡ true
      → count_in (convert_of m raw) ≡ clamp_z (pos 0) (pos (2 ^ 28 - 1)) (count_with m raw)
  converted_clamped found inside =
      let counted = blanked_z m.cells.profile (counting_of block).nben (booked_c (ledger_of m) conversion) in
      converted_added found ∙ added_clamped m.charge.mark (count_in m) counted (value 7 (counting_of block).ab) inside

  pub converted_ledger : corrects_full m raw ≡ false → ledger_of (convert_of m raw) ≡ ledger_after (ledger_of m) conversion
  unfolding convert_of flowed_of counted_of
  converted_ledger found = λ i. record {
    profile = m.cells.profile;
    last = c_is i;
    made = convert_made m raw i;
    mark = (uncorrected m raw found i).mark;
  }

  -- block 1 and the tick stay
  pub converted_same : ((convert_of m raw).cells.block.shadow ≡ block) × ((convert_of m raw).flow.tick ≡ m.flow.tick)
  unfolding convert_of flowed_of
  converted_same = (refl, refl)

-- n conversions

abbrev many : Meter → ℕ → ℕ → List Converts
many m raw n = replicate n (converts_now m raw)

record Sampled (m : Meter) (raw n : ℕ) (f : Meter) : Type 0 where
  count : count_in f ≡ count_in m +ℤ booked_sum (ledger_of m) (many m raw n)
  ledger : ledger_of f ≡ ledger_over (ledger_of m) (many m raw n)
  shadow : f.cells.block.shadow ≡ m.cells.block.shadow
  tick : f.flow.tick ≡ m.flow.tick

-- one more before them
one_more : (m : Meter) (raw n : ℕ) (f : Meter) → corrects_full m raw ≡ false →
    unclamped (count_in m +ℤ booked (ledger_of m) (converts_now m raw)) ≡ true
    → Sampled (convert_of m raw) raw n f → Sampled m raw (suc n) f
unfolding ledger_over
one_more m raw n f found inside s =
    let x = converts_now m raw in
    let e = converted_same m raw in
    let same : converts_now (convert_of m raw) raw ≡ x = λ i. record { raw = raw; shadow = e.0 i } in
    let ledger = converted_ledger m raw found in
    record {
      count =
          s.count
          ∙ (λ i. converted_count m raw found inside i +ℤ booked_sum (ledger i) (replicate n (same i)))
          ∙ +ℤ_assoc (count_in m) (booked (ledger_of m) x) (booked_sum (ledger_after (ledger_of m) x) (many m raw n));
      ledger = s.ledger ∙ (λ i. ledger_over (ledger i) (replicate n (same i)));
      shadow = s.shadow ∙ e.0;
      tick = s.tick ∙ e.1;
    }

sampled_books : (n : ℕ) (m : Meter) (raw : ℕ) → steady m raw n ≡ true → Sampled m raw n (sampled_of m raw n)
unfolding sampled_of ledger_over
sampled_books zero m raw e = record { count = sym (+ℤ_idr (count_in m)); ledger = refl; shadow = refl; tick = refl }
sampled_books (suc n) m raw e =
    let one = both_true (not (corrects_full m raw)) _ e in
    let two = both_true (unclamped (count_in m +ℤ booked (ledger_of m) (converts_now m raw))) (steady (convert_of m raw) raw n) one.1 in
    subst (Sampled m raw (suc n)) (sampled_first m raw n)
    (one_more m raw n _ (not-true (corrects_full m raw) one.0) two.0 (sampled_books n (convert_of m raw) raw two.1))

-- What happens to a pack

abbrev before : Gauge → Happening → List Converts
before g h = conversions_by g.meter.flow.tick g.meter.cells.block.shadow h

record Entered (g : Gauge) (h : Happening) : Type 0 where
  count : count_in (happened g h).meter ≡ count_in g.meter +ℤ booked_sum (ledger_of g.meter) (before g h)
  ledger : ledger_of (happened g h).meter ≡ ledger_over (ledger_of g.meter) (before g h)
  tick : (happened g h).meter.flow.tick ≡ tick_after g.meter.flow.tick h

-- what is no conversion leaves count, ledger and tick
pub record Apart (m f : Meter) : Type 0 where
  pub profile : f.cells.profile ≡ m.cells.profile
  pub count : f.charge.count ≡ m.charge.count
  pub mark : f.charge.mark ≡ m.charge.mark
  pub last : f.flow.trace.last ≡ m.flow.trace.last
  pub made : f.flow.average.made ≡ m.flow.average.made
  pub tick : f.flow.tick ≡ m.flow.tick

apart_count : {m f : Meter} → Apart m f → count_in f ≡ count_in m +ℤ pos 0
apart_count {m} {f} a = count_is f ∙ ap pos a.count ∙ sym (count_is m) ∙ sym (+ℤ_idr (count_in m))

apart_ledger : {m f : Meter} → Apart m f → ledger_of f ≡ ledger_of m
apart_ledger a = λ i. record { profile = a.profile i; last = value 15 (a.last i); made = a.made i; mark = a.mark i }

-- a reading that corrects nothing
read_apart : (m : Meter) (volt temp : ℕ) → corrects_empty m volt temp ≡ false → Apart m (read_of m volt temp)
unfolding read_of results_shown
read_apart m volt temp h =
    let e = read_charge m volt temp ∙ ap (λ (t : Bool). pick t (emptied_in m volt temp) m.charge) h in
    record { profile = refl; count = ap (λ (g : Charge). g.count) e; mark = ap (λ (g : Charge). g.mark) e; last = refl; made = refl; tick = refl }

-- a transaction that writes no ACR
same_meter : (m : Meter) → Apart m m
same_meter m = record { profile = refl; count = refl; mark = refl; last = refl; made = refl; tick = refl }

written_apart : (m : Meter) (a : ℕ) (bytes : List ℕ) → both (reaches_of a bytes 0x10) (reaches_of a bytes 0x11) ≡ false →
    Apart m (meter_written_of m a bytes)
unfolding meter_written_of acr_written_of
written_apart m a bytes h =
    let e : acr_written_of m.charge a bytes ≡ m.charge = rw h refl in
    record { profile = refl; count = ap (λ (g : Charge). g.count) e; mark = ap (λ (g : Charge). g.mark) e; last = refl; made = refl; tick = refl }

ran_apart : (command : Command) (g : Gauge) (a : ℕ) (bytes : List ℕ) →
    both (is_write command) (both (reaches_of a bytes 0x10) (reaches_of a bytes 0x11)) ≡ false
    → Apart g.meter (ran_by command g a bytes).meter
unfolding written_of copied_of recalled_of locked_of meter_copied_of meter_recalled_of meter_locked_of
ran_apart Read g a bytes h = same_meter g.meter
ran_apart Write g a bytes h = written_apart g.meter a bytes h
ran_apart Copy g a bytes h = record { profile = refl; count = refl; mark = refl; last = refl; made = refl; tick = refl }
ran_apart Recall g a bytes h = record { profile = refl; count = refl; mark = refl; last = refl; made = refl; tick = refl }
ran_apart Lock g a bytes h = record { profile = refl; count = refl; mark = refl; last = refl; made = refl; tick = refl }
ran_apart Nothing g a bytes h = same_meter g.meter

acted_apart : (g : Gauge) (t : Transaction) (master : List ℕ) → writes_acr g t master ≡ false → Apart g.meter (act_of g t master).meter
unfolding act_of ran_of
acted_apart g t master h =
    picked (λ (f : Gauge). Apart g.meter f.meter) (selected_of g.common.address t master) _ g
    (λ e. ran_apart t.command g t.address (drop t.from master) (rw e at h))
    (λ e. same_meter g.meter)

-- and one that does sets it
writes_sets : (command : Command) (g : Gauge) (a : ℕ) (bytes : List ℕ) →
    both (is_write command) (both (reaches_of a bytes 0x10) (reaches_of a bytes 0x11)) ≡ true
    → (ran_by command g a bytes).meter.charge ≡ marked_of (set_of g.meter.charge (joined_of (byte_for a bytes 0x10) (byte_for a bytes 0x11)) false)
unfolding written_of meter_written_of acr_written_of
writes_sets Read g a bytes h = contrary cc
writes_sets Write g a bytes h = rw h refl
writes_sets Copy g a bytes h = contrary cc
writes_sets Recall g a bytes h = contrary cc
writes_sets Lock g a bytes h = contrary cc
writes_sets Nothing g a bytes h = contrary cc

acted_sets : (g : Gauge) (t : Transaction) (master : List ℕ) → writes_acr g t master ≡ true
    → (act_of g t master).meter.charge ≡ marked_of (set_of g.meter.charge (acr_written t master) false)
unfolding act_of ran_of
acted_sets g t master h =
    let z = both_true (selected_of g.common.address t master) _ h in
    rw z.0 (writes_sets t.command g t.address (drop t.from master) z.1)

why_unsteady : (corrects inside rest : Bool) → both (not corrects) (both inside rest) ≡ false
    → (corrects ≡ true) ⊎ ((inside ≡ false) ⊎ (rest ≡ false))
why_unsteady true inside rest e = inl refl
why_unsteady false false rest e = inr (inl refl)
why_unsteady false true false e = inr (inr refl)
why_unsteady false true true e = contrary cc

unsteady_has : (n : ℕ) (m : Meter) (raw : ℕ) → steady m raw n ≡ false → Unsteady m raw n
unsteady_has zero m raw e = contrary cc
unsteady_has (suc n) m raw e =
    ⊎_elim (λ c. full_here c) (⊎_elim (λ c. clamp_here c) (λ r. further (unsteady_has n (convert_of m raw) raw r)))
    (why_unsteady (corrects_full m raw) _ (steady (convert_of m raw) raw n) e)

not_false : (b : Bool) → not b ≡ false → b ≡ true
not_false true e = refl
not_false false e = contrary cc

books_ended : (g : Gauge) (h : Happening) → keeps_books g h ≡ false → EndsBooks g h
books_ended g (imaged f p) e = at_image
books_ended g (changed (Reading volt temp)) e = at_empty (not_false (corrects_empty g.meter volt temp) e)
books_ended g (changed (Conversion raw)) e = at_conversion (unsteady_has 1 g.meter raw e)
books_ended g (changed (Sample raw tick)) e = at_sample (unsteady_has (elapsed_of g.meter.flow.tick tick) g.meter raw e)
books_ended g (changed PowerOn) e = at_power_on
books_ended g (transacted t master) e = at_write (not_false (writes_acr g t master) e)

-- THE BOOKS ARE NOT KEPT FOR A REASON
pub no_wider : NoWider
unfolding settled_of
no_wider = record {
  ended = books_ended;
  unsteady = λ m raw n. unsteady_has n m raw;
  full = λ m raw e. rw (converted_charge m raw, e) refl;
  empty = λ m volt temp e. rw (read_charge m volt temp, e) refl;
  written = acted_sets;
  clamped = λ m raw found inside outside.
      let end = converted_clamped m raw found inside in
      (end, λ same. clamps (count_with m raw) outside (sym end ∙ same));
}

entered : (g : Gauge) (h : Happening) → keeps_books g h ≡ true → Entered g h
unfolding reading_of conversion_of sampling_of sample_of sampled_of ledger_over
entered g (imaged f p) e = contrary cc
entered g (changed (Reading volt temp)) e =
    let a = read_apart g.meter volt temp (not-true (corrects_empty g.meter volt temp) e) in
    record { count = apart_count a; ledger = apart_ledger a; tick = a.tick }
entered g (changed (Conversion raw)) e =
    let s = sampled_books 1 g.meter raw e in
    record { count = s.count; ledger = s.ledger; tick = s.tick }
entered g (changed (Sample raw tick)) e =
    let s = sampled_books (elapsed_of g.meter.flow.tick tick) g.meter raw e in
    record { count = s.count; ledger = s.ledger; tick = refl }
entered g (changed PowerOn) e = contrary cc
entered g (transacted t master) e =
    let a = acted_apart g t master (not-true (writes_acr g t master) e) in
    record { count = apart_count a; ledger = apart_ledger a; tick = a.tick }

-- THE BOOKS CLOSE, of any history

grown : (hs : List Happening) (g : Gauge) → BooksKept g hs → count_in (lived g hs).meter ≡ count_in g.meter +ℤ sum_over g hs
grown [] g k = sym (+ℤ_idr (count_in g.meter))
grown (h ∷ hs) g k =
    let e = entered g h k.0 in
    let xs = before g h in
    let ys = conversions_in (tick_after g.meter.flow.tick h) (entries_of (happened g h) hs) in
    grown hs (happened g h) k.1
    ∙ (λ i. e.count i +ℤ booked_sum (e.ledger i) (conversions_in (e.tick i) (entries_of (happened g h) hs)))
    ∙ +ℤ_assoc (count_in g.meter) (booked_sum (ledger_of g.meter) xs) (booked_sum (ledger_over (ledger_of g.meter) xs) ys)
    ∙ ap (λ (z : ℤ). count_in g.meter +ℤ z) (sym (sum_append (ledger_of g.meter) xs ys))

pub books_close : (g : Gauge) (hs : List Happening) → BooksKept g hs → count_in (lived g hs).meter -ℤ count_in g.meter ≡ sum_over g hs
books_close g hs k =
    ap (λ (z : ℤ). z -ℤ count_in g.meter) (grown hs g k ∙ +ℤ_comm (count_in g.meter) (sum_over g hs))
    ∙ +ℤ-neg_ℤ_cancel (sum_over g hs) (count_in g.meter)
