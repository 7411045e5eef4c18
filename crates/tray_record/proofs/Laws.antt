-- Laws of trays: packs by slot, and what a record asks.
use mathlib.Core.Path.{◌≡◌, refl, sym, ap, subst, ◌∙◌}
use mathlib.Core.Bool.{Bool}
use mathlib.Core.List.{List, [], ◌∷◌}
use Prim.Native.Nat.{ℕ, zero, suc, ◌+◌, ◌-◌, ◌≤◌, ◌<◌, zero-le}
use native.Mathlib.Omega.{arith}
use borrow.Author.Tests.{le-leb, lt-leb}
use lib.Dec.{ltb, eqb}
use lib.Pointwise.{pointwise}
use lib.Seq.{get_or-set_other}
use lib.ListN.{length, get_or, set, take, drop, replicate, length-set}
use Rattle.std.specs.Prelude.{Err}
use Rattle.state.specs.declared.Tick.{Tick}
use Rattle.state.specs.State.{MeterWf}
use Rattle.gauge.specs.declared.Gauge.{Gauge}
use Rattle.gauge.specs.Gauge.{GaugeWf}
use Rattle.bus.specs.Ask.{same_bytes}
use Rattle.state.specs.declared.Common.{Common}
use Rattle.state.specs.declared.Label.{Label}
use Rattle.state.specs.declared.Meter.{Meter}
use Rattle.std.proofs.lemmas.List.{take_all}
use Rattle.std.proofs.lemmas.Slice.Eq.{bytes_eq-Decides, compares_Decides}
use Rattle.std.proofs.lemmas.Bool.Decides.{same_from_decides}
use borrow.Author.Rules.{rules}
use Rattle.numbers.specs.Choice.{pick}
use Rattle.slices.specs.Slices.{part}
use Rattle.numbers.proofs.Bounds.{picked}
use Rattle.record.specs.declared.Kind.{Kind}
use Rattle.record.specs.declared.Refusal.TheVariants.{Size}
use Rattle.record.specs.Record.{taken_by, timed_of, fitted_of, Taken}
use Rattle.tray_record.specs.declared.Tray.{Tray}
use Rattle.std.specs.Prelude.{Option, Some, None}
use Rattle.tray_record.specs.Tray.{search_from, search_of, matched_of, no_gauge, empty_tray, pack_of, stored_of, pack_joined}
use Rattle.tray_record.specs.Tray.{TrayWf, tray_kind_of, ahead_of, accepted_for, tray_asked_at}

-- ---- before the first record every place has the same

same_everywhere : {A : Type 0} (x : A) (n i : ℕ) → get_or (replicate n x) i x ≡ x
same_everywhere x zero i = refl
same_everywhere x (suc n) zero = refl
same_everywhere x (suc n) (suc i) = same_everywhere x n i

pub empty_wf : GaugeWf no_gauge → TrayWf empty_tray
empty_wf w = record { few = zero-le; sizes = (refl, refl, refl); packs = λ i. record { meter = rw (same_everywhere no_gauge.meter 8 i) w.meter } }

-- what stands past the end does not matter within
pub within : {A : Type 0} (l : List A) (i : ℕ) (d e : A) → i < length l → get_or l i d ≡ get_or l i e
within [] i d e h = absurd (omega arith)
within (x ∷ l) zero d e h = refl
within (x ∷ l) (suc i) d e h = within l i d e (omega arith)

-- ---- a pack that is stored

pub set_itself : {A : Type 0} (l : List A) (i : ℕ) (d : A) → i < length l → set l i (get_or l i d) ≡ l
set_itself [] i d h = absurd (omega arith)
set_itself (x ∷ l) zero d h = refl
set_itself {A} (x ∷ l) (suc i) d h = ap (λ (r : List A). x ∷ r) (set_itself l i d (omega arith))

-- what holds of each and of the new one holds of each afterwards
pub set_each : {A : Type 0} (P : A → Type 0) (d : A) (l : List A) (i : ℕ) (x : A) → P x → ((j : ℕ) → P (get_or l j d)) → (j : ℕ) →
    P (get_or (set l i x) j d)
set_each P d [] i x p h j = h j
set_each P d (y ∷ l) zero x p h zero = p
set_each P d (y ∷ l) zero x p h (suc j) = h (suc j)
set_each P d (y ∷ l) (suc i) x p h zero = h zero
set_each P d (y ∷ l) (suc i) x p h (suc j) = set_each P d l i x p (λ j. h (suc j)) j

pub stored_wf : (τ : Tray) (i : ℕ) (g : Gauge) → TrayWf τ → GaugeWf g → TrayWf (stored_of τ i g)
stored_wf τ i g w v = record {
  few = w.few;
  sizes = (
    length-set τ.commons i g.common ∙ w.sizes.0,
    length-set τ.labels i g.label ∙ w.sizes.1,
    length-set τ.meters i g.meter ∙ w.sizes.2,
  );
  packs = λ j. record { meter = set_each MeterWf no_gauge.meter τ.meters i g.meter v.meter (λ k. (w.packs k).meter) j };
}

-- a pack joins
pub join_wf : (τ : Tray) (g : Gauge) → TrayWf τ → τ.count < 8 → GaugeWf g → TrayWf (pack_joined τ g)
join_wf τ g w h v = record {
  few = omega arith;
  sizes = (
    length-set τ.commons τ.count g.common ∙ w.sizes.0,
    length-set τ.labels τ.count g.label ∙ w.sizes.1,
    length-set τ.meters τ.count g.meter ∙ w.sizes.2,
  );
  packs = λ j. record { meter = set_each MeterWf no_gauge.meter τ.meters τ.count g.meter v.meter (λ k. (w.packs k).meter) j };
}

-- a pack as it was read
pub pack_at : (τ : Tray) (i : ℕ) (k : Common) (l : Label) (m : Meter) →
    (length τ.commons ≡ 8) × (length τ.labels ≡ 8) × (length τ.meters ≡ 8) → i < 8
    → ◌≡◌ {A = Gauge} (record { common = get_or τ.commons i k; label = get_or τ.labels i l; meter = get_or τ.meters i m }) (pack_of τ i)
pack_at τ i k l m sizes h = λ x. record {
  common = within τ.commons i k no_gauge.common (omega (arith, sizes.0)) x;
  label = within τ.labels i l no_gauge.label (omega (arith, sizes.1)) x;
  meter = within τ.meters i m no_gauge.meter (omega (arith, sizes.2)) x;
}

pub pack_is : (τ : Tray) (i : ℕ) (k : Common) (l : Label) (m : Meter) → TrayWf τ → i < 8
    → ◌≡◌ {A = Gauge} (record { common = get_or τ.commons i k; label = get_or τ.labels i l; meter = get_or τ.meters i m }) (pack_of τ i)
pack_is τ i k l m w h = pack_at τ i k l m w.sizes h

pub pack_wf : (τ : Tray) (i : ℕ) (k : Common) (l : Label) (m : Meter) → TrayWf τ → i < 8
    → GaugeWf (record { common = get_or τ.commons i k; label = get_or τ.labels i l; meter = get_or τ.meters i m })
pack_wf τ i k l m w h = subst GaugeWf (sym (pack_is τ i k l m w h)) (w.packs i)

-- each other pack is as it was
pub stored_other : (τ : Tray) (i j : ℕ) (g : Gauge) → (j ≡ i → ⊥) → pack_of (stored_of τ i g) j ≡ pack_of τ j
stored_other τ i j g h = λ x. record {
  common = get_or-set_other τ.commons i j g.common no_gauge.common h x;
  label = get_or-set_other τ.labels i j g.label no_gauge.label h x;
  meter = get_or-set_other τ.meters i j g.meter no_gauge.meter h x;
}

-- ---- what a record asks

module _ (room n count : ℕ) (closed again : Bool) (last : Tick) (p : List ℕ) {k : Kind} {from : ℕ} (ek : k ≡ tray_kind_of n)
    (ef : from ≡ ahead_of k) where
  -- the slot byte is missing
  pub asked_short : length p < from → Err Size ≡ fitted_of room (tray_asked_at count closed again last n p)
  asked_short h = rw (← ek, lt-leb (ahead_of k) (length p) (omega (arith, ef))) refl

  -- what the old kind asks of the rest
  pub asked_long : {t : Taken} {loaded : Bool} {rest : List ℕ} → from ≤ length p → loaded ≡ accepted_for count closed k p → rest ≡ drop from p
      → t ≡ fitted_of room (timed_of last (taken_by again k loaded rest)) → t ≡ fitted_of room (tray_asked_at count closed again last n p)
  asked_long {loaded = loaded} {rest} h el er et =
      et
      ∙ ap (λ (b : Bool). fitted_of room (timed_of last (taken_by again k b rest))) el
      ∙ ap (λ (l : List ℕ). fitted_of room (timed_of last (taken_by again k (accepted_for count closed k p) l))) (er ∙ ap (λ (m : ℕ). drop m p) ef)
      ∙ rw (← ek, le-leb (ahead_of k) (length p) (omega (arith, ef))) refl

-- ---- the search: one slot more

module _ (commons : List Common) (address : List ℕ) (i n : ℕ) (more : i < n) (d : Common) (inside : i < length commons) {at : ℕ} (is : at ≡ i) where
  abbrev none : Common
  none = no_gauge.common

  pub search_more : {same : Bool} → same ≡ same_bytes (get_or commons at d).address address
      → pick same (Some i) (search_from commons none address (i + 1) (n - (i + 1))) ≡ search_from commons none address i (n - i)
  search_more e =
      let m : n - i ≡ suc (n - (i + 1)) = omega arith in
      rw (m, within commons i none d inside, ← (rw is at e)) refl

-- what is found is one of the slots

abbrev pub Below : ℕ → Option ℕ → Type 0
Below n (Some i) = i < n
Below n None = Unit

search_below : (commons : List Common) (past : Common) (address : List ℕ) (i n : ℕ) → Below (i + n) (search_from commons past address i n)
search_below commons past address i zero = tt
search_below commons past address i (suc n) =
    picked (Below (i + suc n)) (same_bytes (get_or commons i past).address address) (Some i) _ (λ hit. omega arith)
    (λ miss. let e : i + 1 + n ≡ i + suc n = omega arith in
    subst (λ (m : ℕ). Below m (search_from commons past address (i + 1) n)) e (search_below commons past address (i + 1) n))

pub matched_below : (commons : List Common) (count : ℕ) (master : List ℕ) → Below count (matched_of commons count master)
unfolding matched_of search_of
matched_below commons count master =
    picked (Below count) (ltb (length master) 9) None _ (λ short. tt)
    (λ long. let e : 0 + count ≡ count = omega arith in rw e at (search_below commons no_gauge.common (take 8 (drop 1 master)) 0 count))

pub matched_at : (commons : List Common) (count : ℕ) (master : List ℕ) {i : ℕ} → matched_of commons count master ≡ Some i → i < count
matched_at commons count master e = subst (Below count) e (matched_below commons count master)
