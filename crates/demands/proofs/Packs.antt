-- Laws of trays: the pack in a slot after a store, after an event and after a transaction that every pack hears; the search; and how long a reply is.
use mathlib.Core.Path.{◌≡◌, refl, sym, ap, ◌∙◌}
use mathlib.Core.Bool.{Bool, true, false}
use mathlib.Core.List.{List}
use Prim.Native.Nat.{ℕ, zero, suc, ◌+◌, ◌≤◌, ◌<◌}
use native.Mathlib.Omega.{arith}
use borrow.Author.Tests.{ltb-true, ltb-false, lt-ltb, le-ltb, eqb-true, eqb-false}
use lib.Dec.{ltb, eqb}
use lib.ListN.{length, get_or, length-set}
use lib.Seq.{get_or-set_same, ext_get_or}
use Rattle.numbers.specs.Choice.{pick}
use Rattle.bus.specs.declared.Transaction.{Transaction}
use Rattle.bus.specs.Ask.{same_bytes}
use Rattle.state.specs.declared.Common.{Common}
use Rattle.gauge.specs.declared.Gauge.{Gauge}
use Rattle.gauge.specs.Act.{act_of, reply_of}
use Rattle.tray_record.specs.declared.Tray.{Tray}
use Rattle.tray_record.proofs.Laws.{stored_other}
use Rattle.std.specs.Prelude.{Some, None}
use Rattle.tray_record.specs.Wire.{and_bytes}
use Rattle.tray_record.specs.Tray.{no_gauge, pack_of, stored_of, search_from, Reach, one, every, nobody, acted_first, wired_first, tray_acted}
use Rattle.demands.specs.History.{hears_of}
use Rattle.demands.proofs.Choice.{contrary}

-- Eight places, of which the first are packs

pub record Eight (τ : Tray) : Type 0 where
  pub few : τ.count ≤ 8
  pub commons : length τ.commons ≡ 8
  pub labels : length τ.labels ≡ 8
  pub meters : length τ.meters ≡ 8

-- a pack that is stored is in its slot, and every other slot is as it was
pub stored_here : (τ : Tray) (i : ℕ) (g : Gauge) → Eight τ → i < 8 → pack_of (stored_of τ i g) i ≡ g
stored_here τ i g h low =
    rw (
      get_or-set_same τ.commons i g.common no_gauge.common (omega (arith, h.commons)),
      get_or-set_same τ.labels i g.label no_gauge.label (omega (arith, h.labels)),
      get_or-set_same τ.meters i g.meter no_gauge.meter (omega (arith, h.meters)),
    )
    refl

pub stored_eight : (τ : Tray) (i : ℕ) (g : Gauge) → Eight τ → Eight (stored_of τ i g)
stored_eight τ i g h = record {
  few = h.few;
  commons = length-set τ.commons i g.common ∙ h.commons;
  labels = length-set τ.labels i g.label ∙ h.labels;
  meters = length-set τ.meters i g.meter ∙ h.meters;
}

pub stored_pack : (τ : Tray) (i j : ℕ) (g : Gauge) → Eight τ → i < 8 → pack_of (stored_of τ i g) j ≡ pick (eqb j i) g (pack_of τ j)
stored_pack τ i j g h low = go (eqb j i) refl
  where
    go : (t : Bool) → eqb j i ≡ t → pack_of (stored_of τ i g) j ≡ pick t g (pack_of τ j)
    go true e = let k = eqb-true j i e in rw k (stored_here τ i g h low)
    go false e = stored_other τ i j g (eqb-false j i e)

-- trays with the same packs are the same
pub same_tray : (τ σ : Tray) → Eight τ → Eight σ → τ.count ≡ σ.count → τ.closed ≡ σ.closed →
    ((j : ℕ) → pack_of τ j ≡ pack_of σ j) → τ ≡ σ
same_tray τ σ h k count closed packs =
    let commons : τ.commons
    ≡ σ.commons =
    ext_get_or no_gauge.common τ.commons σ.commons (h.commons ∙ sym k.commons) (λ i low. ap (λ (g : Gauge). g.common) (packs i)) in
    let labels : τ.labels ≡ σ.labels =
    ext_get_or no_gauge.label τ.labels σ.labels (h.labels ∙ sym k.labels) (λ i low. ap (λ (g : Gauge). g.label) (packs i)) in
    let meters : τ.meters ≡ σ.meters =
    ext_get_or no_gauge.meter τ.meters σ.meters (h.meters ∙ sym k.meters) (λ i low. ap (λ (g : Gauge). g.meter) (packs i)) in
    λ i. record { count = count i; closed = closed i; commons = commons i; labels = labels i; meters = meters i }

-- A transaction

-- whom it reaches is there
abbrev pub There : Reach → ℕ → Type 0
There (one i) count = i < count
There every count = Unit
There nobody count = Unit

module _ (t : Transaction) (master : List ℕ) (τ : Tray) (h : Eight τ) where
  acted_first_eight : (n : ℕ) → Eight (acted_first t master τ n)
  acted_first_eight zero = h
  acted_first_eight (suc n) = stored_eight (acted_first t master τ n) n (act_of (pack_of τ n) t master) (acted_first_eight n)

  acted_first_lem : (n j : ℕ) → n ≤ 8 → pack_of (acted_first t master τ n) j ≡ pick (ltb j n) (act_of (pack_of τ j) t master) (pack_of τ j)
  acted_first_lem zero j low = rw (le-ltb j 0 (omega arith)) refl
  acted_first_lem (suc n) j low =
      stored_pack (acted_first t master τ n) n j (act_of (pack_of τ n) t master) (acted_first_eight n) (omega arith)
      ∙ ap (pick (eqb j n) (act_of (pack_of τ n) t master)) (acted_first_lem n j (omega arith))
      ∙ go (eqb j n) (ltb j n) refl refl
    where
      go : (s u : Bool) → eqb j n ≡ s → ltb j n ≡ u
          → pick s (act_of (pack_of τ n) t master) (pick u (act_of (pack_of τ j) t master) (pack_of τ j))
          ≡ pick (ltb j (suc n)) (act_of (pack_of τ j) t master) (pack_of τ j)
      go true u e f = let k = eqb-true j n e in rw (lt-ltb j (suc n) (omega arith)) (ap (λ (i : ℕ). act_of (pack_of τ i) t master) (sym k))
      go false true e f = rw (lt-ltb j (suc n) (omega (arith, ltb-true j n f))) refl
      go false false e f = rw (le-ltb j (suc n) (omega (arith, ltb-false j n f, eqb-false j n e))) refl

  pub acted_eight : (reach : Reach) → Eight (tray_acted t master reach τ)
  acted_eight (one i) = stored_eight τ i (act_of (pack_of τ i) t master) h
  acted_eight every = acted_first_eight τ.count
  acted_eight nobody = h

  -- each pack that hears it carries it out by itself
  pub acted_pack : (reach : Reach) → There reach τ.count → (j : ℕ)
      → pack_of (tray_acted t master reach τ) j ≡ pick (hears_of reach τ.count j) (act_of (pack_of τ j) t master) (pack_of τ j)
  acted_pack (one i) low j =
      stored_pack τ i j (act_of (pack_of τ i) t master) h (omega (arith, h.few)) ∙ go (eqb j i) refl
    where
      go : (s : Bool) → eqb j i ≡ s → pick s (act_of (pack_of τ i) t master) (pack_of τ j) ≡ pick s (act_of (pack_of τ j) t master) (pack_of τ j)
      go true e = ap (λ (k : ℕ). act_of (pack_of τ k) t master) (sym (eqb-true j i e))
      go false e = refl
  acted_pack every low j = acted_first_lem τ.count j h.few
  acted_pack nobody low j = refl

-- it adds no pack, and leaves the opening to the event
pub acted_count : (t : Transaction) (master : List ℕ) (τ : Tray) (reach : Reach) → (tray_acted t master reach τ).count ≡ τ.count
acted_count t master τ (one i) = refl
acted_count t master τ nobody = refl
acted_count t master τ every = first τ.count
  where
    first : (n : ℕ) → (acted_first t master τ n).count ≡ τ.count
    first zero = refl
    first (suc n) = first n

-- The search

module _ (none : Common) (address : List ℕ) where
  -- it finds a slot that it looks at, whose pack has the address
  pub record FoundAt (commons : List Common) (i n j : ℕ) : Type 0 where
    pub low : j < i + n
    pub has : same_bytes (get_or commons j none).address address ≡ true

  pub search_found : (commons : List Common) (i n j : ℕ) → search_from commons none address i n ≡ Some j → FoundAt commons i n j
  search_found commons i zero j e = contrary cc
  search_found commons i (suc n) j e = go (same_bytes (get_or commons i none).address address) refl e (search_found commons (i + 1) n j)
    where
      go : (t : Bool) → same_bytes (get_or commons i none).address address ≡ t → pick t (Some i) (search_from commons none address (i + 1) n) ≡ Some j
          → (search_from commons none address (i + 1) n ≡ Some j → FoundAt commons (i + 1) n j) → FoundAt commons i (suc n) j
      go true h f rest = let k : i ≡ j = cc in record { low = omega arith; has = rw k at h }
      go false h f rest = let r = rest f in record { low = omega (arith, r.low); has = r.has }

  -- where it finds none, no pack that it looks at has it
  pub search_none : (commons : List Common) (i n : ℕ) → search_from commons none address i n ≡ None
      → (j : ℕ) → i ≤ j → j < i + n → same_bytes (get_or commons j none).address address ≡ false
  search_none commons i zero e j low high = absurd (omega arith)
  search_none commons i (suc n) e j low high =
      go (same_bytes (get_or commons i none).address address) refl e (eqb i j) refl (λ f later. search_none commons (i + 1) n f j later (omega arith))
    where
      go : (t : Bool) → same_bytes (get_or commons i none).address address ≡ t → pick t (Some i) (search_from commons none address (i + 1) n) ≡ None
          → (u : Bool) → eqb i j ≡ u
          → (search_from commons none address (i + 1) n ≡ None → i + 1 ≤ j → same_bytes (get_or commons j none).address address ≡ false)
          → same_bytes (get_or commons j none).address address ≡ false
      go true h f u e rest = contrary cc
      go false h f true e rest = rw (eqb-true i j e) at h
      go false h f false e rest = rest f (omega (arith, eqb-false i j e))

  -- it looks at addresses alone
  pub search_same : (ones others : List Common) (i n : ℕ) → ((j : ℕ) → (get_or ones j none).address ≡ (get_or others j none).address)
      → search_from ones none address i n ≡ search_from others none address i n
  search_same ones others i zero h = refl
  search_same ones others i (suc n) h =
      rw (h i) (ap (pick (same_bytes (get_or others i none).address address) (Some i)) (search_same ones others (i + 1) n h))

-- Replies

module _ (t : Transaction) (master : List ℕ) where
  -- packs that reply the same one by one do so on one line
  pub wired_same : (τ σ : Tray) (n : ℕ) → ((j : ℕ) → j < n → reply_of (pack_of τ j) t master ≡ reply_of (pack_of σ j) t master)
      → wired_first t master τ n ≡ wired_first t master σ n
  wired_same τ σ zero h = refl
  wired_same τ σ (suc n) h =
      ap (λ (l : List ℕ). and_bytes l (reply_of (pack_of τ n) t master)) (wired_same τ σ n (λ j low. h j (omega arith)))
      ∙ ap (and_bytes (wired_first t master σ n)) (h n (omega arith))
