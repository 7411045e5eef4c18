-- The eight places of a tray's bytes: the gauge of each is read there, and where another is written the bytes are those of the tray that has it.
use Rattle.state_bytes.specs.State.{number_in}
use mathlib.Core.Path.{◌≡◌, refl, sym, ap, subst, ◌∙◌}
use mathlib.Core.Bool.{Bool, true, false}
use mathlib.Core.List.{List, [], ◌∷◌, ◌++◌}
use Prim.Native.Nat.{ℕ, zero, suc, ◌+◌, ◌*◌, ◌≤◌, ◌<◌}
use native.Mathlib.Nat.{zero-add, add-zero, suc-add, suc-mul}
use native.Mathlib.Numerals.{add-one}
use native.Mathlib.Omega.{arith}
use borrow.Author.Tests.{eqb-true, eqb-false}
use lib.Dec.{eqb}
use lib.ListN.{length, get_or, set, take, replicate, length-set, length-append}
use lib.Seq.{take_at, drop_at, drop-append-add, get_or-set_same, get_or-set_other, ext_get_or}
use Rattle.slices.specs.Slices.{part, put}
use Rattle.slices.proofs.Laws.{put_front}
use Rattle.state.specs.declared.Common.{Common}
use Rattle.gauge.specs.declared.Gauge.{Gauge}
use Rattle.gauge.specs.Gauge.{GaugeWf, Sized}
use Rattle.tray_record.specs.declared.Tray.{Tray}
use Rattle.tray_record.specs.Tray.{no_gauge, pack_of, stored_of, closed_of, pack_joined, TrayWf}
use Rattle.tray_record.proofs.Laws.{stored_other}
use Rattle.state_bytes.specs.Layout.{Layout, flag_byte, indexed, out_each}
use Rattle.state_bytes.specs.State.{common_layout, tick_layout, gauge_layout}
use Rattle.state_bytes.specs.TrayState.{packs_in, tray_state_bytes, tray_at, TrayStateIn, tray_state_in, tray_in}
use Rattle.state_bytes.specs.Theorems.{TrayStateWf}
use Rattle.state_bytes.proofs.Laws.{Lawful, Each, each_indexed, lawful_repeated}
use Rattle.state_bytes.proofs.Undoing.{gauge}
use Rattle.state_bytes.proofs.TrayUndoing.{tray_in_size, tray_read_held, tray_undoing}
use Rattle.state_bytes.specs.Places.{gauge_at, Placed}

-- ---- bytes put behind others

put_cons : (x : ℕ) (l : List ℕ) (i : ℕ) (vs : List ℕ) → put (x ∷ l) (suc i) vs ≡ x ∷ put l i vs
put_cons x l i [] = refl
put_cons x l i (v ∷ vs) = put_cons x (set l i v) (suc i) vs

put_behind : (xs l : List ℕ) (i : ℕ) (vs : List ℕ) → put (xs ++ l) (length xs + i) vs ≡ xs ++ put l i vs
put_behind [] l i vs = ap (λ (k : ℕ). put l k vs) (zero-add i)
put_behind (x ∷ xs) l i vs =
    ap (λ (k : ℕ). put (x ∷ (xs ++ l)) k vs) (suc-add (length xs) i) ∙ put_cons x (xs ++ l) (length xs + i) vs
    ∙ ap (λ (r : List ℕ). x ∷ r) (put_behind xs l i vs)

-- ---- one of so many values of one layout

module _ {A : Type 0} {good : A → Type 0} {l : Layout A} (f : Lawful good l) where
  -- the place of the next value begins where the first ends
  next_place : (k : ℕ) (v : A) → good v → suc k * l.size ≡ length (l.out v) + k * l.size
  next_place k v h = omega (arith, suc-mul k l.size, f.sized v h)

  first_place : 0 * l.size ≡ 0
  first_place = zero_times l.size
    where
      zero_times : (n : ℕ) → 0 * n ≡ 0
      zero_times n = omega arith

  -- its bytes
  each_part : (d : A) (vs : List A) (k : ℕ) → Each good vs → k < length vs → part l.size (out_each l vs) (k * l.size) ≡ l.out (get_or vs k d)
  each_part d [] k h low = absurd (omega arith)
  each_part d (v ∷ vs) zero h low =
      ap (part l.size (out_each l (v ∷ vs))) first_place ∙ take_at (l.out v) (out_each l vs) l.size (f.sized v h.0)
  each_part d (v ∷ vs) (suc k) h low =
      ap (part l.size (out_each l (v ∷ vs))) (next_place k v h.0)
      ∙ ap (λ (r : List ℕ). take l.size r) (drop-append-add (l.out v) (out_each l vs) (k * l.size)) ∙ each_part d vs k h.1 (omega arith)

  -- another in its place
  each_put : (vs : List A) (k : ℕ) (v : A) → Each good vs → good v → k < length vs
      → put (out_each l vs) (k * l.size) (l.out v) ≡ out_each l (set vs k v)
  each_put [] k v h g low = absurd (omega arith)
  each_put (x ∷ vs) zero v h g low =
      let size : length (l.out v) ≡ length (l.out x) = f.sized v g ∙ sym (f.sized x h.0) in
      let long : length (l.out v) ≤ length (out_each l (x ∷ vs)) = omega (arith, size, length-append (l.out x) (out_each l vs)) in
      ap (λ (i : ℕ). put (out_each l (x ∷ vs)) i (l.out v)) first_place ∙ put_front (out_each l (x ∷ vs)) (l.out v) long
      ∙ ap (λ (r : List ℕ). l.out v ++ r) (drop_at (l.out x) (out_each l vs) (length (l.out v)) (sym size))
  each_put (x ∷ vs) (suc k) v h g low =
      ap (λ (i : ℕ). put (out_each l (x ∷ vs)) i (l.out v)) (next_place k x h.0) ∙ put_behind (l.out x) (out_each l vs) (k * l.size) (l.out v)
      ∙ ap (λ (r : List ℕ). l.out x ++ r) (each_put vs k v h.1 g (omega arith))

-- ---- the gauges of the eight places

-- one of what stands at so many indices
indexed_at : {A : Type 0} (f : ℕ → A) (d : A) (i n j : ℕ) → j < n → get_or (indexed f i n) j d ≡ f (i + j)
indexed_at f d i zero j low = absurd (omega arith)
indexed_at f d i (suc n) zero low = ap f (sym (add-zero i))
indexed_at f d i (suc n) (suc j) low =
    let e : i + 1 + j ≡ i + suc j = omega arith in
    indexed_at f d (i + 1) n j (omega arith) ∙ ap f e

pack_in_lem : (τ : Tray) (i : ℕ) → i < 8 → get_or (packs_in τ) i no_gauge ≡ pack_of τ i
pack_in_lem τ i low = indexed_at (pack_of τ) no_gauge 0 8 i low ∙ ap (pack_of τ) (zero-add i)

module _ (τ : Tray) (w : TrayWf τ) (i : ℕ) (low : i < 8) (g : Gauge) where
  stored_here : pack_of (stored_of τ i g) i ≡ g
  stored_here = λ x. record {
    common = get_or-set_same τ.commons i g.common no_gauge.common (omega (arith, w.sizes.0)) x;
    label = get_or-set_same τ.labels i g.label no_gauge.label (omega (arith, w.sizes.1)) x;
    meter = get_or-set_same τ.meters i g.meter no_gauge.meter (omega (arith, w.sizes.2)) x;
  }

  -- another gauge in a place
  packs_stored : packs_in (stored_of τ i g) ≡ set (packs_in τ) i g
  packs_stored = ext_get_or no_gauge (packs_in (stored_of τ i g)) (set (packs_in τ) i g) (sym (length-set (packs_in τ) i g))
      (λ j inside. by j inside (eqb j i) refl)
    where
      by : (j : ℕ) → j < 8 → (b : Bool) → eqb j i ≡ b → get_or (packs_in (stored_of τ i g)) j no_gauge ≡ get_or (set (packs_in τ) i g) j no_gauge
      by j inside true e =
          let same : j ≡ i = eqb-true j i e in
          pack_in_lem (stored_of τ i g) j inside ∙ ap (pack_of (stored_of τ i g)) same ∙ stored_here
          ∙ sym (ap (λ (k : ℕ). get_or (set (packs_in τ) i g) k no_gauge) same ∙ get_or-set_same (packs_in τ) i g no_gauge low)
      by j inside false e =
          let apart : j ≡ i → ⊥ = eqb-false j i e in
          pack_in_lem (stored_of τ i g) j inside ∙ stored_other τ i j g apart ∙ sym (pack_in_lem τ j inside)
          ∙ sym (get_or-set_other (packs_in τ) i j g no_gauge apart)

-- ---- in the bytes of a tray

-- the arrays of each place have their sizes
abbrev pub PacksSized : Tray → Type 0
PacksSized τ = (i : ℕ) → Sized (pack_of τ i)

module _ (τ : Tray) (z : PacksSized τ) where
  each_sized : Each Sized (packs_in τ)
  each_sized = each_indexed (pack_of τ) Sized z 0 8

  pub tray_long : length (tray_state_bytes τ) ≡ 1363
  unfolding tray_state_bytes
  tray_long = omega (arith, (lawful_repeated gauge 8).sized (packs_in τ) (refl, each_sized))

  module _ (i : ℕ) (low : i < 8) where
    head : 3 + i * 170 ≡ suc (suc (suc (i * 170)))
    head = omega arith

    place_part : part 170 (tray_state_bytes τ) (3 + i * 170) ≡ gauge_layout.out (pack_of τ i)
    unfolding tray_state_bytes
    place_part =
        ap (part 170 (tray_state_bytes τ)) head ∙ each_part gauge no_gauge (packs_in τ) i each_sized low ∙ ap gauge_layout.out (pack_in_lem τ i low)

    -- the gauge of a place stands there
    pub place_is : gauge_at (tray_state_bytes τ) (3 + i * 170) ≡ pack_of τ i
    unfolding gauge_at
    place_is = gauge.back (tray_state_bytes τ) (3 + i * 170) (pack_of τ i) (z i) place_part

    pub placed : TrayWf τ → Placed (tray_state_bytes τ) (3 + i * 170)
    placed w = record {
      inside = omega (arith, tray_long);
      whole = place_part ∙ ap gauge_layout.out (sym place_is);
      wf = subst GaugeWf (sym place_is) (w.packs i);
    }

    -- another is written there
    pub place_put : TrayWf τ → (g : Gauge) → Sized g → put (tray_state_bytes τ) (3 + i * 170) (gauge_layout.out g) ≡ tray_state_bytes (stored_of τ i g)
    unfolding tray_state_bytes
    place_put w g s =
        let rest = out_each gauge_layout (packs_in τ) in
        let out = gauge_layout.out g in
        let count = τ.count in
        let closed = flag_byte τ.closed in
        ap (λ (k : ℕ). put (129 ∷ count ∷ closed ∷ rest) k out) head
        ∙ put_cons 129 (count ∷ closed ∷ rest) (suc (suc (i * 170))) out
        ∙ ap (λ (r : List ℕ). 129 ∷ r) (put_cons count (closed ∷ rest) (suc (i * 170)) out)
        ∙ ap (λ (r : List ℕ). 129 ∷ count ∷ r) (put_cons closed rest (i * 170) out)
        ∙ ap (λ (r : List ℕ). 129 ∷ count ∷ closed ∷ r) (each_put gauge (packs_in τ) i g each_sized s low)
        ∙ ap (λ (vs : List Gauge). 129 ∷ count ∷ closed ∷ out_each gauge_layout vs) (sym (packs_stored τ w i low g))

-- the byte of the opening is set
pub closed_put : (τ : Tray) → set (tray_state_bytes τ) 2 1 ≡ tray_state_bytes (closed_of τ)
unfolding tray_state_bytes
closed_put τ = refl

-- how many packs there are
pub count_put : (τ : Tray) → get_or (tray_state_bytes τ) 1 0 ≡ τ.count
unfolding tray_state_bytes
count_put τ = refl

-- one pack more is counted
pub joined_put : (τ : Tray) (g : Gauge) → let b = tray_state_bytes (stored_of τ τ.count g) in set b 1 (get_or b 1 0 + 1) ≡ tray_state_bytes (pack_joined τ g)
unfolding tray_state_bytes
joined_put τ g = refl

-- ---- bytes that are a tray

module _ (state : List ℕ) (zero : number_in (tray_state_in state) ≡ 0) where
  pub held_good : TrayStateWf (tray_at state)
  held_good = subst (λ (x : TrayStateIn). TrayStateWf (tray_in x)) (sym (tray_read_held state zero)) (tray_undoing.sound state zero)

  pub held_is : state ≡ tray_state_bytes (tray_at state)
  held_is = sym (ap (λ (x : TrayStateIn). tray_state_bytes (tray_in x)) (tray_read_held state zero) ∙ tray_undoing.forth state zero)

  pub held_long : length state ≡ 1363
  held_long = tray_in_size state zero

  module _ (i : ℕ) (low : i < 8) where
    -- the gauge of a place
    pub held_place : gauge_at state (3 + i * 170) ≡ pack_of (tray_at state) i
    held_place = ap (λ (s : List ℕ). gauge_at s (3 + i * 170)) held_is ∙ place_is (tray_at state) held_good.sized i low

    pub held_placed : Placed state (3 + i * 170)
    held_placed = subst (λ (s : List ℕ). Placed s (3 + i * 170)) (sym held_is) (placed (tray_at state) held_good.sized i low held_good.wf)

    -- another was written there
    pub held_put : {g : Gauge} {after : List ℕ} → Sized g → after ≡ put state (3 + i * 170) (gauge_layout.out g)
        → after ≡ tray_state_bytes (stored_of (tray_at state) i g)
    held_put {g} s e =
        e ∙ ap (λ (l : List ℕ). put l (3 + i * 170) (gauge_layout.out g)) held_is
        ∙ place_put (tray_at state) held_good.sized i low held_good.wf g s

    -- its tick, as the code reads it
    pub held_tick : tick_layout.at state (3 + i * 170 + 141) ≡ (pack_of (tray_at state) i).meter.flow.tick
    unfolding gauge_at
    held_tick =
        let at = 3 + i * 170 in
        let e : at + 141 ≡ at + 32 + 9 + 71 + 11 + 6 + 3 + 9 = omega arith in
        ap (tick_layout.at state) e ∙ ap (λ (g : Gauge). g.meter.flow.tick) held_place

-- how many packs there are, as the code reads it
pub count_read : (state : List ℕ) → get_or state 1 0 ≡ (tray_at state).count
unfolding tray_at
count_read state = refl

-- ---- the common parts of the eight places

abbrev pub common_in : List ℕ → ℕ → Common
common_in state j = common_layout.at state (35 + j * 170)

-- the first n of a list, each as an index says
abbrev pub with_first : {A : Type 0} → List A → (ℕ → A) → ℕ → List A
with_first l f zero = l
with_first l f (suc n) = set (with_first l f n) n (f n)

-- the first
pub first_one : {A : Type 0} (n : ℕ) {first x : A} → first ≡ x → replicate (suc n) first ≡ set (replicate (suc n) first) 0 x
first_one n {first} e = ap (set (replicate (suc n) first) 0) e

-- one more
pub first_more : {A : Type 0} (l : List A) (f : ℕ → A) (i : ℕ) {before : List A} {x : A} → before ≡ with_first l f i → x ≡ f i
    → set before i x ≡ with_first l f (i + 1)
first_more l f i e ex = (λ k. set (e k) i (ex k)) ∙ ap (with_first l f) (sym (add-one i))

-- all eight: nothing of what was there is left
pub first_all : (state : List ℕ) (first : Common) → with_first (replicate 8 first) (common_in state) 8 ≡ (tray_at state).commons
unfolding tray_at
first_all state first =
    let e : (j : ℕ) → 35 + j * 170 ≡ 3 + j * 170 + 32 = λ j. omega arith in
    λ k. with_first (replicate 8 first) (λ j. common_layout.at state (e j k)) 8
