-- Out and in of a tray's state undo each other.
use Rattle.std.specs.Prelude.{Ok, Err}
use Rattle.state_bytes.specs.declared.StateRefusal.TheVariants as why
use Rattle.state_bytes.specs.State.{number_in}
use mathlib.Core.Path.{◌≡◌, refl, sym, ap, subst, ◌∙◌}
use mathlib.Core.Bool.{Bool, true, false}
use mathlib.Core.List.{List, [], ◌∷◌, map}
use Prim.Native.Nat.{ℕ, zero, suc, ◌+◌, ◌*◌, ◌<◌}
use native.Mathlib.Omega.{arith}
use borrow.Author.Tests.{eq-eqb, ne_eqb, eqb-true, le-leb, leb-true}
use lib.Dec.{eqb, leb}
use lib.ListN.{length, get_or, replicate}
use lib.Seq.{take_all}
use Rattle.numbers.specs.Choice.{pick, both}
use Rattle.numbers.proofs.Bounds.{both_true}
use Rattle.bus.specs.Ask.{same_bytes}
use Rattle.bus.proofs.Laws.{equal_same, same_equal}
use Rattle.state.specs.declared.Meter.{Meter}
use Rattle.state.specs.declared.Profile.TheVariants.{Ds2781}
use Rattle.state.proofs.Laws.{power_wf}
use Rattle.gauge.specs.declared.Gauge.{Gauge}
use Rattle.gauge.specs.Gauge.{GaugeWf, Sized, Uncounted}
use Rattle.gauge.specs.Image.{image_of}
use Rattle.gauge.proofs.Reached.{image_sized, image_uncounted}
use Rattle.tray_record.specs.declared.Tray.{Tray}
use Rattle.tray_record.specs.Tray.{no_gauge, empty_tray, pack_of, TrayWf}
use Rattle.tray_record.proofs.Laws.{empty_wf}
use Rattle.state_bytes.specs.Layout.{indexed}
use Rattle.state_bytes.specs.State.{gauge_layout, sound_meter}
use Rattle.state_bytes.specs.TrayState.{tray_fields, tray_layout, sound_each, sound_tray, tray_version, tray_state_size, tray_state_bytes, tray_at}
use Rattle.state_bytes.specs.TrayState.{TrayStateIn, tray_state_in, tray_in}
use Rattle.state_bytes.specs.Theorems.{TrayStateWf, TrayUndoing}
use Rattle.state_bytes.proofs.Laws.{Lawful, lawful_byte, lawful_flag, lawful_then, lawful_repeated, lawful_held, each_indexed, indexed_holds}
use Rattle.state_bytes.proofs.Undoing.{gauge, gauge_sized, sound_meter_lem, meter_sound}

-- ---- the eight places are read as they were written

-- a list by its indices
indexed_behind : {A : Type 0} (f : ℕ → A) (i n : ℕ) → indexed f (suc i) n ≡ indexed (λ (j : ℕ). f (suc j)) i n
indexed_behind f i zero = refl
indexed_behind {A} f i (suc n) =
    let e : suc i + 1 ≡ suc (i + 1) = omega arith in
    ap (λ (vs : List A). f (suc i) ∷ vs) (ap (λ (k : ℕ). indexed f k n) e ∙ indexed_behind f (i + 1) n)

indexed_list : {A : Type 0} (l : List A) (d : A) → indexed (λ (j : ℕ). get_or l j d) 0 (length l) ≡ l
indexed_list [] d = refl
indexed_list {A} (x ∷ l) d =
    ap (λ (vs : List A). x ∷ vs) (indexed_behind (λ (j : ℕ). get_or (x ∷ l) j d) 0 (length l) ∙ indexed_list l d)

eight_are : {A : Type 0} (l : List A) (d : A) → length l ≡ 8 → indexed (λ (j : ℕ). get_or l j d) 0 8 ≡ l
eight_are l d e = rw e at (indexed_list l d)

record TraySized (τ : Tray) : Type 0 where
  places : (length τ.commons ≡ 8) × (length τ.labels ≡ 8) × (length τ.meters ≡ 8)
  packs : (i : ℕ) → Sized (pack_of τ i)

fields_back : (τ : Tray) → TraySized τ → tray_fields.to (tray_fields.from τ) ≡ τ
fields_back τ z =
    let c = eight_are τ.commons no_gauge.common z.places.0 in
    let l = eight_are τ.labels no_gauge.label z.places.1 in
    let m = eight_are τ.meters no_gauge.meter z.places.2 in
    λ x. record { count = τ.count; closed = τ.closed; commons = c x; labels = l x; meters = m x }

tray : Lawful TraySized tray_layout
tray =
    lawful_held tray_fields fields_back (λ τ z. (tt, (tt, (refl, each_indexed (pack_of τ) Sized z.packs 0 8))))
    (lawful_then lawful_byte (lawful_then lawful_flag (lawful_repeated gauge 8)))

-- ---- well-formed, and the test of it

pub no_gauge_wf : GaugeWf no_gauge
unfolding image_of
no_gauge_wf = record { meter = power_wf _ (omega arith) }

no_gauge_sized : Sized no_gauge
no_gauge_sized = image_sized Ds2781 _ refl

no_gauge_uncounted : Uncounted no_gauge
no_gauge_uncounted = image_uncounted Ds2781 _

no_gauge_sound : sound_meter no_gauge.meter ≡ true
no_gauge_sound = meter_sound no_gauge.meter no_gauge_wf.meter no_gauge_uncounted

-- a tray without packs
one_of_same : {A : Type 0} (n i : ℕ) (x : A) → get_or (replicate n x) i x ≡ x
one_of_same zero i x = refl
one_of_same (suc n) zero x = refl
one_of_same (suc n) (suc i) x = one_of_same n i x

no_pack : (i : ℕ) → no_gauge ≡ pack_of empty_tray i
no_pack i j = record {
  common = sym (one_of_same 8 i no_gauge.common) j;
  label = sym (one_of_same 8 i no_gauge.label) j;
  meter = sym (one_of_same 8 i no_gauge.meter) j;
}

pub empty_tray_good : TrayStateWf empty_tray
empty_tray_good = record {
  wf = empty_wf no_gauge_wf;
  sized = λ i. subst Sized (no_pack i) no_gauge_sized;
  uncounted = λ i. subst Uncounted (no_pack i) no_gauge_uncounted;
}

sound_each_lem : (d : Meter) → sound_meter d ≡ true → (ms : List Meter) → sound_each ms ≡ true → (i : ℕ) → sound_meter (get_or ms i d) ≡ true
sound_each_lem d s [] e i = s
sound_each_lem d s (m ∷ ms) e zero = (both_true (sound_meter m) (sound_each ms) e).0
sound_each_lem d s (m ∷ ms) e (suc i) = sound_each_lem d s ms (both_true (sound_meter m) (sound_each ms) e).1 i

each_sound : (d : Meter) (ms : List Meter) → ((i : ℕ) → sound_meter (get_or ms i d) ≡ true) → sound_each ms ≡ true
each_sound d [] h = refl
each_sound d (m ∷ ms) h = rw (h 0, each_sound d ms (λ i. h (suc i))) refl

tray_sound : (τ : Tray) → TrayStateWf τ → sound_tray τ ≡ true
unfolding sound_tray
tray_sound τ w =
    let each = each_sound no_gauge.meter τ.meters (λ i. meter_sound (pack_of τ i).meter (w.wf.packs i).meter (w.uncounted i)) in
    rw (le-leb τ.count 8 w.wf.few, each) refl

-- ---- out and then in

all_sized : (τ : Tray) → TrayStateWf τ → TraySized τ
all_sized τ w = record { places = w.wf.sizes; packs = w.sized }

pub tray_state_length : (τ : Tray) → TrayStateWf τ → length (tray_state_bytes τ) ≡ tray_state_size
unfolding tray_state_bytes
tray_state_length τ w = ap suc (tray.sized τ (all_sized τ w))

tray_read_back : (τ : Tray) → TrayStateWf τ → tray_at (tray_state_bytes τ) ≡ τ
unfolding tray_at tray_state_bytes
tray_read_back τ w =
    let out = tray_layout.out τ in
    let z = all_sized τ w in
    tray.back (tray_version ∷ out) 1 τ z (take_all tray_layout.size out (omega (arith, tray.sized τ z)))

tray_first_lem : (τ : Tray) → get_or (tray_state_bytes τ) 0 0 ≡ tray_version
unfolding tray_state_bytes
tray_first_lem τ = refl

-- ---- what is refused, in the order of the tests

module _ (b : List ℕ) where
  abbrev pub tray_told : Bool
  tray_told = both (sound_tray (tray_at b)) (same_bytes (tray_state_bytes (tray_at b)) b)

  pub tray_in_length : (length b ≡ tray_state_size → ⊥) → Err why.Size ≡ tray_state_in b
  unfolding tray_state_in
  tray_in_length h = rw (ne_eqb (length b) tray_state_size h) refl

  module _ (size : length b ≡ tray_state_size) where
    pub tray_in_version : (get_or b 0 0 ≡ tray_version → ⊥) → Err why.Version ≡ tray_state_in b
    unfolding tray_state_in
    tray_in_version h = rw (eq-eqb (length b) tray_state_size size, ne_eqb (get_or b 0 0) tray_version h) refl

    module _ (v : get_or b 0 0 ≡ tray_version) where
      pub tray_in_state : tray_told ≡ true → Ok (tray_at b) ≡ tray_state_in b
      unfolding tray_state_in
      tray_in_state h = rw (eq-eqb (length b) tray_state_size size, eq-eqb (get_or b 0 0) tray_version v, h) refl

      pub tray_in_none : tray_told ≡ false → Err why.Unsound ≡ tray_state_in b
      unfolding tray_state_in
      tray_in_none h = rw (eq-eqb (length b) tray_state_size size, eq-eqb (get_or b 0 0) tray_version v, h) refl

-- a tray that was read
abbrev pub was : Tray → TrayStateIn
was τ = Ok τ

tray_back : (τ : Tray) → TrayStateWf τ → tray_state_in (tray_state_bytes τ) ≡ Ok τ
tray_back τ w =
    let b = tray_state_bytes τ in
    let at = tray_read_back τ w in
    let sound : sound_tray (tray_at b) ≡ true = ap sound_tray at ∙ tray_sound τ w in
    let same : same_bytes (tray_state_bytes (tray_at b)) b ≡ true = ap (λ (s : Tray). same_bytes (tray_state_bytes s) b) at ∙ equal_same b in
    let told : tray_told b ≡ true = rw (sound, same) refl in
    sym (tray_in_state b (tray_state_length τ w) (tray_first_lem τ) told) ∙ ap was at

-- ---- in and then out

passed_by : (x y z : Bool) (τ : Tray)
    → number_in (pick x (pick y (pick z (was τ) (Err why.Unsound)) (Err why.Version)) (Err why.Size)) ≡ 0
    → (x ≡ true) × (y ≡ true) × (z ≡ true)
passed_by true true true τ e = (refl, refl, refl)
passed_by true true false τ e = absurd (omega (arith, e))
passed_by true false z τ e = absurd (omega (arith, e))
passed_by false y z τ e = absurd (omega (arith, e))

record Passed (b : List ℕ) : Type 0 where
  size : length b ≡ tray_state_size
  sound : sound_tray (tray_at b) ≡ true
  same : tray_state_bytes (tray_at b) ≡ b
  read : tray_state_in b ≡ Ok (tray_at b)

passed : (b : List ℕ) → number_in (tray_state_in b) ≡ 0 → Passed b
unfolding tray_state_in
passed b e =
    let h = passed_by (eqb (length b) tray_state_size) (eqb (get_or b 0 0) tray_version) (tray_told b) (tray_at b) e in
    let both_hold = both_true (sound_tray (tray_at b)) (same_bytes (tray_state_bytes (tray_at b)) b) h.2 in
    record {
      size = eqb-true (length b) tray_state_size h.0;
      sound = both_hold.0;
      same = same_equal (tray_state_bytes (tray_at b)) b both_hold.1;
      read = rw (h.0, h.1, h.2) refl;
    }

-- what is read of bytes that are a tray
pub tray_read_held : (b : List ℕ) → number_in (tray_state_in b) ≡ 0 → Ok (tray_at b) ≡ tray_state_in b
tray_read_held b e = sym (passed b e).read

-- bytes that are a tray are as many
pub tray_in_size : (b : List ℕ) → number_in (tray_state_in b) ≡ 0 → length b ≡ tray_state_size
tray_in_size b e = (passed b e).size

-- a pack of what was read is the gauge of its place
place_is : (l : List Gauge) (i : ℕ)
    → ◌≡◌ {A = Gauge} (record {
      common = get_or (map (λ (g : Gauge). g.common) l) i no_gauge.common;
      label = get_or (map (λ (g : Gauge). g.label) l) i no_gauge.label;
      meter = get_or (map (λ (g : Gauge). g.meter) l) i no_gauge.meter;
    })
    (get_or l i no_gauge)
place_is [] i = refl
place_is (g ∷ l) zero = refl
place_is (g ∷ l) (suc i) = place_is l i

at_holds : (P : Gauge → Type 0) → P no_gauge → (b : List ℕ) → ((i : ℕ) → i < 8 → P (gauge_layout.at b (3 + i * 170))) → (i : ℕ) → P (pack_of (tray_at b) i)
unfolding tray_at
at_holds P none b h i =
    let f : ℕ → Gauge = λ j. gauge_layout.at b (3 + j * 170) in
    rw (place_is (indexed f 0 8) i) (indexed_holds f P no_gauge none 0 8 (λ j low. h j (omega (arith, low))) i)

-- a tray that passes the test is well-formed
pub read_wf : (b : List ℕ) → sound_tray (tray_at b) ≡ true → TrayWf (tray_at b) × ((i : ℕ) → Uncounted (pack_of (tray_at b) i))
unfolding sound_tray tray_at
read_wf b e =
    let tests = both_true (leb (tray_at b).count 8) (sound_each (tray_at b).meters) e in
    let each = sound_each_lem no_gauge.meter no_gauge_sound (tray_at b).meters tests.1 in (
      record {
        few = leb-true (tray_at b).count 8 tests.0;
        sizes = (refl, refl, refl);
        packs = λ i. record { meter = (sound_meter_lem (pack_of (tray_at b) i).meter (each i)).0 };
      },
      λ i. (sound_meter_lem (pack_of (tray_at b) i).meter (each i)).1,
    )

pub tray_undoing : TrayUndoing
tray_undoing = record {
  back = tray_back;
  forth = λ b e. ap (λ (s : TrayStateIn). tray_state_bytes (tray_in s)) (passed b e).read ∙ (passed b e).same;
  sound = λ b e.
      let p = passed b e in
      let w = read_wf b p.sound in
      let sized = at_holds Sized no_gauge_sized b (λ i low. gauge_sized b (3 + i * 170) (omega (arith, p.size))) in
      rw p.read (record { wf = w.0; sized = sized; uncounted = w.1 });
}
