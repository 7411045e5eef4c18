-- Laws of a tray's eight places, stored one after the other; and of so many places that are tested one after the other.
use mathlib.Core.Path.{◌≡◌, sym, ap, subst, ◌∙◌}
use mathlib.Core.Bool.{Bool, true, false}
use mathlib.Core.List.{List}
use Prim.Native.Nat.{ℕ, zero, suc, ◌+◌, ◌-◌, ◌*◌, ◌≤◌, ◌<◌}
use native.Mathlib.Omega.{arith}
use native.Mathlib.Numerals.{add-one}
use lib.ListN.{length, get_or}
use Rattle.numbers.specs.Choice.{both}
use Rattle.slices.specs.Slices.{Stored}
use Rattle.slices.proofs.Laws.{put_length}
use Rattle.state.specs.declared.Common.{Common}
use Rattle.state.specs.declared.Label.{Label}
use Rattle.state.specs.declared.Meter.{Meter}
use Rattle.gauge.specs.declared.Gauge.{Gauge}
use Rattle.tray_record.specs.declared.Tray.{Tray}
use Rattle.tray_record.specs.Tray.{empty_tray, pack_of, stored_of}
use Rattle.tray_record.proofs.Laws.{pack_at}
use Rattle.state_bytes.specs.Layout.{indexed, out_each}
use Rattle.state_bytes.specs.State.{gauge_layout}
use Rattle.state_bytes.specs.TrayState.{tray_fields}
use Rattle.state_bytes.specs.Tested.{sound_place, sound_places}
use Rattle.state_bytes.proofs.Laws.{stored_next}

-- ---- out: one place more

-- the gauge of a place, of the three arrays
abbrev pub pack_in : List Common → List Label → List Meter → ℕ → Gauge
pack_in commons labels meters i = pack_of (record { count = 0; closed = false; commons = commons; labels = labels; meters = meters }) i

-- the first i places stand behind the three bytes of the head
pub record Out (commons : List Common) (labels : List Label) (meters : List Meter) (room₀ room : List ℕ) (i : ℕ) : Type 0 where
  pub few : i ≤ 8
  pub stored : Stored (i * 170) (out_each gauge_layout (indexed (pack_in commons labels meters) 0 i)) room₀ 3 room

module _ {commons : List Common} {labels : List Label} {meters : List Meter} {room₀ room : List ℕ} {i : ℕ} where
  -- the room keeps its length
  pub out_room : Out commons labels meters room₀ room i → length room ≡ length room₀
  out_room o = ap length o.stored.written ∙ put_length room₀ 3 (out_each gauge_layout (indexed (pack_in commons labels meters) 0 i))

  pub out_all : Out commons labels meters room₀ room i → 8 ≤ i
      → Stored 1360 (out_each gauge_layout (indexed (pack_in commons labels meters) 0 8)) room₀ 3 room
  out_all o h =
      let e : i ≡ 8 = omega (arith, o.few) in
      subst (λ (n : ℕ). Stored (n * 170) (out_each gauge_layout (indexed (pack_in commons labels meters) 0 n)) room₀ 3 room) e o.stored

  pub out_more : Out commons labels meters room₀ room i → i < 8 → (length commons ≡ 8) × (length labels ≡ 8) × (length meters ≡ 8)
      → (k : Common) (l : Label) (m : Meter) {after : List ℕ}
      → Stored 170 (gauge_layout.out (record { common = get_or commons i k; label = get_or labels i l; meter = get_or meters i m })) room (3 + i * 170) after
      → Out commons labels meters room₀ after (i + 1)
  out_more o low sizes k l m {after} s =
      let here = pack_at (record { count = 0; closed = false; commons = commons; labels = labels; meters = meters }) i k l m sizes low in
      let next = subst (λ (g : Gauge). Stored 170 (gauge_layout.out g) room (3 + i * 170) after) here s in
      let size : i * 170 + 170 ≡ (i + 1) * 170 = omega arith in
      let count : suc i ≡ i + 1 = sym (add-one i) in
      let more = stored_next gauge_layout (pack_in commons labels meters) i o.stored next in
      let longer = subst (λ (n : ℕ). Stored n (out_each gauge_layout (indexed (pack_in commons labels meters) 0 (suc i))) room₀ 3 after) size more in
      record {
        few = omega arith;
        stored =
            subst (λ (n : ℕ). Stored ((i + 1) * 170) (out_each gauge_layout (indexed (pack_in commons labels meters) 0 n)) room₀ 3 after) count longer;
      }

-- ---- in: each place is stored

unfoldable pub filled : Tray → (ℕ → Gauge) → ℕ → Tray
filled τ f zero = τ
filled τ f (suc n) = stored_of (filled τ f n) n (f n)

pub filled_more : (τ : Tray) (f : ℕ → Gauge) (i : ℕ) {σ : Tray} {g : Gauge} → σ ≡ filled τ f i → g ≡ f i → stored_of σ i g ≡ filled τ f (i + 1)
unfolding filled
filled_more τ f i e eg =
    (λ x. stored_of (e x) i (eg x)) ∙ ap (filled τ f) (sym (add-one i))

-- all eight: nothing of what was there is left
pub filled_all : (count : ℕ) {closed read : Bool} (f : ℕ → Gauge) {r : Tray} → r ≡ empty_tray → closed ≡ read
    → filled (record { count = count; closed = closed; commons = r.commons; labels = r.labels; meters = r.meters }) f 8
    ≡ tray_fields.to (count, (read, indexed f 0 8))
unfolding filled
filled_all count f e ec =
    λ i. filled (record { count = count; closed = ec i; commons = (e i).commons; labels = (e i).labels; meters = (e i).meters }) f 8

-- ---- the test of each place

pub sound_starts : (b : List ℕ) (from n : ℕ) → sound_places b from 0 (n - 0) ≡ sound_places b from 0 n
sound_starts b from n =
    let e : n - 0 ≡ n = omega arith in
    ap (sound_places b from 0) e

module _ (b : List ℕ) (from n i : ℕ) where
  module _ (low : i < n) (so_far : sound_places b from i (n - i) ≡ sound_places b from 0 n) where
    from_here : sound_places b from i (n - i) ≡ both (sound_place b (from + i * 170)) (sound_places b from (i + 1) (n - (i + 1)))
    from_here =
        let e : n - i ≡ suc (n - (i + 1)) = omega arith in
        ap (sound_places b from i) e

    pub sound_more : sound_place b (from + i * 170) ≡ true → sound_places b from (i + 1) (n - (i + 1)) ≡ sound_places b from 0 n
    sound_more e = (rw e at (sym from_here)) ∙ so_far

    pub sound_fails : sound_place b (from + i * 170) ≡ false → false ≡ sound_places b from 0 n
    sound_fails e = (rw e at (sym from_here)) ∙ so_far

  pub sound_ends : n ≤ i → sound_places b from i (n - i) ≡ sound_places b from 0 n → true ≡ sound_places b from 0 n
  sound_ends h so_far =
      let e : n - i ≡ 0 = omega arith in
      sym (ap (sound_places b from i) e) ∙ so_far
