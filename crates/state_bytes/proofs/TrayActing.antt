-- What the code does with a tray's bytes: a pack joins, an event of a slot, and the packs that a transaction reaches change one after the other.
use Rattle.state_bytes.specs.State.{number_in}
use mathlib.Core.Path.{◌≡◌, refl, sym, ap, subst, ◌∙◌}
use mathlib.Core.Bool.{true, false}
use mathlib.Core.List.{List}
use Prim.Native.Nat.{ℕ, ◌+◌, ◌*◌, ◌≤◌, ◌<◌}
use lib.ListN.{length, get_or, set}
use Rattle.numbers.proofs.Bounds.{both_true}
use Rattle.slices.specs.Slices.{put, Stored}
use Rattle.bus.specs.declared.Transaction.{Transaction}
use Rattle.state.specs.declared.Common.{Common}
use Rattle.state.specs.declared.Profile.{Profile}
use Rattle.state.specs.State.{image_size_of}
use Rattle.record.specs.declared.Change.{Change}
use Rattle.gauge.specs.declared.Gauge.{Gauge}
use Rattle.gauge.specs.Gauge.{GaugeWf, Sized}
use Rattle.gauge.specs.Act.{can_change, ran_of, act_of}
use Rattle.gauge.specs.Change.{changed_of}
use Rattle.gauge.specs.Image.{image_of}
use Rattle.gauge.proofs.Kept.{sized_kept}
use Rattle.gauge.proofs.Reached.{image_sized}
use Rattle.tray_record.specs.declared.Span.{Span}
use Rattle.tray_record.specs.declared.Tray.{Tray}
use Rattle.tray_record.specs.Tray.{no_gauge, pack_of, stored_of, closed_of, pack_joined, matched_of, reach_by, tray_reach, tray_acted, reach_span, selecting_of}
use Rattle.tray_record.specs.Tray.{changing_of, TrayWf}
use Rattle.tray_record.proofs.Laws.{stored_wf, join_wf}
use Rattle.tray_record.proofs.Chosen.{span_at, reach_selects}
use Rattle.tray_record.proofs.Acting.{reach_idle, Changing, changing_start, changing_pack, changing_more, changing_end}
use Rattle.state_bytes.specs.State.{gauge_layout}
use Rattle.state_bytes.specs.TrayState.{tray_state_bytes, tray_at, tray_state_in}
use Rattle.state_bytes.proofs.TrayKept.{stored_sized}
use Rattle.state_bytes.specs.Places.{gauge_at, Placed, Became, TrayBecame}
use Rattle.state_bytes.proofs.TrayPlaces.{PacksSized, tray_long, place_is, placed, place_put, closed_put, count_put, joined_put}
use Rattle.state_bytes.proofs.TrayPlaces.{held_good, held_is, held_long, held_place, held_put}

-- the opening is closed
pub closes : {τ : Tray} {after : List ℕ} → TrayBecame τ after → TrayBecame (closed_of τ) (set after 2 1)
closes {τ} b =
    let w = b.wf in
    record {
      written = ap (λ (l : List ℕ). set l 2 1) b.written ∙ closed_put τ;
      wf = record { few = w.few; sizes = w.sizes; packs = w.packs };
    }

-- ---- a pack joins, and an event of a slot

module _ (state : List ℕ) (zero : number_in (tray_state_in state) ≡ 0) where
  -- the pack of an image stands behind the others
  module _ {n : ℕ} (f : Profile) (p : List ℕ) {g : Gauge} {after : List ℕ} (en : n ≡ (tray_at state).count) (low : (tray_at state).count < 8)
      (size : length p ≡ image_size_of f) (eg : g ≡ image_of f p) (s : Stored 170 (gauge_layout.out g) state (3 + n * 170) after) where
    stored_last_lem : after ≡ tray_state_bytes (stored_of (tray_at state) (tray_at state).count g)
    stored_last_lem =
        let here = subst (λ (i : ℕ). Stored 170 (gauge_layout.out g) state (3 + i * 170) after) en s in
        held_put state zero (tray_at state).count low (subst Sized (sym eg) (image_sized f p size)) here.written

    pub joins_count : get_or after 1 0 ≡ (tray_at state).count
    joins_count = ap (λ (b : List ℕ). get_or b 1 0) stored_last_lem ∙ count_put (stored_of (tray_at state) (tray_at state).count g)

    -- and is counted
    pub joins : GaugeWf g → TrayBecame (pack_joined (tray_at state) (image_of f p)) (set after 1 (get_or after 1 0 + 1))
    joins v = record {
      written =
          ap (λ (b : List ℕ). set b 1 (get_or b 1 0 + 1)) stored_last_lem ∙ joined_put (tray_at state) g
          ∙ ap (λ (h : Gauge). tray_state_bytes (pack_joined (tray_at state) h)) eg;
      wf = join_wf (tray_at state) (image_of f p) (held_good state zero).wf low (subst GaugeWf eg v);
    }

  -- an event of a slot
  pub slot_changes : (i : ℕ) → i < 8 → (c : Change) {after : List ℕ} → Became state (3 + i * 170) (changed_of (gauge_at state (3 + i * 170)) c) after
      → TrayBecame (closed_of (stored_of (tray_at state) i (changed_of (pack_of (tray_at state) i) c))) (set after 2 1)
  slot_changes i low c b =
      let τ = tray_at state in
      let good = held_good state zero in
      let h = changed_of (pack_of τ i) c in
      let same = ap (λ (g : Gauge). changed_of g c) (held_place state zero i low) in
      let size : Sized h = sized_kept.change (pack_of τ i) c (good.sized i) in
      closes (record {
        written = held_put state zero i low size (rw same at b.written);
        wf = stored_wf τ i h good.wf (subst GaugeWf same b.wf);
      })

-- ---- the packs that a transaction reaches

module _ (t : Transaction) (master : List ℕ) where
  -- the slots, as the code finds them
  pub span_read : (state : List ℕ) {commons : List Common} {span : Span} → commons ≡ (tray_at state).commons
      → span ≡ reach_span (get_or state 1 0) (reach_by t.rom (matched_of commons (get_or state 1 0) master)) → span ≡ span_at t master (tray_at state)
  unfolding tray_at
  span_read state ec es =
      es ∙ ap (λ (cs : List Common). reach_span (get_or state 1 0) (reach_by t.rom (matched_of cs (get_or state 1 0) master))) ec

  -- those before the slot i have changed
  pub record ChangingIn (state₀ state : List ℕ) (i : ℕ) : Type 0 where
    pub tray : Tray
    pub bytes : state ≡ tray_state_bytes tray
    pub sized : PacksSized tray
    pub changing : Changing t master (tray_at state₀) tray i

  module _ (state₀ : List ℕ) (zero : number_in (tray_state_in state₀) ≡ 0) where
    pub changing_in_start : {span : Span} {i : ℕ} → span ≡ span_at t master (tray_at state₀) → span.first ≤ span.stop → i ≡ span.first
        → ChangingIn state₀ state₀ i
    changing_in_start es straight e = record {
      tray = tray_at state₀;
      bytes = held_is state₀ zero;
      sized = (held_good state₀ zero).sized;
      changing = changing_start t master (tray_at state₀) (held_good state₀ zero).wf es straight e;
    }

    pub changing_in_end : {state : List ℕ} {i : ℕ} → ChangingIn state₀ state i → (span_at t master (tray_at state₀)).stop ≤ i
        → TrayBecame (tray_acted t master (tray_reach (tray_at state₀) t master) (tray_at state₀)) state
    changing_in_end s done =
        let all = changing_end t master (tray_at state₀) s.changing done in
        record { written = s.bytes ∙ ap tray_state_bytes all; wf = subst TrayWf all s.changing.wf }

    -- none does
    pub tray_stays : {state : List ℕ} → changing_of t ≡ false → state ≡ state₀
        → TrayBecame (tray_acted t master (tray_reach (tray_at state₀) t master) (tray_at state₀)) state
    tray_stays none e =
        let good = (held_good state₀ zero).wf in
        let idle = reach_idle t master (tray_at state₀) good none in
        record { written = e ∙ held_is state₀ zero ∙ ap tray_state_bytes idle; wf = subst TrayWf idle good }

    -- the bytes stay as many
    pub changing_long : {state : List ℕ} {i : ℕ} → ChangingIn state₀ state i → length state ≡ length state₀
    changing_long s = ap length s.bytes ∙ tray_long s.tray s.sized ∙ sym (held_long state₀ zero)

    module _ {state : List ℕ} {i : ℕ} (s : ChangingIn state₀ state i) (low : i < 8) where
      -- the next pack stands in its place, as it was
      pub changing_placed : Placed state (3 + i * 170)
      changing_placed = subst (λ (l : List ℕ). Placed l (3 + i * 170)) (sym s.bytes) (placed s.tray s.sized i low s.changing.wf)

      read_was : gauge_at state (3 + i * 170) ≡ pack_of (tray_at state₀) i
      read_was =
          ap (λ (l : List ℕ). gauge_at l (3 + i * 170)) s.bytes ∙ place_is s.tray s.sized i low
          ∙ changing_pack t master s.changing no_gauge.common no_gauge.label no_gauge.meter low

      module _ (e : changing_of t ≡ true) (more : i < (span_at t master (tray_at state₀)).stop) where
        -- it is selected, so that what it runs is what it does
        ran_sized : Sized (ran_of (pack_of (tray_at state₀) i) t master)
        unfolding act_of
        ran_sized =
            let g = pack_of (tray_at state₀) i in
            let chosen = reach_selects t master (tray_at state₀) i s.changing.low more ∙ (both_true (selecting_of t.rom) (can_change t.command) e).0 in
            rw chosen at (sized_kept.act g t master ((held_good state₀ zero).sized i))

        -- it changes too
        pub changing_in_more : {after : List ℕ} → Became state (3 + i * 170) (ran_of (gauge_at state (3 + i * 170)) t master) after
            → ChangingIn state₀ after (i + 1)
        changing_in_more b =
            let h = ran_of (gauge_at state (3 + i * 170)) t master in
            let size : Sized h = subst (λ (g : Gauge). Sized (ran_of g t master)) (sym read_was) ran_sized in
            record {
              tray = stored_of s.tray i h;
              bytes =
                  b.written ∙ ap (λ (l : List ℕ). put l (3 + i * 170) (gauge_layout.out h)) s.bytes
                  ∙ place_put s.tray s.sized i low s.changing.wf h size;
              sized = stored_sized s.tray i h s.sized size;
              changing = changing_more t master s.changing e more read_was refl b.wf;
            }
