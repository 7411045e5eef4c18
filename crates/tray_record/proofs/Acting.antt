-- The packs that a transaction reaches change one after the other, or none does.
use mathlib.Core.Path.{◌≡◌, refl, sym, ap, ◌∙◌}
use mathlib.Core.Bool.{Bool, true, false}
use mathlib.Core.List.{List}
use Prim.Native.Nat.{ℕ, zero, suc, ◌+◌, ◌-◌, ◌≤◌, ◌<◌}
use native.Mathlib.Omega.{arith}
use lib.ListN.{get_or}
use Rattle.numbers.specs.Choice.{pick, both}
use Rattle.bus.specs.declared.Transaction.{Transaction}
use Rattle.state.specs.declared.Common.{Common}
use Rattle.state.specs.declared.Label.{Label}
use Rattle.state.specs.declared.Meter.{Meter}
use Rattle.gauge.specs.declared.Gauge.{Gauge}
use Rattle.gauge.specs.Gauge.{GaugeWf}
use Rattle.gauge.specs.Act.{can_change, ran_of, act_of}
use Rattle.gauge.proofs.Acting.{act_idle}
use Rattle.tray_record.specs.declared.Tray.{Tray}
use Rattle.tray_record.specs.declared.Span.{Span}
use Rattle.tray_record.specs.Tray.{no_gauge, pack_of, stored_of, Reach, one, every, nobody, tray_reach, acted_at, acted_first, tray_acted, reach_span}
use Rattle.tray_record.specs.Tray.{changing_of}
use Rattle.tray_record.specs.Tray.{selecting_of, TrayWf}
use Rattle.tray_record.proofs.Laws.{set_itself, pack_is, stored_wf, stored_other}
use Rattle.tray_record.proofs.Chosen.{span_at, span_inside, reach_selects}

pub never : true ≡ false → ⊥
never e = let z : ◌≡◌ {A = ℕ} 0 1 = cc in omega arith

module _ (t : Transaction) (master : List ℕ) where
  -- ---- none does

  stored_itself : (τ : Tray) (i : ℕ) → TrayWf τ → i < 8 → stored_of τ i (pack_of τ i) ≡ τ
  stored_itself τ i w h =
      let commons = set_itself τ.commons i no_gauge.common (omega (arith, w.sizes.0)) in
      let labels = set_itself τ.labels i no_gauge.label (omega (arith, w.sizes.1)) in
      let meters = set_itself τ.meters i no_gauge.meter (omega (arith, w.sizes.2)) in
      λ x. record { count = τ.count; closed = τ.closed; commons = commons x; labels = labels x; meters = meters x }

  abbrev Idle : Tray → Span → Type 0
  Idle τ span = (i : ℕ) → span.first ≤ i → i < span.stop → act_of (pack_of τ i) t master ≡ pack_of τ i

  first_idle : (τ : Tray) (n : ℕ) → n ≤ 8 → TrayWf τ → Idle τ (record { first = 0; stop = n }) → acted_first t master τ n ≡ τ
  first_idle τ zero h w idle = refl
  first_idle τ (suc n) h w idle =
      (λ x. stored_of (first_idle τ n (omega arith) w (λ i low high. idle i low (omega arith)) x) n (idle n (omega arith) (omega arith) x))
      ∙ stored_itself τ n w (omega arith)

  pub reach_idle : (τ : Tray) → TrayWf τ → changing_of t ≡ false → τ ≡ tray_acted t master (tray_reach τ t master) τ
  reach_idle τ w none =
      sym (by (tray_reach τ t master) (omega (arith, span_inside t master τ, w.few))
      (λ i low high. act_idle (pack_of τ i) t master (ap (λ (b : Bool). both b (can_change t.command)) (reach_selects t master τ i low high) ∙ none)))
    where
      by : (reach : Reach) → (reach_span τ.count reach).stop ≤ 8 → Idle τ (reach_span τ.count reach) → tray_acted t master reach τ ≡ τ
      by (one j) h idle = ap (stored_of τ j) (idle j (omega arith) (omega arith)) ∙ stored_itself τ j w (omega arith)
      by every h idle = first_idle τ τ.count h w idle
      by nobody h idle = refl

  -- ---- one after the other

  -- the tray, as so many of the packs from the first on have left it
  abbrev acted_after : Tray → ℕ → ℕ → Tray
  acted_after τ first zero = τ
  acted_after τ first (suc k) = acted_at t master τ (first + k) (acted_after τ first k)

  -- those that it has not come to yet are as they were
  acted_beyond : (τ : Tray) (first k j : ℕ) → first + k ≤ j → pack_of (acted_after τ first k) j ≡ pack_of τ j
  acted_beyond τ first zero j h = refl
  acted_beyond τ first (suc k) j h =
      stored_other (acted_after τ first k) (first + k) j (act_of (pack_of τ (first + k)) t master) (λ e. absurd (omega arith))
      ∙ acted_beyond τ first k j (omega arith)

  -- those before the slot i have changed
  pub record Changing (τ₀ τ : Tray) (i : ℕ) : Type 0 where
    pub low : (span_at t master τ₀).first ≤ i
    pub high : i ≤ (span_at t master τ₀).stop
    pub tray : τ ≡ acted_after τ₀ (span_at t master τ₀).first (i - (span_at t master τ₀).first)
    pub wf : TrayWf τ

  pub changing_start : (τ : Tray) {span : Span} {i : ℕ} → TrayWf τ → span ≡ span_at t master τ → span.first ≤ span.stop → i ≡ span.first → Changing τ τ i
  changing_start τ {span} {i} w es straight e =
      let at : i ≡ (span_at t master τ).first = e ∙ ap (λ (p : Span). p.first) es in
      let none : 0 ≡ i - (span_at t master τ).first = omega arith in
      let ordered : (span_at t master τ).first ≤ (span_at t master τ).stop = rw es at straight in
      record { low = omega arith; high = omega arith; tray = ap (acted_after τ (span_at t master τ).first) none; wf = w }

  module _ {τ₀ τ : Tray} {i : ℕ} (s : Changing τ₀ τ i) where
    abbrev first : ℕ
    first = (span_at t master τ₀).first

    -- the next pack, as it was read
    pub changing_pack : (k : Common) (l : Label) (m : Meter) → i < 8
        → ◌≡◌ {A = Gauge} (record { common = get_or τ.commons i k; label = get_or τ.labels i l; meter = get_or τ.meters i m }) (pack_of τ₀ i)
    changing_pack k l m h =
        pack_is τ i k l m s.wf h ∙ ap (λ (σ : Tray). pack_of σ i) s.tray ∙ acted_beyond τ₀ first (i - first) i (omega (arith, s.low))

    -- it changes too
    pub changing_more : {g h : Gauge} → changing_of t ≡ true → i < (span_at t master τ₀).stop → g ≡ pack_of τ₀ i → h ≡ ran_of g t master → GaugeWf h
        → Changing τ₀ (stored_of τ i h) (i + 1)
    unfolding act_of
    changing_more {g} {h} e more eg eh w =
        let next : i + 1 - first ≡ suc (i - first) = omega (arith, s.low) in
        let at : first + (i - first) ≡ i = omega (arith, s.low) in
        let chosen = reach_selects t master τ₀ i s.low more ∙ selects (selecting_of t.rom) e in
        let acted : h ≡ act_of (pack_of τ₀ i) t master = eh ∙ ap (λ (k : Gauge). ran_of k t master) eg
        ∙ sym (ap (λ (b : Bool). pick b (ran_of (pack_of τ₀ i) t master) (pack_of τ₀ i)) chosen) in
        record {
          low = omega (arith, s.low);
          high = omega arith;
          tray = rw (next, at) (λ x. stored_of (s.tray x) i (acted x));
          wf = stored_wf τ i h s.wf w;
        }
      where
        selects : (b : Bool) → both b (can_change t.command) ≡ true → b ≡ true
        selects true f = refl
        selects false f = absurd (never (sym f))

  -- ---- all have changed

  after_first : (τ : Tray) (n : ℕ) → acted_after τ 0 n ≡ acted_first t master τ n
  after_first τ zero = refl
  after_first τ (suc n) =
      let at : 0 + n ≡ n = omega arith in
      rw at (ap (acted_at t master τ n) (after_first τ n))

  pub changing_end : (τ₀ : Tray) {τ : Tray} {i : ℕ} → Changing τ₀ τ i → (span_at t master τ₀).stop ≤ i → τ ≡ tray_acted t master (tray_reach τ₀ t master) τ₀
  changing_end τ₀ {i = i} s done =
      let p = span_at t master τ₀ in
      let all : i - p.first ≡ p.stop - p.first = omega (arith, s.high) in
      s.tray ∙ ap (acted_after τ₀ p.first) all ∙ by (tray_reach τ₀ t master)
    where
      by : (reach : Reach) → let p = reach_span τ₀.count reach in acted_after τ₀ p.first (p.stop - p.first) ≡ tray_acted t master reach τ₀
      by (one j) =
          let n : j + 1 - j ≡ 1 = omega arith in
          let at : j + 0 ≡ j = omega arith in
          rw n (ap (λ (k : ℕ). acted_at t master τ₀ k τ₀) at)
      by every =
          let n : τ₀.count - 0 ≡ τ₀.count = omega arith in
          rw n (after_first τ₀ τ₀.count)
      by nobody = refl
