-- What the arms of the match leave of a tray, and of the room.
use mathlib.Core.Path.{◌≡◌, refl, sym, ap, subst, ◌∙◌}
use mathlib.Core.Bool.{true, false}
use mathlib.Core.List.{List, ◌++◌}
use Prim.Native.Nat.{ℕ, ◌+◌, ◌-◌, ◌≤◌, ◌<◌}
use native.Mathlib.Omega.{arith}
use lib.ListN.{length, get_or, set, take, drop, length-set}
use Rattle.std.specs.Prelude.{None}
use Rattle.slices.specs.Slices.{part}
use Rattle.bus.specs.declared.Transaction.{Transaction}
use Rattle.state.specs.declared.Label.{Label}
use Rattle.label.specs.Label.{label_powered_of}
use Rattle.state.specs.declared.Meter.{Meter}
use Rattle.state.specs.State.{MeterWf, restarted_of}
use Rattle.gauge.specs.declared.Gauge.{Gauge}
use Rattle.conversion.specs.Conversion.{convert_of}
use Rattle.reading.specs.Reading.{read_of}
use Rattle.samples.specs.Samples.{sample_of}
use Rattle.gauge.specs.Gauge.{with_meter, conversion_of, sampling_of, reading_of, power_on_of}
use Rattle.gauge.specs.Change.{changed_of}
use Rattle.state.specs.declared.Profile.{Profile}
use Rattle.gauge.specs.Image.{image_of}
use Rattle.record.specs.declared.Change.{Change as Changes}
use Rattle.record.specs.declared.Change.TheVariants.{Reading, Conversion, Sample, PowerOn}
use Rattle.record.specs.declared.Event.TheVariants.{Image, Change, Transact}
use Rattle.record.specs.Record.{master_of}
use Rattle.runs.specs.Run.{Fits, silently, code_of}
use Rattle.runs.specs.declared.Record.{Record}
use Rattle.runs.proofs.Fronts.{payload_of, Ran, Front}
use Rattle.runs.proofs.Turns as every
use Rattle.runs.proofs.Turns.{master_part}
use Rattle.tray_record.specs.declared.Tray.{Tray}
use Rattle.tray_record.specs.declared.Span.{Span}
use Rattle.tray_record.specs.Tray.{no_gauge, pack_of, stored_of, closed_of, pack_joined, slot_in, named_slot}
use Rattle.tray_record.specs.Tray.{tray_reach, tray_acted, tray_reply, reach_span, changing_of, unheard_of, of_tray, tray_did, TrayWf}
use Rattle.tray_run.specs.Laws.{tray_laws}
use Rattle.tray_record.proofs.Laws.{within, set_itself, set_each}
use Rattle.tray_record.proofs.Hearing.{tray_replying}
use Rattle.tray_record.proofs.Acting.{reach_idle}
use Rattle.tray_record.proofs.Answering.{Answering, answering_end, changing_high}
use Rattle.tray_record.proofs.Taking.{did_same, slot_inside, slot_named_lem}

pub did_fits : Fits tray_did
did_fits = tray_laws.fits

abbrev pub Turn : Tray → List ℕ → ℕ → List ℕ → Tray → List ℕ → ℕ → ℕ → Type 0
Turn = every.Turn of_tray tray_did did_same TrayWf

abbrev pub Stands : Tray → List ℕ → List ℕ → List ℕ → Tray → ℕ → ℕ → ℕ → List ℕ → List ℕ → Type 0
Stands = every.Stands of_tray tray_did did_same TrayWf

-- ---- what a slot's event leaves

-- another label and meter in a slot
abbrev pub parts_at : Tray → ℕ → Label → Meter → Tray
parts_at τ i l m = record { count = τ.count; closed = τ.closed; commons = τ.commons; labels = set τ.labels i l; meters = set τ.meters i m }

-- another meter in a slot of a tray that is closed
abbrev pub meter_at : Tray → ℕ → Meter → Tray
meter_at τ i m = record { count = τ.count; closed = true; commons = τ.commons; labels = τ.labels; meters = set τ.meters i m }

module _ (τ : Tray) (i : ℕ) (w : TrayWf τ) (h : i < 8) where
  parts_stored : (g : Gauge) → g.common ≡ (pack_of τ i).common → parts_at τ i g.label g.meter ≡ stored_of τ i g
  parts_stored g e =
      let c = set_itself τ.commons i no_gauge.common (omega (arith, w.sizes.0)) in
      λ x. record {
        count = τ.count;
        closed = τ.closed;
        commons = (sym (ap (set τ.commons i) e ∙ c)) x;
        labels = set τ.labels i g.label;
        meters = set τ.meters i g.meter;
      }

  meter_stored : (m : Meter) → meter_at τ i m ≡ closed_of (stored_of τ i (with_meter (pack_of τ i) m))
  meter_stored m =
      let l = set_itself τ.labels i no_gauge.label (omega (arith, w.sizes.1)) in
      (λ x. record { count = τ.count; closed = true; commons = τ.commons; labels = (sym l) x; meters = set τ.meters i m })
      ∙ ap closed_of (parts_stored (with_meter (pack_of τ i) m) refl)

  powered_stored : (b : Label) (d : Meter) {l : Label} {m : Meter} → l ≡ label_powered_of (get_or τ.labels i b) →
      m ≡ restarted_of (get_or τ.meters i d)
      → parts_at τ i l m ≡ stored_of τ i (power_on_of (pack_of τ i))
  unfolding power_on_of
  powered_stored b d {l} {m} el em =
      let label : l ≡ label_powered_of (pack_of τ i).label = el
      ∙ ap label_powered_of (within τ.labels i b no_gauge.label (omega (arith, w.sizes.1))) in
      let meter : m ≡ restarted_of (pack_of τ i).meter = em ∙ ap restarted_of (within τ.meters i d no_gauge.meter (omega (arith, w.sizes.2))) in
      (λ x. parts_at τ i (label x) (meter x)) ∙ parts_stored (power_on_of (pack_of τ i)) refl

  parts_wf : (l : Label) (m : Meter) → MeterWf m → TrayWf (parts_at τ i l m)
  parts_wf l m v = record {
    few = w.few;
    sizes = (w.sizes.0, length-set τ.labels i l ∙ w.sizes.1, length-set τ.meters i m ∙ w.sizes.2);
    packs = λ j. record { meter = set_each MeterWf no_gauge.meter τ.meters i m v (λ k. (w.packs k).meter) j };
  }

  meter_wf : (m : Meter) → MeterWf m → TrayWf (meter_at τ i m)
  meter_wf m v = record {
    few = w.few;
    sizes = (w.sizes.0, w.sizes.1, length-set τ.meters i m ∙ w.sizes.2);
    packs = λ j. record { meter = set_each MeterWf no_gauge.meter τ.meters i m v (λ k. (w.packs k).meter) j };
  }

pub joined_at_lem : (τ : Tray) {i : ℕ} {g h : Gauge} → i ≡ τ.count → g ≡ h
    → ◌≡◌ {A = Tray} (record {
      count = τ.count
          + 1;
      closed = τ.closed;
      commons = set τ.commons i g.common;
      labels = set τ.labels i g.label;
      meters = set τ.meters i g.meter;
    })
    (pack_joined τ h)
joined_at_lem τ ei eg = rw (ei, eg) refl

-- ---- what changes the meter alone

pub reading_by : (volt temp : ℕ) (g : Gauge) → changed_of g (Reading volt temp) ≡ with_meter g (read_of g.meter volt temp)
unfolding reading_of
reading_by volt temp g = refl

pub conversion_by : (raw : ℕ) (g : Gauge) → changed_of g (Conversion raw) ≡ with_meter g (convert_of g.meter raw)
unfolding conversion_of
conversion_by raw g = refl

pub sample_by : (raw tick : ℕ) (g : Gauge) → changed_of g (Sample raw tick) ≡ with_meter g (sample_of g.meter raw tick)
unfolding sampling_of
sample_by raw tick g = refl

-- ---- what a transaction leaves: its reply stands at the front of the room that is left

pub record Transacted (τ : Tray) (room : List ℕ) (used : ℕ) (t : Transaction) (master : List ℕ) (σ : Tray) (after : List ℕ) : Type 0 where
  pub wf : TrayWf σ
  pub state : σ ≡ tray_acted t master (tray_reach τ t master) τ
  pub rest : after
      ≡ take used room
      ++ ((tray_reply t master (tray_reach τ t master) τ ++ drop t.count (part (length room - used) room used)) ++ drop (length room - used) (drop used room))

module _ {τ : Tray} {room : List ℕ} {used : ℕ} {t : Transaction} {master : List ℕ} {σ : Tray} {after : List ℕ} where
  -- one that changes packs is answered with FFh alone
  pub transacted_changed : {θ : Tray} {back : List ℕ} → changing_of t ≡ true → TrayWf θ → θ ≡ tray_acted t master (tray_reach τ t master) τ
      → back ≡ unheard_of t 0 (part (length room - used) room used)
      → σ ≡ θ → after ≡ take used room ++ (back ++ drop (length room - used) (drop used room)) → Transacted τ room used t master σ after
  transacted_changed some w e eb eσ ea = record {
    wf = subst TrayWf (sym eσ) w;
    state = eσ ∙ e;
    rest =
        ea
        ∙ ap (λ (b : List ℕ). take used room ++ (b ++ drop (length room - used) (drop used room)))
        (eb ∙ ap (λ (l : List ℕ). l ++ drop t.count (part (length room - used) room used)) (changing_high t τ master some));
  }

  -- one that does not: those that it reaches have replied
  pub transacted_read : {span : Span} {stop i : ℕ} {left back : List ℕ} → TrayWf τ → changing_of t ≡ false
      → span ≡ reach_span τ.count (tray_reach τ t master) → stop ≡ span.stop → Answering t τ span (part (length room - used) room used) left i
      → stop ≤ i → back ≡ unheard_of t stop left
      → σ ≡ τ → after ≡ take used room ++ (back ++ drop (length room - used) (drop used room)) → Transacted τ room used t master σ after
  transacted_read w none es e s done eb eσ ea = record {
    wf = subst TrayWf (sym eσ) w;
    state = eσ ∙ reach_idle t master τ w none;
    rest =
        ea ∙ ap (λ (b : List ℕ). take used room ++ (b ++ drop (length room - used) (drop used room))) (eb ∙ answering_end t τ master es s done e);
  }

-- ---- the arms

module _ {τ : Tray} {room : List ℕ} {used : ℕ} {l : List ℕ} {r : Record} {σ : Tray} {after : List ℕ} {next line : ℕ}
    (f : Front of_tray τ (length room - used) l r) (w : TrayWf τ) where
  pub turn_idle : r.event ≡ None → σ ≡ τ → after ≡ room → next ≡ used → line ≡ code_of r.kind r.answer 0 →
      Turn τ room used l σ after next line
  turn_idle a e = every.turn_idle of_tray tray_did did_same TrayWf f (subst TrayWf (sym e) w) a e

  pub turn_image : {k : Profile} {θ : Tray} → Ran of_tray τ (length room - used) l r.used (Image k) → TrayWf θ
      → θ ≡ pack_joined τ (image_of k (payload_of r.used l)) → σ ≡ θ
      → after ≡ room → next ≡ used → line ≡ code_of r.kind r.answer 0 → Turn τ room used l σ after next line
  turn_image x v e eσ =
      every.turn_silent of_tray tray_did did_same TrayWf f (subst TrayWf (sym eσ) v) x (ap (λ (s : Tray). silently s 0) (sym (eσ ∙ e)))

  -- an event of a slot: its pack afterwards
  module _ {c : Changes} {i : ℕ} (x : Ran of_tray τ (length room - used) l r.used (Change c)) (ei : i ≡ named_slot l) where
    done : {g : Gauge} → changed_of (pack_of τ i) c ≡ g → σ ≡ closed_of (stored_of τ i g) → TrayWf σ
        → after ≡ room → next ≡ used → line ≡ code_of r.kind r.answer 0 → Turn τ room used l σ after next line
    done {g} eg e v =
        let s : σ ≡ closed_of (stored_of τ (slot_in (payload_of r.used l)) (changed_of (pack_of τ (slot_in (payload_of r.used l))) c)) =
        e ∙ ap (λ (h : Gauge). closed_of (stored_of τ i h)) (sym eg)
        ∙ ap (λ (j : ℕ). closed_of (stored_of τ j (changed_of (pack_of τ j) c))) (slot_named_lem w x ei) in
        every.turn_silent of_tray tray_did did_same TrayWf f v x (ap (λ (t : Tray). silently t 0) (sym s))

    pub turn_meter : (M : Meter → Meter) → ((g : Gauge) → changed_of g c ≡ with_meter g (M g.meter)) → (d : Meter) {m : Meter} → MeterWf m →
        m ≡ M (get_or τ.meters i d)
        → σ ≡ meter_at τ i m → after ≡ room → next ≡ used → line ≡ code_of r.kind r.answer 0 → Turn τ room used l σ after next line
    turn_meter M by d {m} v em e =
        let inside : i < 8 = omega (arith, slot_named_lem w x ei, slot_inside w x) in
        let same : m ≡ M (pack_of τ i).meter = em ∙ ap M (within τ.meters i d no_gauge.meter (omega (arith, inside, w.sizes.2))) in
        done (by (pack_of τ i) ∙ ap (with_meter (pack_of τ i)) (sym same)) (e ∙ meter_stored τ i w inside m)
        (subst TrayWf (sym e) (meter_wf τ i w inside m v))

    pub turn_powered : c ≡ PowerOn → (b : Label) (d : Meter) {n : Label} {m : Meter} → MeterWf m → n ≡ label_powered_of (get_or τ.labels i b) →
        m ≡ restarted_of (get_or τ.meters i d)
        → σ ≡ closed_of (parts_at τ i n m) → after ≡ room → next ≡ used → line ≡ code_of r.kind r.answer 0 →
        Turn τ room used l σ after next line
    turn_powered ec b d {n} {m} v en em e =
        let inside : i < 8 = omega (arith, slot_named_lem w x ei, slot_inside w x) in
        let u = parts_wf τ i w inside n m v in
        done (ap (changed_of (pack_of τ i)) ec) (e ∙ ap closed_of (powered_stored τ i w inside b d en em))
        (subst TrayWf (sym e) (record { few = u.few; sizes = u.sizes; packs = u.packs }))

  -- a transaction: its master bytes were lent, and the room that is left
  pub turn_transact : {t : Transaction} {θ : Tray} {back : List ℕ} → Ran of_tray τ (length room - used) l r.used (Transact t) → used ≤ length room
      → Transacted τ room used t (part (r.used - (4 + t.start)) l (4 + t.start)) θ back
      → σ ≡ closed_of θ → after ≡ back → next ≡ used + t.count → line ≡ code_of r.kind r.answer t.count → Turn τ room used l σ after next line
  turn_transact {t} {θ} x fits d eσ eb =
      let m = master_part r.used t.start l in
      let s : σ ≡ closed_of (tray_acted t (master_of t (payload_of r.used l)) (tray_reach τ t (master_of t (payload_of r.used l))) τ) = eσ
      ∙ ap closed_of (d.state ∙ ap (λ (b : List ℕ). tray_acted t b (tray_reach τ t b) τ) (sym m)) in
      let v = d.wf in
      let w = subst TrayWf (sym eσ) (record { few = v.few; sizes = v.sizes; packs = v.packs }) in
      every.turn_reply of_tray tray_did did_same TrayWf f w tray_replying x fits s
      (ap (λ (b : List ℕ). tray_reply t b (tray_reach τ t b) τ ++ drop t.count (part (length room - used) room used)) (sym m)) (eb ∙ d.rest)
