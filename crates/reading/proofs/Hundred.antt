-- A full pack says 100: the charge at full, rounded up, covers AF × Full40, so that N is at least D.
use mathlib.Core.Path.{◌≡◌, refl, ap, ◌∙◌}
use mathlib.Core.Bool.{true, false}
use Prim.Native.Nat.{ℕ, ◌-◌, ◌*◌, ◌≤◌, ◌<◌}
use native.Mathlib.Nat.{mul_comm, mul-sub}
use native.Mathlib.Omega.{arith}
use Rattle.params.specs.declared.Capacity.{Capacity}
use Rattle.params.specs.Params.{capacity_of}
use Rattle.state.specs.declared.Charge.{Charge}
use Rattle.state.specs.State.{acr_of}
use Rattle.conversion.specs.Conversion.{aged_full_of, filled_of, settled_of, flowed_of, convert_of, charge_in, corrects_full}
use Rattle.conversion.proofs.ChargeLaws.{share_up_covers}
use Rattle.conversion.proofs.FullLaws.{filled_acr}
use Rattle.state.specs.declared.Model.{Model}
use Rattle.reading.proofs.Laws.{percent_full, percent_none}
use Rattle.reading.specs.Reading.{left_of, usable_of, percent_of, results_of, rated_of, flagged_of, results_shown, read_of, seen_in}
use Rattle.reading.specs.Hundred.{left_at_full, left_in, usable_in, AfterFull, Says, Hundred}
use Rattle.state.specs.declared.Meter.{Meter}

-- ---- the numbers

-- D, where the charge covers AF × Full40, is at most N
usable_left : (acr af ae full40 : ℕ) → af * full40 ≤ 16384 * acr → usable_of af ae full40 ≤ left_of acr ae full40
unfolding usable_of left_of
usable_left acr af ae full40 h =
    omega (arith, mul_comm (af - ae) full40 ∙ mul-sub full40 af ae, mul_comm full40 af, mul_comm full40 ae)

-- ---- the results, where ACR, AS, FULL and Full40 are as full left them

module _ (g h : Charge) (l : Model) (p : Capacity) (full full40 : ℕ) where
  record AsFull : Type 0 where
    acr : acr_of h.count ≡ acr_of (filled_of g full full40).count
    aging : h.aging ≡ (filled_of g full full40).aging
    full' : l.full ≡ full
    full40' : p.full40 ≡ full40

  -- D
  abbrev span : ℕ
  span = usable_of (aged_full_of l.full h.aging) l.ae p.full40

  covered : AsFull → aged_full_of l.full h.aging * p.full40 ≤ 16384 * acr_of h.count
  covered s =
      let aging = (filled_of g full full40).aging in
      rw (s.acr ∙ filled_acr g full full40, s.aging, s.full', s.full40') (share_up_covers (aged_full_of full aging) full40)

  full_says_100 : AsFull → 0 < span → (rated_of h l p).rarc ≡ 100
  unfolding rated_of results_of
  full_says_100 s some = percent_full _ _ some (usable_left _ _ _ _ (covered s))

  none_says_0 : span ≡ 0 → (rated_of h l p).rarc ≡ 0
  unfolding rated_of results_of
  none_says_0 e = ap (percent_of (left_of (acr_of h.count) l.ae p.full40)) e ∙ percent_none _

-- ---- full is found in a conversion

module _ (m : Meter) (raw : ℕ) where
  fills : corrects_full m raw ≡ true
      → (convert_of m raw).charge ≡ filled_of (charge_in m raw) m.shown.model.full (capacity_of m.cells.block.shadow).full40
  unfolding convert_of flowed_of settled_of
  fills e = rw e refl

  pub sets : corrects_full m raw ≡ true → (convert_of m raw).shown.flags.chgtf ≡ true
  unfolding convert_of flowed_of
  sets e = rw e refl

-- ---- and a reading comes

module _ (m : Meter) (volt temp : ℕ) where
  pub full_stays : (k : Meter) (raw : ℕ) → corrects_full k raw ≡ true → AfterFull (left_at_full k raw) m volt temp
      → Says m volt temp 100 m.shown.flags.chgtf
  unfolding read_of results_shown flagged_of
  full_stays k raw found a =
      let e = fills k raw found in
      let left = left_in m volt temp in
      let lines = (seen_in m volt temp).lines in
      let capacity = capacity_of m.cells.block.shadow in
      let s : AsFull (charge_in k raw) left lines capacity k.shown.model.full (capacity_of k.cells.block.shadow).full40 =
      record {
        acr = a.acr ∙ ap (λ (g : Charge). acr_of g.count) e;
        aging = a.aging ∙ ap (λ (g : Charge). g.aging) e;
        full' = a.full;
        full40' = a.full40;
      } in
      let r = full_says_100 _ left lines capacity _ _ s a.some in
      record { rarc = r; chgtf = rw r refl }

  pub none_drops : usable_in m volt temp ≡ 0 → Says m volt temp 0 false
  unfolding read_of results_shown flagged_of
  none_drops e =
      let left = left_in m volt temp in
      let r = none_says_0 left left (seen_in m volt temp).lines (capacity_of m.cells.block.shadow) 0 0 e in
      record { rarc = r; chgtf = rw r refl }

-- so of the reading that comes next
pub full_then_100 : (k : Meter) (raw : ℕ) → corrects_full k raw ≡ true → (volt temp : ℕ) → AfterFull (left_at_full k raw) (convert_of k raw) volt temp
    → Says (convert_of k raw) volt temp 100 true
full_then_100 k raw found volt temp a =
    let s = full_stays (convert_of k raw) volt temp k raw found a in
    record { rarc = s.rarc; chgtf = s.chgtf ∙ sets k raw found }

pub hundred_holds : Hundred
hundred_holds = record { stays = λ k raw found m volt temp a. full_stays m volt temp k raw found a; next = full_then_100; none = none_drops }
