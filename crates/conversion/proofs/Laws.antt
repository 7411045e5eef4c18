-- What the definitions keep: a meter is well-formed after each event.
use mathlib.Core.Path.{◌≡◌, refl}
use mathlib.Core.Bool.{true, false}
use Prim.Native.Nat.{ℕ, ◌+◌, ◌≤◌}
use Rattle.numbers.specs.Choice.{both}
use Rattle.params.specs.declared.Limits.{Limits}
use Rattle.state.specs.declared.Charge.{Charge}
use Rattle.state.specs.State.{MeterWf, counts_cycles}
use Rattle.conversion.specs.Conversion.{with_charge, with_cycles, fall_of, advanced_of, cycled_of, eighth, found_of, charged_of, flowed_of}
use Rattle.conversion.proofs.FullLaws.{settled_wf, averaged_wf}
use Rattle.state.specs.declared.Meter.{Meter}

-- ---- conversion

-- the cycle counter advances where the profile has one, and stays where it has none
pub charged_counts : (m : Meter) (full40 : ℕ) (g : Charge) → counts_cycles m.cells.profile ≡ true
    → with_cycles (with_charge m g) (advanced_of full40 m.cycles.count (m.cycles.rest + fall_of m.charge.count g.count)) ≡ charged_of m full40 g
unfolding cycled_of
charged_counts m full40 g e = rw e refl

pub charged_stays : (m : Meter) (full40 : ℕ) (g : Charge) → counts_cycles m.cells.profile ≡ false → with_charge m g ≡ charged_of m full40 g
unfolding cycled_of
charged_stays m full40 g e = rw e refl

pub flowed_wf : (m : Meter) (p : Limits) (full40 c : ℕ)
    → (both (eighth m.flow.average) (found_of m.flow.average m.flow.since p c) ≡ true → full40 ≤ 65535) → c ≤ 65535 → MeterWf m →
    MeterWf (flowed_of m p full40 c)
unfolding flowed_of
flowed_wf m p full40 c q h w = record {
  charge = settled_wf m.charge m.shown.model.full full40 w.charge _ w.full q;
  average = averaged_wf m.flow.average c h w.average;
  full = w.full;
  volt = w.volt;
  temp = w.temp;
}
