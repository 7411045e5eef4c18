-- The cycle counter, proved.
use mathlib.Core.Path.{◌≡◌, refl, sym}
use mathlib.Core.Bool.{false}
use Prim.Native.Nat.{ℕ, ◌+◌, ◌*◌, ◌/◌, ◌<◌, min}
use native.Mathlib.Nat.{div-add-mod', mod-lt, div-zero}
use native.Mathlib.Omega.{arith}
use borrow.Author.Tests.{ne_eqb}
use Rattle.state.specs.declared.Cycles.{Cycles}
use Rattle.state.specs.declared.Profile.{Profile}
use Rattle.state.specs.declared.Profile.TheVariants.{Ds2775}
use Rattle.state.specs.State.{counts_cycles}
use Rattle.conversion.specs.Conversion.{cycled_of}
use Rattle.conversion.proofs.CycleCounter.{convert_cycles, powered_cycles_lem}
use Rattle.conversion.proofs.CycleLaws.{cycled_more}
use Rattle.reading.proofs.CycleCounter.{read_cycles}
use Rattle.demands.specs.Cycles.{Cycled, CycleRules}

stepped : (full40 : ℕ) (cycles : Cycles) (fall : ℕ) → 0 < full40
    → Cycled full40 cycles.count (cycles.rest + fall) (cycled_of Ds2775 full40 cycles fall)
unfolding cycled_of
stepped full40 cycles fall some =
    let other = ne_eqb full40 0 (λ e. omega arith) in
    let t = cycles.rest + fall in
    record {
      steps = t / (2 * full40);
      rest = rw other (sym (div-add-mod' t (2 * full40)));
      small = rw other (mod-lt t (omega arith));
      stops = refl;
    }

without : (cycles : Cycles) (fall : ℕ) → cycled_of Ds2775 0 cycles fall ≡ record { count = min cycles.count 255; rest = 0 }
unfolding cycled_of
without cycles fall = λ i. record { count = same i; rest = 0 }
  where
    same : min (cycles.count + (cycles.rest + fall) / (2 * 0)) 255 ≡ min cycles.count 255
    same = rw (div-zero (cycles.rest + fall)) (omega arith)

still : (profile : Profile) (full40 : ℕ) (cycles : Cycles) (fall : ℕ) → counts_cycles profile ≡ false → cycled_of profile full40 cycles fall ≡ cycles
unfolding cycled_of
still profile full40 cycles fall e = rw e refl

pub cycle_rules : CycleRules
cycle_rules = record {
  converted = convert_cycles;
  read = read_cycles;
  fallen = stepped;
  without = without;
  joined = cycled_more;
  uncounted = still;
  powered = powered_cycles_lem;
}
