-- `block1::meter_written` meets its contract: from 20h on no register is reached, and what is written to the cells leaves profile and lock bit.
use mathlib.Core.Path.{◌≡◌, refl}
use mathlib.Core.List.{List}
use Prim.Native.Nat.{ℕ}
use Rattle.state.specs.declared.Meter.{Meter}
use Rattle.conversion.specs.Conversion.{with_flags}
use Rattle.state.specs.declared.Charge.{Charge}
use Rattle.block1.specs.Block1.{acr_written_of, cycles_written_of, cells_written_of, flags_written_of, meter_written_of}
use Rattle.block1.proofs.Kept.{written_above}
use Rattle.block1.proofs.meter_written.Goals as goal

flowing : (m : Meter) (a : ℕ) (bytes : List ℕ) → m.flow ≡ (meter_written_of m a bytes).flow
unfolding meter_written_of
flowing m a bytes = refl

charging : (m : Meter) (a : ℕ) (bytes : List ℕ) {charge : Charge} → charge ≡ acr_written_of m.charge a bytes → charge ≡ (meter_written_of m a bytes).charge
unfolding meter_written_of
charging m a bytes h = h

pub returns-then-a-lt32-clause-value : goal.returns-then-a-lt32-clause-value
unfolding meter_written_of cycles_written_of
returns-then-a-lt32-clause-value c = let m = c.args.meter in
    let a = c.args.a in
    let bytes = c.args.bytes.now in
    simp (c.porf_written-meter.ensures, c.cycles_written-meter.ensures, c.cells_written-meter.ensures)
    (λ i. record {
      cells = cells_written_of m.cells a bytes;
      charge = charging m a bytes c.acr_written-meter.ensures.value i;
      cycles = cycles_written_of m.cycles m.cells a bytes;
      flow = flowing m a bytes i;
      shown = with_flags m.shown (flags_written_of m.shown.flags a bytes);
    })

pub returns-else-a-lt32-clause-value : goal.returns-else-a-lt32-clause-value
returns-else-a-lt32-clause-value c =
    rw (written_above c.args.meter c.args.a c.args.bytes.now c.if-a-lt32.false) (simp c.cells_written-meter.ensures)
