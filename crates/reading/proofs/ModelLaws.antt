-- Bounds of the lines.
use Prim.Native.Nat.{ℕ, ◌≤◌}
use native.Mathlib.Omega.{arith}
use Rattle.params.specs.declared.Curves.{Curves}
use Rattle.reading.specs.Reading.{model_lines}

pub lines_full : (p : Curves) (t : ℕ) → (model_lines p t).full ≤ 16384
unfolding model_lines
lines_full p t = omega arith

pub lines_ae : (p : Curves) (t : ℕ) → (model_lines p t).ae ≤ 8191
unfolding model_lines
lines_ae p t = omega arith
