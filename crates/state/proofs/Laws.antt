-- What a power-on leaves.
use Rattle.std.proofs.Common.{◌≡◌, ◌≤◌, ap, arith}
use Rattle.state.specs.State.{MeterWf, powered_of, restarted_of}
use Rattle.state.specs.declared.Cells.{Cells}
use Rattle.state.specs.declared.Meter.{Meter}

pub power_wf : (c : Cells) → c.saved.acr ≤ 65535 → MeterWf (powered_of c)
unfolding powered_of
power_wf c h = omega arith

-- and meters with the same cells power on to the same: nothing else outlives it, the rest neither
pub restarted_alike : (m n : Meter) → m.cells ≡ n.cells → restarted_of m ≡ restarted_of n
restarted_alike m n e = ap powered_of e
