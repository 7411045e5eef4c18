-- A gauge that stands among bytes, the bytes of a tray, and what a step asks of them.
use Rattle.std.specs.Prelude.{◌≡◌, Bool, false, List, ℕ, ◌+◌, ◌≤◌, length}
use Rattle.numbers.specs.Choice.{pick}
use Rattle.slices.specs.Slices.{part, put}
use Rattle.bus.specs.declared.Transaction.{Transaction}
use Rattle.state.specs.declared.Common.{Common}
use Rattle.state.specs.declared.Meter.{Meter}
use Rattle.gauge.specs.declared.Gauge.{Gauge}
use Rattle.gauge.specs.Gauge.{GaugeWf}
use Rattle.tray_record.specs.declared.Tray.{Tray}
use Rattle.std.specs.Prelude.{is_some}
use Rattle.tray_record.specs.Tray.{search_of, image_at, answer_of, TrayWf}
use Rattle.state_bytes.specs.State.{gauge_layout}
use Rattle.state_bytes.specs.TrayState.{tray_state_bytes}

unfoldable pub gauge_at : List ℕ → ℕ → Gauge
gauge_at state at = gauge_layout.at state at

-- a gauge with another common part and meter
abbrev pub with_common : Gauge → Common → Meter → Gauge
with_common gauge common meter = record { label = gauge.label; common = common; meter = meter }

-- it stands there whole: its bytes are those that it is written as, and it is well-formed
pub record Placed (state : List ℕ) (at : ℕ) : Type 0 where
  pub inside : at + 170 ≤ length state
  pub whole : part 170 state at ≡ gauge_layout.out (gauge_at state at)
  pub wf : GaugeWf (gauge_at state at)

-- another stands there, and all else is as it was
pub record Became (state : List ℕ) (at : ℕ) (gauge : Gauge) (after : List ℕ) : Type 0 where
  pub written : after ≡ put state at (gauge_layout.out gauge)
  pub wf : GaugeWf gauge

-- the bytes are a tray's, which is well-formed
pub record TrayBecame (tray : Tray) (after : List ℕ) : Type 0 where
  pub written : after ≡ tray_state_bytes tray
  pub wf : TrayWf tray

-- what a pack answers on the line
abbrev pub answer_by : Transaction → Gauge → List ℕ
answer_by t gauge = answer_of t gauge.common gauge.label gauge.meter

-- whether a pack of a tray has the address of the image at the front of some bytes
abbrev pub known_in : Tray → List ℕ → Bool
known_in tray l = pick (image_at l) (is_some (search_of tray.commons tray.count (part 8 l 4))) false
