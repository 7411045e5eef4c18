use mathlib.Core.Path.{◌≡◌}
use Prim.Native.Nat.{◌-◌}
use lib.ListN.{drop}
use Rattle.std.specs.Prelude.{None}
use Rattle.bus.specs.Ask.{same_bytes}
use Rattle.tray_record.specs.Tray.{no_gauge, search_from, search_of}
use Rattle.tray_record.proofs.search.Given as goal

abbrev pub invariant-loop-j : goal.invariant-loop-j
invariant-loop-j l = (l.found ≡ None) × (same_bytes (drop l.j l.own) (drop l.j l.address) ≡ same_bytes l.own l.address)

abbrev pub invariant-slots : goal.invariant-slots
invariant-slots l = (l.found ≡ None) × (search_from l.commons no_gauge.common l.address l.slot (l.count - l.slot) ≡ search_of l.commons l.count l.address)
