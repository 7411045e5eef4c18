-- `text::put_codes` meets its contract, by the laws of its loop.
use mathlib.Core.Path.{◌≡◌}
use Prim.Native.Nat.{◌+◌}
use lib.ListN.{length}
use Rattle.digits.specs.Digits.{packed_of}
use Rattle.text.specs.Text.{last_width}
use Rattle.text.proofs.Going.{Going}
use Rattle.text.proofs.put_codes.Given as goal

abbrev pub invariant-loop-i : goal.invariant-loop-i
invariant-loop-i l = Going (last_width l.first (length l.codes) + 12) l.first l.codes l.replies l.initial.page l.page l.used l.i ×
    (l.four ≡ packed_of (l.first + l.i))
