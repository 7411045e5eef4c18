-- What a transaction does, and the bytes that it is answered with.
use Rattle.std.specs.Prelude.{ℕ, Bool, true, false, List, drop}
use Rattle.numbers.specs.Choice.{pick}
use Rattle.bus.specs.declared.Command.{Command}
use Rattle.bus.specs.declared.Command.TheVariants.{Read, Write, Copy, Recall, Lock, Nothing}
use Rattle.bus.specs.declared.Transaction.{Transaction}
use Rattle.replies.specs.Reply.{selected_of, replied_of}
use Rattle.gauge.specs.declared.Gauge.{Gauge}
use Rattle.gauge.specs.Gauge.{written_of, copied_of, recalled_of, locked_of}

-- the function command at the address a, with the master bytes after it
abbrev pub ran_by : Command → Gauge → ℕ → List ℕ → Gauge
ran_by Read gauge a bytes = gauge
ran_by Write gauge a bytes = written_of gauge a bytes
ran_by Copy gauge a bytes = copied_of gauge a
ran_by Recall gauge a bytes = recalled_of gauge a
ran_by Lock gauge a bytes = locked_of gauge a
ran_by Nothing gauge a bytes = gauge

-- the commands that can change a gauge: the code hands it to these alone, since with the others `ran_by` leaves it as it is
abbrev pub can_change : Command → Bool
can_change Read = false
can_change Write = true
can_change Copy = true
can_change Recall = true
can_change Lock = true
can_change Nothing = false

unfoldable pub ran_of : Gauge → Transaction → List ℕ → Gauge
ran_of gauge transaction master = ran_by transaction.command gauge transaction.address (drop transaction.from master)

-- the gauge after a transaction: where nothing is selected, nothing happens
unfoldable pub act_of : Gauge → Transaction → List ℕ → Gauge
act_of gauge transaction master = pick (selected_of gauge.common.address transaction master) (ran_of gauge transaction master) gauge

-- its reply, by the gauge before it
unfoldable pub reply_of : Gauge → Transaction → List ℕ → List ℕ
reply_of gauge transaction master = replied_of (selected_of gauge.common.address transaction master) gauge.common gauge.label gauge.meter transaction
