-- `live_tray::serve` meets the contracts of what it calls.
use Rattle.live_tray.proofs.TrayServing.{TrayServing}
use Rattle.live_tray.proofs.serve.Given as goal

abbrev pub invariant-loop : goal.invariant-loop
invariant-loop l =
    TrayServing l.initial.bytes l.initial.replies l.initial.answers l.initial.out l.bytes l.replies l.answers l.out l.tray l.count l.number l.counter
