-- `live::serve` meets the contracts of what it calls.
use Rattle.live.proofs.Serving.{Serving}
use Rattle.live.proofs.serve.Given as goal

abbrev pub invariant-loop : goal.invariant-loop
invariant-loop l =
    Serving l.initial.bytes l.initial.replies l.initial.answers l.initial.out l.bytes l.replies l.answers l.out l.session l.count l.number l.counter
