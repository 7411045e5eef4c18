-- `runs::span` meets its contract. The invariant: what is behind and what is still ahead make the whole.
use Rattle.runs.proofs.Wholes.{Spanning}
use Rattle.runs.proofs.span.Given as goal

abbrev pub invariant-loop : goal.invariant-loop
invariant-loop l = Spanning l.most l.bytes l.counter l.at
