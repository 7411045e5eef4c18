-- `mending::arranged` meets its contract: each of the three by itself.
use Rattle.std.proofs.Common.{◌≡◌}
use Rattle.mending.specs.Mending.{arranged_of}
use Rattle.mending.proofs.arranged.Goals as goal

largest : (c : goal.After-min-2) → c.max.result ≡ (arranged_of c.args.breaks).b34
unfolding arranged_of
largest c = cc

middle : (c : goal.After-min-2) → c.max-2.result ≡ (arranged_of c.args.breaks).b23
unfolding arranged_of
middle c = cc

smallest : (c : goal.After-min-2) → c.min-2.result ≡ (arranged_of c.args.breaks).b12
unfolding arranged_of
smallest c = cc

pub returns : goal.returns
returns c = λ i. record { b34 = largest c i; b23 = middle c i; b12 = smallest c i }
