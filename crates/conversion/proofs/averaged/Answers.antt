use borrow.Author.Rules.{rules}
use Rattle.conversion.specs.Conversion.{averaged_of}
use Rattle.conversion.proofs.averaged.Goals as goal

pub returns-then-average-eq7 : goal.returns-then-average-eq7
unfolding averaged_of
returns-then-average-eq7 c = search rules

pub returns-else-average-eq7 : goal.returns-else-average-eq7
unfolding averaged_of
returns-else-average-eq7 c = search rules
