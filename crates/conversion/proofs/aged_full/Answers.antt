use borrow.Author.Rules.{rules}
use Rattle.conversion.specs.Conversion.{aged_full_of}
use Rattle.conversion.proofs.aged_full.Goals as goal

pub returns : goal.returns
unfolding aged_full_of
returns c = search rules
